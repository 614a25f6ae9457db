use Rattle.std.proofs.Common.{◌∙◌, ◌++◌, ◌∷◌, [], ap}
use Rattle.image_orderings.proofs.Own.{first_is, one_more}
use Rattle.image_orderings.specs.declared.replacing.Patch.{Patch}
use Rattle.image_orderings.proofs.programs.own_patches.Goals as goal

pub loop-rest-preserved : goal.loop-rest-preserved
loop-rest-preserved c =
    let old = c.loop-rest.made.items in
    one_more c.args.image.now c.args.orderings.now c.loop-rest.rest.now _ _ old _
    (first_is c.loop-rest.rest.now _ c.in-len1-up.len_at_least)
    (c.in_ok-push.ensures.items ∙ ap (λ (p : Patch). old ++ p ∷ []) c.own_patch.ensures)
    c.loop-rest.invariant
