use Rattle.std.proofs.Common.{◌≡◌, ◌∷◌, ◌++◌, [], ℕ, Option, map, subst}
use Rattle.std.specs.Prelude.{OnOk}
use Rattle.run_waves.specs.Telling.{seen_in}
use Rattle.run_waves.specs.Watching.{copy_around, next_address}
use Rattle.run_waves.specs.declared.groups.Group.TheVariants as part
use Rattle.tl_types.specs.declared.message.Channel.TheVariants.{A}
use Rattle.run_waves.proofs.Keeping.{kept_last}
use Rattle.run_waves.proofs.watching.keep_step.Goals as goal

pub returns : goal.returns
returns c =
    let s = c.args.machine.now in
    let h = c.args.hart in
    kept_last c.keep_around.result s _ _ _ (part.Hart h ∷ part.Queue h A ∷ []) (copy_around s h (next_address s h)) c.in_ok-keep.ensures
    (subst (λ (a : Option ℕ). OnOk c.keep_around.result (c.keep_around.new.seen.items ≡ c.keep.new.seen.items ++ map (seen_in s) (copy_around s h a))) c.address_at.ensures c.keep_around.ensures)
