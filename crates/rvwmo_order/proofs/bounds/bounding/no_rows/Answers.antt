use Rattle.std.proofs.Common.{List, [], ◌∷◌, ◌++◌, ◌∙◌, ap}
use Rattle.std.proofs.lemmas.List.{replicate-append-replicate}
use Rattle.rvwmo_order.specs.Bounds.{unbounded}
use Rattle.rvwmo_order.specs.declared.bounds.rows.Row.{Row}
use Rattle.rvwmo_order.proofs.bounds.bounding.no_rows.Goals as goal

pub loop-place-preserved : goal.loop-place-preserved
loop-place-preserved c =
    c.in_ok-push.ensures.items
    ∙ (ap (λ (rows : List Row). rows ++ unbounded ∷ []) c.loop-place.invariant ∙ replicate-append-replicate c.loop-place.place 1 unbounded)
