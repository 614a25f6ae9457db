use Rattle.std.proofs.Common.{ℕ, List, [], ◌∷◌, ◌++◌, ◌∙◌, ap, replicate}
use Rattle.std.proofs.lemmas.List.{replicate-append-replicate}
use Rattle.rvwmo_order.proofs.sourcing.none_noted.Goals as goal

pub loop-place-preserved : goal.loop-place-preserved
loop-place-preserved c =
    c.in_ok-push.ensures.items
    ∙ (ap (λ (own : List (List ℕ)). own ++ replicate 4 0 ∷ []) c.loop-place.invariant ∙ replicate-append-replicate c.loop-place.place 1 (replicate 4 0))
