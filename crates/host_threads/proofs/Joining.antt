-- What the next thread that is joined adds to what is known of all.
use Rattle.std.proofs.Common.{◌≡◌, List, [], ◌∷◌, ◌++◌, subst, sym}
use Rattle.std.proofs.lemmas.List.Elements.{All-head, All-push, All-rest}
use Rattle.std.specs.List.{All}

module _ {X Y C : Type 0} (promise : X → C) (Back : C → Y → Type 0) (common : C) where
  -- each thread promised what a worker of these hands back, and hands back what it promised
  pub joined : (thread : X) (from rest : List X) (one : Y) (done more : List Y) → from ≡ thread ∷ rest → more ≡ done ++ one ∷ [] → Back (promise thread) one
      → All (λ t. promise t ≡ common) from × All (Back common) done → All (λ t. promise t ≡ common) rest × All (Back common) more
  joined thread from rest one done more next pushed kept was =
      let first : promise thread ≡ common = All-head (λ t. promise t ≡ common) thread rest (subst (All (λ t. promise t ≡ common)) next was.0) in (
        All-rest (λ t. promise t ≡ common) thread rest from next was.0,
        subst (All (Back common)) (sym pushed) (All-push (Back common) done one was.1 (subst (λ c. Back c one) first kept)),
      )
