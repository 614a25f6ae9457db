-- To each word a hart may come, or none ever does.
use Rattle.std.proofs.Common.{◌≡◌, ℕ, All, Bool, List, false, inl, inr, refl, true}
use Rattle.std.proofs.lemmas.List.Elements.{All-weaker}
use Rattle.elf_loader.specs.Image.{HasWord, Initial}
use Rattle.image_orderings.specs.Flow.{may_come_to}
use Rattle.image_orderings.specs.Meeting.{IsMetOrNever}
use Rattle.image_orderings.specs.Never.{NoneComes}

pub met_or_never : NoneComes → (image : Initial) (address : ℕ) → HasWord image address → IsMetOrNever image address
met_or_never none image address inside = go (may_come_to image address) refl
  where
    go : (b : Bool) → may_come_to image address ≡ b → IsMetOrNever image address
    go true e = inl e
    go false e = inr (none image address inside e)

pub each_met_or_never : {X : Type 0} → NoneComes → (image : Initial) (place : X → ℕ) (xs : List X) → All (λ x. HasWord image (place x)) xs → All (λ x. IsMetOrNever image (place x)) xs
each_met_or_never {X} none image place xs all = All-weaker (λ (x : X). HasWord image (place x)) (λ (x : X). IsMetOrNever image (place x)) (λ x is. met_or_never none image (place x) is) xs all
