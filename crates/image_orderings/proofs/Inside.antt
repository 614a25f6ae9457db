-- A program with other words has them where it had words before, and they differ from the image's at most in what they order.
use Rattle.std.proofs.Common.{◌≡◌, ◌∙◌, ◌==◌, ◌∷◌, [], ℕ, All, Bool, IfOk, IfSome, List, Result, Some, ap, eqb-true, false, if◌then◌else◌, refl, subst, sym, true}
use Rattle.std.proofs.lemmas.List.Elements.{All-head, All-map, All-tail, All-weaker}
use Rattle.std.proofs.lemmas.Result.{IfOk-weaker}
use Rattle.elf_loader.specs.Image.{Initial, word_at}
use Rattle.image_orderings.proofs.Variants.{most_variant, variant_of_variant, without_variant}
use Rattle.image_orderings.specs.Adding.{patch_strengthened, patches_strengthened}
use Rattle.image_orderings.specs.Forms.{IsVariant, strengthened, without}
use Rattle.image_orderings.specs.Programs.{patch_with, patch_without, patches_with, patches_without, word_in}
use Rattle.image_orderings.specs.Replaced.{IsPatchOf, addresses_of}
use Rattle.image_orderings.specs.declared.orderings.ImageOrdering.{ImageOrdering}
use Rattle.image_orderings.specs.declared.replacing.Patch.{Patch}

stays_without : (image : Initial) (o : ImageOrdering) (p : Patch) → IsPatchOf image p → IsPatchOf image (patch_without o p)
stays_without image o p h =
    elim (p.address == o.address) as (λ b. IsPatchOf image (if b then record { address = p.address; word = without o.part p.word } else p)) [
      | true ↦ record { place = h.place; variant = variant_of_variant (word_at image p.address) p.word (without o.part p.word) h.variant (without_variant o.part p.word) }
      | false ↦ h
    ]

stays_with : (image : Initial) (address word : ℕ) → IsVariant (word_at image address) word → (p : Patch) → IsPatchOf image p → IsPatchOf image (patch_with address word p)
stays_with image address word is p h = go (p.address == address) refl
  where
    go : (b : Bool) → (p.address == address) ≡ b → IsPatchOf image (if b then record { address = p.address; word = word } else p)
    go true at = record { place = h.place; variant = subst (λ a. IsVariant (word_at image a) word) (sym (eqb-true p.address address at)) is }
    go false at = h

pub patches_stay_without : (image : Initial) (o : ImageOrdering) (patches : List Patch) → All (IsPatchOf image) patches → All (IsPatchOf image) (patches_without o patches)
patches_stay_without image o patches h =
    All-map (IsPatchOf image) (patch_without o) patches (All-weaker (IsPatchOf image) (λ (p : Patch). IsPatchOf image (patch_without o p)) (stays_without image o) patches h)

pub patches_stay_with : (image : Initial) (address word : ℕ) (patches : List Patch) → IsVariant (word_at image address) word → All (IsPatchOf image) patches → All (IsPatchOf image) (patches_with address word patches)
patches_stay_with image address word patches is h =
    All-map (IsPatchOf image) (patch_with address word) patches
    (All-weaker (IsPatchOf image) (λ (p : Patch). IsPatchOf image (patch_with address word p)) (stays_with image address word is) patches h)

pub patches_stay_strengthened : (image : Initial) (patches : List Patch) → All (IsPatchOf image) patches → All (IsPatchOf image) (patches_strengthened patches)
patches_stay_strengthened image patches h =
    All-map (IsPatchOf image) patch_strengthened patches
    (All-weaker (IsPatchOf image) (λ (p : Patch). IsPatchOf image (patch_strengthened p)) (λ p is. record { place = is.place; variant = variant_of_variant (word_at image p.address) p.word (strengthened p.word) is.variant (most_variant p.word) }) patches h)

-- the word at an address
pub word_stays : (image : Initial) (patches : List Patch) (address : ℕ) → All (IsPatchOf image) patches → IfSome (word_in patches address) (IsVariant (word_at image address))
word_stays image [] address h = tt
word_stays image (p ∷ rest) address h =
    go (p.address == address) refl (word_stays image rest address (All-tail (IsPatchOf image) p rest h))
  where
    first : IsPatchOf image p
    first = All-head (IsPatchOf image) p rest h

    go : (b : Bool) → (p.address == address) ≡ b → IfSome (word_in rest address) (IsVariant (word_at image address)) → IfSome (if b then Some p.word else word_in rest address) (IsVariant (word_at image address))
    go true at later = subst (λ a. IsVariant (word_at image a) p.word) (eqb-true p.address address at) first.variant
    go false at later = later

pub word_found : (image : Initial) (patches : List Patch) (address word : ℕ) → Some word ≡ word_in patches address → All (IsPatchOf image) patches → IsVariant (word_at image address) word
word_found image patches address word is h = subst (λ o. IfSome o (IsVariant (word_at image address))) (sym is) (word_stays image patches address h)

-- what a call's success says of what it made
pub if_made : {V X E : Type 0} (r : Result V E) (items : V → List X) (made : List X) (P : List X → Type 0) → P made → IfOk r (λ v. items v ≡ made) → IfOk r (λ v. P (items v))
if_made r items made P so is = IfOk-weaker r (λ v. items v ≡ made) (λ v. P (items v)) (λ v e. subst P (sym e) so) is

-- ---- it has them at the same addresses

pub addresses_without : (o : ImageOrdering) (patches : List Patch) → addresses_of (patches_without o patches) ≡ addresses_of patches
addresses_without o [] = refl
addresses_without o (p ∷ rest) = ap (λ (a : ℕ). a ∷ addresses_of (patches_without o rest)) same ∙ ap (λ (rest : List ℕ). p.address ∷ rest) (addresses_without o rest)
  where
    same : (patch_without o p).address ≡ p.address
    same = elim (p.address == o.address) as (λ b. (if b then record { address = p.address; word = without o.part p.word } else p).address ≡ p.address) [ true ↦ refl | false ↦ refl ]

pub addresses_with : (address word : ℕ) (patches : List Patch) → addresses_of (patches_with address word patches) ≡ addresses_of patches
addresses_with address word [] = refl
addresses_with address word (p ∷ rest) = ap (λ (a : ℕ). a ∷ addresses_of (patches_with address word rest)) same ∙ ap (λ (rest : List ℕ). p.address ∷ rest) (addresses_with address word rest)
  where
    same : (patch_with address word p).address ≡ p.address
    same = elim (p.address == address) as (λ b. (if b then record { address = p.address; word = word } else p).address ≡ p.address) [ true ↦ refl | false ↦ refl ]

pub addresses_strengthened : (patches : List Patch) → addresses_of (patches_strengthened patches) ≡ addresses_of patches
addresses_strengthened [] = refl
addresses_strengthened (p ∷ rest) = ap (λ (rest : List ℕ). p.address ∷ rest) (addresses_strengthened rest)
