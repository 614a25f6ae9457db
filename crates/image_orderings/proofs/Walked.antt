-- What is found from an address on is what stands there, and then what is found from the next word on.
use Rattle.std.proofs.Common.{◌≡◌, ◌∙◌, ◌++◌, ◌∷◌, ◌+◌, ◌-◌, ◌<◌, [], ℕ, All, Bool, List, append_assoc, arith, false, if◌then◌else◌, map, suc, sym, true, true≢false, zero}
use Rattle.std.proofs.lemmas.List.{append-nil}
use Rattle.std.proofs.lemmas.List.Elements.{All-cons, All-nil}
use Rattle.elf_loader.specs.Image.{HasWord, Initial, word_at}
use Rattle.image_orderings.proofs.Variants.{itself}
use Rattle.image_orderings.specs.Adding.{may_be_more, patch_at, places_at, places_from}
use Rattle.image_orderings.specs.Orderings.{at, orderings_at, orderings_from}
use Rattle.image_orderings.specs.Replaced.{IsPatchOf}
use Rattle.image_orderings.specs.declared.orderings.ImageOrdering.{ImageOrdering}
use Rattle.image_orderings.specs.declared.orderings.Part.{Part}
use Rattle.image_orderings.specs.declared.replacing.Patch.{Patch}

pub one_walked : (image : Initial) (address left : ℕ) (found : List ImageOrdering) → 0 < left
    → (found ++ orderings_at image address) ++ orderings_from image (address + 4) (left - 1) ≡ found ++ orderings_from image address left
one_walked image address zero found some = absurd (omega arith)
one_walked image address (suc left) found some =
    let e : suc left - 1 ≡ left = omega arith in
    rw e (append_assoc found (orderings_at image address) (orderings_from image (address + 4) left))

-- what stands at an address has a word there
pub at_inside : (image : Initial) (address : ℕ) (parts : List Part) → HasWord image address → All (λ (o : ImageOrdering). HasWord image o.address) (map (at address) parts)
at_inside image address [] h = All-nil (λ (o : ImageOrdering). HasWord image o.address)
at_inside image address (p ∷ parts) h = All-cons (λ (o : ImageOrdering). HasWord image o.address) (at address p) (map (at address) parts) h (at_inside image address parts h)

-- the same of places that may order more
pub place_walked : (image : Initial) (address left : ℕ) (found : List Patch) → 0 < left
    → (found ++ places_at image address) ++ places_from image (address + 4) (left - 1) ≡ found ++ places_from image address left
place_walked image address zero found some = absurd (omega arith)
place_walked image address (suc left) found some =
    let e : suc left - 1 ≡ left = omega arith in
    rw e (append_assoc found (places_at image address) (places_from image (address + 4) left))

pub place_inside : (image : Initial) (address : ℕ) → HasWord image address → All (IsPatchOf image) (places_at image address)
place_inside image address h =
    elim (may_be_more (word_at image address)) as (λ b. All (IsPatchOf image) (if b then patch_at address (word_at image address) ∷ [] else [])) [
      | true ↦ All-cons (IsPatchOf image) (patch_at address (word_at image address)) [] (record { place = h; variant = itself (word_at image address) }) (All-nil (IsPatchOf image))
      | false ↦ All-nil (IsPatchOf image)
    ]

-- one more element, where a test holds, and none where it doesn't
pub added_if : {A : Type 0} (test more : Bool) (x : A) (old new : List A) → more ≡ test → more ≡ true → new ≡ old ++ x ∷ [] → new ≡ old ++ (if test then x ∷ [] else [])
added_if true more x old new is so e = e
added_if false more x old new is so e = absurd (true≢false (sym so ∙ is))

pub none_if : {A : Type 0} (test more : Bool) (x : A) (old : List A) → more ≡ test → more ≡ false → old ≡ old ++ (if test then x ∷ [] else [])
none_if true more x old is so = absurd (true≢false (sym is ∙ so))
none_if false more x old is so = sym (append-nil old)
