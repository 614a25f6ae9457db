-- One more word as it is.
use Rattle.std.proofs.Common.{◌≡◌, ◌∙◌, ◌++◌, ◌∷◌, ◌-◌, ◌≤◌, [], All, List, ap, arith, drop, get_or, length, subst, sym, take}
use Rattle.std.proofs.lemmas.List.{append_assoc, length-drop, take_all}
use Rattle.std.proofs.lemmas.List.Elements.{All-head, All-push, All-tail}
use Rattle.elf_loader.specs.Image.{HasWord, Initial, word_at}
use Rattle.image_orderings.proofs.Variants.{itself}
use Rattle.image_orderings.specs.Programs.{own_patch, own_patches}
use Rattle.image_orderings.specs.Replaced.{IsPatchOf}
use Rattle.image_orderings.specs.declared.orderings.ImageOrdering.{ImageOrdering}
use Rattle.image_orderings.specs.declared.replacing.Patch.{Patch}

pub first_is : {A : Type 0} (xs : List A) (d : A) → 1 ≤ length xs → xs ≡ get_or xs 0 d ∷ take (length xs - 1) (drop 1 xs)
first_is [] d some = absurd (omega (arith, some))
first_is {A} (x ∷ xs) d some = ap (λ (r : List A). x ∷ r) (sym (take_all (length (x ∷ xs) - 1) (drop 1 (x ∷ xs)) (omega (arith, length-drop 1 (x ∷ xs)))))

abbrev pub IsDoneTo : Initial → (all rest : List ImageOrdering) → List Patch → Type 0
IsDoneTo image all rest made =
    (made ++ own_patches image rest ≡ own_patches image all)
    × (All (λ (o : ImageOrdering). HasWord image o.address) rest × All (IsPatchOf image) made)

pub one_more : (image : Initial) (all rest tail : List ImageOrdering) (o : ImageOrdering) (made new : List Patch) → rest ≡ o ∷ tail → new ≡ made ++ own_patch image o ∷ []
    → IsDoneTo image all rest made → IsDoneTo image all tail new
one_more image all rest tail o made new e n was =
    let P = λ (o : ImageOrdering). HasWord image o.address in
    let left : All P (o ∷ tail) = subst (All P) e was.1.0 in
    let same : made ++ own_patches image (o ∷ tail) ≡ own_patches image all = subst (λ (r : List ImageOrdering). made ++ own_patches image r ≡ own_patches image all) e was.0 in (
      ap (λ (xs : List Patch). xs ++ own_patches image tail) n ∙ (append_assoc made (own_patch image o ∷ []) (own_patches image tail) ∙ same),
      (All-tail P o tail left, subst (All (IsPatchOf image)) (sym n) (All-push (IsPatchOf image) made (own_patch image o) was.1.1 (record { place = All-head P o tail left; variant = itself (word_at image o.address) }))),
    )
