-- Words that can be shown lie at multiples of 4.
use Rattle.std.proofs.Common.{ℕ, ◌≡◌, ◌%◌, ◌==◌, List, [], ◌∷◌, IsTrue, refl, true}
use Rattle.std.specs.List.{AllByRecursion}
use Rattle.std.proofs.lemmas.Bool.{and_from, eq-eqb}
use Rattle.std.proofs.lemmas.List.Elements.{recursion_from_All}
use Rattle.elf_loader.specs.Image.{Initial}
use Rattle.performed_words.specs.Words.{CanShow, CanShowEach, are_aligned}

each : (image : Initial) (addresses : List ℕ) → AllByRecursion (CanShow image) addresses → are_aligned addresses ≡ true
each image [] all = refl
each image (address ∷ rest) all = and_from (address % 4 == 0) (are_aligned rest) (eq-eqb (address % 4) 0 all.0.0) (each image rest all.1)

pub aligned : (image : Initial) (addresses : List ℕ) → CanShowEach image addresses → IsTrue (are_aligned addresses)
aligned image addresses all = each image addresses (recursion_from_All (CanShow image) addresses all)
