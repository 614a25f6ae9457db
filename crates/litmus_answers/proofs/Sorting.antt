-- What is left of texts that are sorted, each once.
use Rattle.std.proofs.Common.{◌≡◌, ◌∙◌, ◌++◌, ℕ, suc, zero, List, [], ◌∷◌, Contains, IsPermutation, arith, refl, sym, subst, ap}
use Rattle.std.specs.Global.{Vec}
use Rattle.std.specs.Cmp.Lexicographic.{bytes_decides, on_texts, on_texts_equal, pointwise, texts_ties}
use Rattle.std.specs.List.{dedup}
use Rattle.std.specs.List.Retain.{DiffersFromLast, IsFiltered}
use Rattle.std.specs.List.Sorted.{IsSorted, IsStrictlySortedBy}
use Rattle.std.specs.Ordering.{on}
use Rattle.std.specs.Prelude.{nat_eq}
use Rattle.std.proofs.lemmas.List.Filters.{dedup_is}
use Rattle.std.proofs.lemmas.List.Kept.{Any-dedup, Contains-from_dedup, IsStrictlySortedBy-dedup}
use Rattle.std.proofs.lemmas.List.{map-append}
use Rattle.std.proofs.lemmas.List.Sorted.{Contains-permutation, IsPermutation-sym}
use Rattle.litmus_answers.specs.Naming.{AreSorted, plain, text_cmp}

-- ---- rows and what they hold

pub to_plain : (xs : List (Vec ℕ)) (r : Vec ℕ) → Contains xs r → Contains (plain xs) r.items
to_plain [] r (k, lt, e) = absurd (omega (arith, lt))
to_plain (x ∷ xs) r (zero, lt, e) = (0, omega arith, ap (λ (v : Vec ℕ). v.items) e)
to_plain (x ∷ xs) r (suc k, lt, e) = let more = to_plain xs r (k, omega (arith, lt), e) in (suc more.0, omega (arith, more.1), more.2)

pub from_plain : (xs : List (Vec ℕ)) (s : List ℕ) → Contains (plain xs) s → (r : Vec ℕ) × Contains xs r × (r.items ≡ s)
from_plain [] s (k, lt, e) = absurd (omega (arith, lt))
from_plain (x ∷ xs) s (zero, lt, e) = (x, (0, omega arith, refl), e)
from_plain (x ∷ xs) s (suc k, lt, e) = let more = from_plain xs s (k, omega (arith, lt), e) in (more.0, (suc more.1.0, omega (arith, more.1.1), more.1.2), more.2)

-- ---- sorted, each once

module _ (before sorted left : List (Vec ℕ)) (kept : IsFiltered (DiffersFromLast (on (λ (v : Vec ℕ). v.items) (pointwise nat_eq))) [] sorted left) where
  left_is : left ≡ dedup (on (λ (v : Vec ℕ). v.items) (pointwise nat_eq)) sorted
  left_is = dedup_is (on (λ (v : Vec ℕ). v.items) (pointwise nat_eq)) sorted left kept

  pub rises : IsSorted text_cmp sorted → IsStrictlySortedBy text_cmp left
  rises up = subst (IsStrictlySortedBy text_cmp) (sym left_is) (IsStrictlySortedBy-dedup (on_texts (λ (v : Vec ℕ). v.items)) (λ x y. texts_ties x.items y.items) sorted up)

  pub has_each : IsPermutation before sorted → (s : List ℕ) → Contains (plain before) s → Contains (plain left) s
  has_each moved s c =
      let row = from_plain before s c in
      let there = Contains-permutation before sorted row.0 moved row.1 in
      let left_one = Any-dedup (on_texts_equal (λ (v : Vec ℕ). v.items)) sorted row.0 there in
      let one : row.0.items ≡ left_one.1.items = (bytes_decides row.0.items left_one.1.items).0 left_one.4 in
      let in_left = subst (λ (l : List (Vec ℕ)). Contains l left_one.1) (sym left_is) (left_one.0, left_one.2, left_one.3) in
      subst (Contains (plain left)) (sym one ∙ row.2) (to_plain left left_one.1 in_left)

  pub has_no_other : IsPermutation sorted before → (s : List ℕ) → Contains (plain left) s → Contains (plain before) s
  has_no_other moved s c =
      let row = from_plain left s c in
      let in_dedup = subst (λ (l : List (Vec ℕ)). Contains l row.0) left_is row.1 in
      let in_sorted = Contains-from_dedup (on (λ (v : Vec ℕ). v.items) (pointwise nat_eq)) sorted row.0 in_dedup in
      subst (Contains (plain before)) row.2 (to_plain before row.0 (Contains-permutation sorted before row.0 moved in_sorted))

-- ---- the whole

pub pushed : (names : List (Vec ℕ)) (name : Vec ℕ) → plain (names ++ (name ∷ [])) ≡ plain names ++ (name.items ∷ [])
pushed names name = map-append (λ (v : Vec ℕ). v.items) names (name ∷ [])

pub sorted_once : (texts : List (List ℕ)) (before sorted left : List (Vec ℕ)) → plain before ≡ texts → IsPermutation before sorted → IsSorted text_cmp sorted
    → IsFiltered (DiffersFromLast (on (λ (v : Vec ℕ). v.items) (pointwise nat_eq))) [] sorted left → AreSorted texts left
sorted_once texts before sorted left is moved up kept = record {
  order = rises before sorted left kept up;
  each = λ text. (
    λ told. has_each before sorted left kept moved text (subst (λ (l : List (List ℕ)). Contains l text) (sym is) told),
    λ told. subst (λ (l : List (List ℕ)). Contains l text) is (has_no_other before sorted left kept (IsPermutation-sym _ _ moved) text told),
  );
}
