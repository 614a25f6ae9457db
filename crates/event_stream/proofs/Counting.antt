-- Items of numbers counted from 0, and of a list's places, one after another.
use Rattle.std.proofs.Common.{◌≡◌, ◌<◌, ◌≤◌, ◌++◌, ◌+◌, ℕ, zero, suc, List, [], ◌∷◌, Option, Some, None, ap, arith, length, drop, ◌∙◌}
use Rattle.std.proofs.lemmas.List.FromFn.{get_or-range_with_len, length-range_with_len}
use Rattle.std.proofs.lemmas.List.Concat.{flat_map-cons}
use Rattle.std.specs.List.{flat_map, range_with_len}
use Rattle.std.specs.Prelude.{slice_get}
use Rattle.text_fields.proofs.Pages.{item_next, item_none}

-- the item of the next number
pub numbered_next : (f : ℕ → List ℕ) (n i : ℕ) → i < n → flat_map f (drop i (range_with_len 0 n)) ≡ f i ++ flat_map f (drop (i + 1) (range_with_len 0 n))
numbered_next f n i lt =
    let len : length (range_with_len 0 n) ≡ n = length-range_with_len 0 n in
    item_next f (range_with_len 0 n) i 0 (omega (arith, lt, len)) ∙ ap (λ (k : ℕ). f k ++ flat_map f (drop (i + 1) (range_with_len 0 n))) (get_or-range_with_len 0 n i 0 lt ∙ omega arith)

pub numbered_none : (f : ℕ → List ℕ) (n i : ℕ) → n ≤ i → flat_map f (drop i (range_with_len 0 n)) ≡ []
numbered_none f n i le = let len : length (range_with_len 0 n) ≡ n = length-range_with_len 0 n in item_none f (range_with_len 0 n) i (omega (arith, le, len))

-- the item at a place, where there is one
abbrev pub item_if : {X : Type 0} → (X → List ℕ) → Option X → List ℕ
item_if f None = []
item_if f (Some x) = f x

pub placed_next : {X : Type 0} (f : X → List ℕ) (xs : List X) (i : ℕ) → i < length xs → flat_map f (drop i xs) ≡ item_if f (slice_get xs i) ++ flat_map f (drop (i + 1) xs)
placed_next {X = X} f [] i lt = absurd (omega (arith, lt))
placed_next {X = X} f (x ∷ xs) zero lt = flat_map-cons f x xs
placed_next {X = X} f (x ∷ xs) (suc i) lt =
    let next : suc (i + 1) ≡ suc i + 1 = omega arith in
    placed_next f xs i (omega (arith, lt)) ∙ ap (λ (k : ℕ). item_if f (slice_get xs i) ++ flat_map f (drop k (x ∷ xs))) next
