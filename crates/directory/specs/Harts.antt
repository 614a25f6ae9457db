-- Sets of harts, as the list of their numbers, rising.
use Rattle.std.specs.Prelude.{ℕ, ◌^◌, Bool, List, filter, nat_eq}
use Rattle.std.specs.List.{range_with_len, list_any, sum_by}
use Rattle.std.specs.Int.{bit_at}

-- those of the first n harts that a test names
unfoldable pub harts_below : ℕ → (ℕ → Bool) → List ℕ
harts_below n p = filter p (range_with_len 0 n)

abbrev pub has : List ℕ → ℕ → Bool
has harts hart = list_any (λ h. nat_eq h hart) harts

-- the places of a byte's ones, which is how a set of up to 8 harts is kept
unfoldable pub members : ℕ → List ℕ
members bits = harts_below 8 (λ h. nat_eq (bit_at bits h) 1)

-- the byte that has its ones there
unfoldable pub bits_of : List ℕ → ℕ
bits_of harts = sum_by (λ h. 2 ^ h) harts
