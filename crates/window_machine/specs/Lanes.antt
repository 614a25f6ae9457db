-- Lanes: bytes of an aligned word, as a number that has the eight bits of each. Lane k is the byte at the word's address and k more.
use Rattle.std.specs.Prelude.{ℕ, ◌≡◌, ◌≤◌, ◌<◌, ◌+◌, ◌-◌, ◌*◌, ◌/◌, ◌%◌, ◌^◌, Bool, ◌&&◌, ◌==◌, nat_eq, nat_le, nat_lt, List, [], ◌∷◌, bit_and, count_by}
use Rattle.std.specs.Int.{bit_at, trailing_zeros, w32}
use Rattle.std.specs.List.{list_any}
use Rattle.elf_loader.specs.Size.{base}
use Rattle.memory_model.specs.declared.operation.Kind.{Kind}
use Rattle.memory_model.specs.declared.operation.Kind.TheVariants.{Load, Store}

abbrev pub has_lane : (lanes k : ℕ) → Bool
has_lane lanes k = bit_at lanes (8 * k) == 1

-- how many lanes stand below them, and how many they are
abbrev pub first_lane : ℕ → ℕ
first_lane lanes = trailing_zeros w32 lanes / 8

abbrev pub lane_count : ℕ → ℕ
lane_count lanes = count_by (has_lane lanes) (0 ∷ 1 ∷ 2 ∷ 3 ∷ [])

-- the number in some lanes of a word
abbrev pub number_in : (lanes word : ℕ) → ℕ
number_in lanes word = bit_and word lanes / 2 ^ (8 * first_lane lanes)

-- the byte at x is one of these lanes of a word
abbrev pub is_in_lanes : (word lanes x : ℕ) → Bool
is_in_lanes word lanes x = nat_le word x && nat_lt x (word + 4) && has_lane lanes (x - word)

-- ---- which there are

-- so many from one on
abbrev pub lanes_from : (first count : ℕ) → ℕ
lanes_from first count = (2 ^ (8 * count) - 1) * 2 ^ (8 * first)

-- an aligned byte, half or word
abbrev pub are_lanes : ℕ → Bool
are_lanes lanes = list_any (nat_eq lanes) (lanes_from 0 1 ∷ lanes_from 1 1 ∷ lanes_from 2 1 ∷ lanes_from 3 1 ∷ lanes_from 0 2 ∷ lanes_from 2 2 ∷ lanes_from 0 4 ∷ [])

-- an LR, an SC and an AMO access a word
abbrev pub are_lanes_of : Kind → ℕ → Bool
are_lanes_of Load lanes = are_lanes lanes
are_lanes_of Store lanes = are_lanes lanes
are_lanes_of _ lanes = lanes == lanes_from 0 4

-- any number of bytes of a word: of each all bits, or none
pub record AreWhole (mask : ℕ) : Type 0 where
  pub fits : mask < 2 ^ 32
  pub alike : (k j : ℕ) → k < 4 → j < 8 → bit_at mask (8 * k + j) ≡ bit_at mask (8 * k)

-- the address of a word of memory
pub record IsPlace (word : ℕ) : Type 0 where
  pub aligned : word % 4 ≡ 0
  pub above : base ≤ word
  pub below : word + 4 ≤ 2 ^ 32

-- bytes at a multiple of how many they are, at addresses below 2^32 that are no lower than memory's
abbrev pub are_placed : (address count : ℕ) → Bool
are_placed address count = address % count == 0 && nat_le base address && nat_le (address + count) (2 ^ 32)
