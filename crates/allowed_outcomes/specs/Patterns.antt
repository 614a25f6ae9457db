-- Lines in which a * stands for a number.
use Rattle.std.specs.Prelude.{ℕ, ◌==◌, ◌||◌, ◌&&◌, [], ◌∷◌, Bool, List, None, Option, Some, false, if◌then◌else◌, length, nat_le, option_and_then}
use Rattle.std.specs.List.{list_any}

-- *
abbrev pub any_number : ℕ
any_number = 42

-- a decimal digit, or what else may stand in a word's value, as in 0x0000000f
abbrev pub is_of_value : ℕ → Bool
is_of_value b = nat_le 48 b && nat_le b 57 || (nat_le 97 b && nat_le b 102 || b == 120)

abbrev pub behind_value : List ℕ → List ℕ
behind_value [] = []
behind_value (b ∷ bs) = if is_of_value b then behind_value bs else b ∷ bs

-- the line behind what the byte stands for: a number of one byte at least, or itself
abbrev pub behind : ℕ → List ℕ → Option (List ℕ)
behind byte [] = None
behind byte (b ∷ bs) = if byte == any_number then (if is_of_value b then Some (behind_value bs) else None) else if byte == b then Some bs else None

-- what is left of a line behind what the pattern stands for
abbrev pub left_behind : List ℕ → Option (List ℕ) → Option (List ℕ)
left_behind [] left = left
left_behind (byte ∷ bytes) left = left_behind bytes (option_and_then (behind byte) left)

abbrev pub is_nothing : Option (List ℕ) → Bool
is_nothing None = false
is_nothing (Some left) = length left == 0

abbrev pub fits : List ℕ → List ℕ → Bool
fits pattern line = is_nothing (left_behind pattern (Some line))

-- it has a *
abbrev pub is_pattern : List ℕ → Bool
is_pattern line = list_any (λ b. b == any_number) line
