-- Addresses as they are given on the command line: numbers below 2^32, in decimal, or behind 0x in hexadecimal.
use Rattle.std.specs.Prelude.{ℕ, ◌+◌, ◌-◌, ◌*◌, ◌^◌, ◌==◌, ◌&&◌, List, [], ◌∷◌, Option, Some, None, nat_le, nat_lt, option_and_then, if◌then◌else◌}

-- what a digit is worth, 99 for what is none
abbrev pub digit : ℕ → ℕ
digit b =
    if nat_le 48 b && nat_le b 57 then b - 48
    else if nat_le 97 b && nat_le b 102 then b - 97 + 10
    else if nat_le 65 b && nat_le b 70 then b - 65 + 10
    else 99

abbrev pub next : ℕ → ℕ → ℕ → Option ℕ
next radix value d = if nat_lt d radix && nat_lt (value * radix + d) (2 ^ 32) then Some (value * radix + d) else None

-- the number that digits make of one that stands before them
abbrev pub number_from : ℕ → ℕ → List ℕ → Option ℕ
number_from radix value [] = Some value
number_from radix value (b ∷ bytes) = option_and_then (λ more. number_from radix more bytes) (next radix value (digit b))

abbrev pub number : ℕ → List ℕ → Option ℕ
number radix [] = None
number radix (b ∷ bytes) = number_from radix 0 (b ∷ bytes)

abbrev pub by_prefix : ℕ → ℕ → List ℕ → List ℕ → Option ℕ
by_prefix a b digits word = if a == 48 && b == 120 then number 16 digits else number 10 word

abbrev pub address : List ℕ → Option ℕ
address [] = None
address (a ∷ []) = number 10 (a ∷ [])
address (a ∷ b ∷ digits) = by_prefix a b digits (a ∷ b ∷ digits)
