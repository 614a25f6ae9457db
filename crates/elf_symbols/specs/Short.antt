-- A name in a line of text.
use Rattle.std.specs.Prelude.{ℕ, zero, suc, ◌/◌, ◌==◌, nat_le, Bool, if◌then◌else◌, List, ◌++◌, length, slice_index, take, codes}

-- a byte that goes on with a character of UTF-8, 10xxxxxx (RFC 3629, 3)
abbrev pub goes_on : ℕ → Bool
goes_on byte = byte / 64 == 2

-- how many of the first bytes, at most so many, are whole characters
unfoldable pub whole_characters : List ℕ → ℕ → ℕ
whole_characters name zero = zero
whole_characters name (suc n) = if goes_on (slice_index name (suc n)) then whole_characters name n else suc n

-- a name of more than 56 bytes is told by its first characters, of at most 53 bytes, and three dots
abbrev pub short_name : List ℕ → List ℕ
short_name name = if nat_le (length name) 56 then name else take (whole_characters name 53) name ++ codes "..."
