-- Where a test's locations stand, and what values are.
use Rattle.std.specs.Prelude.{ℕ, ◌+◌, ◌*◌, ◌%◌, List, [], ◌∷◌, Option, Some, None, if◌then◌else◌}
use Rattle.std.specs.Global.{Vec}
use Rattle.litmus_parts.specs.declared.initial.Width.{Width}
use Rattle.litmus_parts.specs.declared.initial.Width.TheVariants.{Byte, Half, Word, Double}
use Rattle.litmus_parts.specs.declared.places.Value.{Value}
use Rattle.litmus_parts.specs.declared.places.Value.TheVariants.{Number, Address}
use Rattle.litmus_parts.specs.Scanning.{is_same}

-- from 0x80001000 on, 64 bytes apart
abbrev pub address_at : ℕ → ℕ
address_at number = 2147487744 + 64 * number

-- a location's number; so many come before these
abbrev pub number_from : ℕ → List (Vec ℕ) → List ℕ → Option ℕ
number_from n [] name = None
number_from n (x ∷ names) name = if is_same x.items name then Some n else number_from (n + 1) names name

abbrev pub address_by : Option ℕ → ℕ
address_by (Some number) = address_at number
address_by None = 0

abbrev pub value_of : List (Vec ℕ) → Value → ℕ
value_of names (Number n) = n
value_of names (Address name) = address_by (number_from 0 names name)

-- what a location of so many bytes shows
abbrev pub low_bytes : Width → ℕ → ℕ
low_bytes Byte n = n % 256
low_bytes Half n = n % 65536
low_bytes Word n = n
low_bytes Double n = n
