-- Registers, locations and values.
use Rattle.std.specs.Prelude.{ℕ, ◌+◌, ◌-◌, Bool, true, false, ◌==◌, ◌&&◌, nat_lt, List, [], ◌∷◌, Option, Some, None, Ok, Err, if◌then◌else◌, codes}
use Rattle.assembly_reading.specs.Registers.{register_of}
use Rattle.text_fields.specs.Reading.{is_digit, guarded}
use Rattle.text_words.specs.Words.{skip, word, past_word, symbol_at, name_at}
use Rattle.text_words.specs.Numbers.{signed_at}
use Rattle.text_words.specs.declared.numbers.Number.{Number}
use Rattle.text_words.specs.declared.numbers.Number.TheVariants.{Word, Wide}
use Rattle.litmus_parts.specs.declared.places.Place.{Place}
use Rattle.litmus_parts.specs.declared.places.Place.TheVariants.{Register, Location}
use Rattle.litmus_parts.specs.declared.places.Value.{Value}
use Rattle.litmus_parts.specs.declared.places.Value.TheVariants as values
use Rattle.litmus_parts.specs.declared.stop.Section.{Section}
use Rattle.litmus_parts.specs.declared.stop.Cause.TheVariants as causes
use Rattle.litmus_parts.specs.Stops.{Read, at, ◌>>=◌}
use Rattle.litmus_parts.specs.Scanning.{expect, is_same}

-- one place
abbrev pub is_register : Place → ℕ → ℕ → Bool
is_register (Register hart register) wanted_hart wanted = wanted_hart == hart && wanted == register
is_register (Location name) wanted_hart wanted = false

abbrev pub is_location : Place → List ℕ → Bool
is_location (Register hart register) wanted = false
is_location (Location name) wanted = is_same wanted name

abbrev pub is_same_place : Place → Place → Bool
is_same_place (Register hart register) other = is_register other hart register
is_same_place (Location name) other = is_location other name

-- a hart's number is one digit
abbrev pub hart_of : List ℕ → Option ℕ
hart_of [] = None
hart_of (b ∷ []) = guarded (is_digit b) (b - 48)
hart_of (b ∷ c ∷ bytes) = None

abbrev pub location_of : Option (List ℕ × List ℕ) → Section → List ℕ → Read Place
location_of (Some x) section bytes = Ok (Location x.0, x.1)
location_of None section bytes = Err (at (causes.Place section) bytes)

unfoldable pub location_at : Section → List ℕ → Read Place
location_at section bytes = location_of (name_at bytes) section bytes

unfoldable pub bracketed_at : Section → List ℕ → Read Place
bracketed_at section bytes = location_at section bytes >>= λ x. expect (codes "]") (causes.Bracket section) x.1 >>= λ rest. Ok (x.0, rest)

-- a hart's register behind the colon
abbrev pub named : Option ℕ → Section → ℕ → List ℕ → Read Place
named (Some register) section hart bytes = Ok (Register hart register, past_word (skip bytes))
named None section hart bytes = Err (at (causes.Register section) bytes)

unfoldable pub named_at : Section → ℕ → List ℕ → Read Place
named_at section hart bytes = named (register_of (word (skip bytes))) section hart bytes

unfoldable pub register_at : Section → ℕ → List ℕ → Read Place
register_at section hart bytes = expect (codes ":") (causes.Colon section) bytes >>= λ rest. named_at section hart rest

-- a register begins with its hart's number, a location doesn't
abbrev pub of_hart : Option ℕ → Section → ℕ → List ℕ → Read Place
of_hart (Some hart) section harts bytes = if nat_lt hart harts then register_at section hart (past_word (skip bytes)) else Err (at (causes.Hart section) bytes)
of_hart None section harts bytes = location_at section bytes

unfoldable pub plain_at : Section → ℕ → List ℕ → Read Place
plain_at section harts bytes = of_hart (hart_of (word (skip bytes))) section harts bytes

abbrev pub in_brackets : Option (List ℕ) → Section → ℕ → List ℕ → Read Place
in_brackets (Some rest) section harts bytes = bracketed_at section rest
in_brackets None section harts bytes = plain_at section harts bytes

-- a place: a register of one of so many harts, or a location, in brackets or not
unfoldable pub place_at : Section → ℕ → List ℕ → Read Place
place_at section harts bytes = in_brackets (symbol_at (codes "[") bytes) section harts bytes

abbrev pub address_of : Option (List ℕ × List ℕ) → Section → List ℕ → Read Value
address_of (Some x) section bytes = Ok (values.Address x.0, x.1)
address_of None section bytes = Err (at (causes.Value section) bytes)

unfoldable pub address_at : Section → List ℕ → Read Value
address_at section bytes = address_of (name_at bytes) section bytes

abbrev pub number_of : Option (Number × List ℕ) → Section → List ℕ → Read Value
number_of (Some (Word n, rest)) section bytes = Ok (values.Number n, rest)
number_of (Some (Wide, rest)) section bytes = Err (at causes.WideNumber bytes)
number_of None section bytes = address_at section bytes

unfoldable pub number_at : Section → List ℕ → Read Value
number_at section bytes = number_of (signed_at bytes) section bytes

abbrev pub behind_and : Option (List ℕ) → Section → List ℕ → Read Value
behind_and (Some rest) section bytes = address_at section rest
behind_and None section bytes = number_at section bytes

-- a value: a number of 32 bits, or the name of a location, & before it or not
unfoldable pub value_at : Section → List ℕ → Read Value
value_at section bytes = behind_and (symbol_at (codes "&") bytes) section bytes
