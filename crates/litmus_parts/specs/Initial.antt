-- The values between braces.
use Rattle.std.specs.Prelude.{ℕ, ◌==◌, List, [], ◌∷◌, length, Option, Some, None, Result, Ok, Err, if◌then◌else◌, codes}
use Rattle.text_words.specs.Words.{skip, word, past_word, symbol_at}
use Rattle.litmus_parts.specs.declared.initial.Width.{Width}
use Rattle.litmus_parts.specs.declared.initial.Width.TheVariants.{Byte, Half, Word, Double}
use Rattle.litmus_parts.specs.declared.initial.Initial.{Initial}
use Rattle.litmus_parts.specs.declared.places.Place.{Place}
use Rattle.litmus_parts.specs.declared.places.Place.TheVariants.{Register, Location}
use Rattle.litmus_parts.specs.declared.places.Value.{Value}
use Rattle.litmus_parts.specs.declared.places.Value.TheVariants as values
use Rattle.litmus_parts.specs.declared.stop.Section.TheVariants as sections
use Rattle.litmus_parts.specs.declared.stop.Cause.{Cause}
use Rattle.litmus_parts.specs.declared.stop.Cause.TheVariants as causes
use Rattle.litmus_parts.specs.declared.stop.Stop.{Stop}
use Rattle.litmus_parts.specs.Stops.{Read, at, ◌>>=◌}
use Rattle.litmus_parts.specs.Scanning.{meaning_of, items_at}
use Rattle.litmus_parts.specs.Places.{place_at, value_at}

-- types, as C has them
abbrev pub types : List (List ℕ × Width)
types =
    (codes "int", Word) ∷
    (codes "int8_t", Byte) ∷
    (codes "uint8_t", Byte) ∷
    (codes "int16_t", Half) ∷
    (codes "uint16_t", Half) ∷
    (codes "int32_t", Word) ∷
    (codes "uint32_t", Word) ∷
    (codes "int64_t", Double) ∷
    (codes "uint64_t", Double) ∷
    (codes "char", Byte) ∷
    (codes "short", Half) ∷ []

-- a pointer has 4 bytes, whatever it points to
abbrev pub behind_star : Option (List ℕ) → Width → List ℕ → Width × List ℕ
behind_star (Some rest) width bytes = (Word, rest)
behind_star None width bytes = (width, bytes)

abbrev pub pointed : Width → List ℕ → Width × List ℕ
pointed width bytes = behind_star (symbol_at (codes "*") bytes) width bytes

-- the type at the front, int where none stands
abbrev pub typed : Option Width → List ℕ → Width × List ℕ
typed (Some width) bytes = pointed width (past_word (skip bytes))
typed None bytes = (Word, bytes)

abbrev pub type_at : List ℕ → Width × List ℕ
type_at bytes = typed (meaning_of types (word (skip bytes))) bytes

-- x0 can't be set, and no location has 8 bytes
abbrev pub misfit : Place → Width → Option Cause
misfit (Register hart register) width = if register == 0 then Some causes.SetRegister else None
misfit (Location name) Double = Some causes.WideLocation
misfit (Location name) Byte = None
misfit (Location name) Half = None
misfit (Location name) Word = None

-- 0 where no value is given
abbrev pub behind_equals : Option (List ℕ) → List ℕ → Read Value
behind_equals (Some rest) bytes = value_at sections.Initial rest
behind_equals None bytes = Ok (values.Number 0, bytes)

unfoldable pub given_at : List ℕ → Read Value
given_at bytes = behind_equals (symbol_at (codes "=") bytes) bytes

-- a semicolon, which may be missing before the brace
abbrev pub ended : Option (List ℕ) → Option (List ℕ) → List ℕ → Result (List ℕ) Stop
ended (Some rest) brace bytes = Ok rest
ended None (Some rest) bytes = Ok bytes
ended None None bytes = Err (at causes.InitialEnd bytes)

unfoldable pub past_end : List ℕ → Result (List ℕ) Stop
past_end bytes = ended (symbol_at (codes ";") bytes) (symbol_at (codes "}") bytes) bytes

-- a place with its type and its value
abbrev pub unless : {A : Type 0} → Option Cause → List ℕ → Result A Stop → Result A Stop
unless (Some cause) bytes read = Err (at cause bytes)
unless None bytes read = read

unfoldable pub set_at : List ℕ → Width → Place → List ℕ → Read Initial
set_at start width place bytes =
    unless (misfit place width) start (given_at bytes >>= λ v. past_end v.1 >>= λ rest.
    Ok (record { place = place; width = width; value = v.0; left = length (skip start) }, rest))

unfoldable pub initial_at : List ℕ → Read Initial
initial_at bytes = place_at sections.Initial 8 (type_at bytes).1 >>= λ p. set_at bytes (type_at bytes).0 p.0 p.1

-- so many values at most, and the brace
abbrev pub values_at : ℕ → List ℕ → Read (List Initial)
values_at n bytes = items_at (codes "}") causes.FewValues initial_at n bytes
