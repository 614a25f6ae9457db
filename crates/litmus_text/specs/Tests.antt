-- Whole tests.
use Rattle.std.specs.Prelude.{ℕ, ◌^◌, nat_lt, Bool, true, List, [], ◌∷◌, length, Option, Some, None, Result, Ok, Err, if◌then◌else◌}
use Rattle.text_words.specs.Comments.{uncommented}
use Rattle.text_words.specs.declared.comments.Place.TheVariants.{Text}
use Rattle.litmus_parts.specs.declared.initial.Initial.{Initial}
use Rattle.litmus_parts.specs.declared.rows.Item.{Item}
use Rattle.litmus_parts.specs.declared.places.Place.{Place}
use Rattle.litmus_parts.specs.declared.places.Place.TheVariants.{Register, Location}
use Rattle.litmus_parts.specs.declared.stop.Section.TheVariants as sections
use Rattle.litmus_parts.specs.declared.stop.Cause.TheVariants as causes
use Rattle.litmus_parts.specs.declared.stop.Stop.{Stop}
use Rattle.litmus_parts.specs.declared.stop.Stop.TheVariants.{At}
use Rattle.litmus_parts.specs.Stops.{◌>>=◌}
use Rattle.litmus_parts.specs.Places.{is_same_place}
use Rattle.litmus_parts.specs.Header.{header_at}
use Rattle.litmus_parts.specs.Initial.{values_at}
use Rattle.litmus_parts.specs.Rows.{columns_at}
use Rattle.litmus_parts.specs.declared.code.CodeLine.{CodeLine}
use Rattle.litmus_text.specs.declared.test.Test.{Test}
use Rattle.litmus_text.specs.Questions.{Asked, asking, asking_at}
use Rattle.litmus_text.specs.Lines.{lines_of}

-- a test: what its registers and locations hold at the start, its code, and what it asks
pub record Meaning : Type 0 where
  pub name : List ℕ
  pub harts : ℕ
  pub values : List Initial
  pub lines : List CodeLine
  pub asking : Asked

abbrev pub meaning : Test → Meaning
meaning t = record { name = t.name; harts = t.harts; values = t.values.items; lines = t.lines.items; asking = asking t.asking }

-- ---- initial values

abbrev pub has_hart : ℕ → Place → Bool
has_hart harts (Register hart register) = nat_lt hart harts
has_hart harts (Location name) = true

-- where this place is set again
abbrev pub again : Place → List Initial → Option ℕ
again place [] = None
again place (v ∷ values) = if is_same_place place v.place then Some v.left else again place values

abbrev pub set_once : Option ℕ → Result (Unit {0}) Stop
set_once (Some left) = Err (At causes.OtherPlace left)
set_once None = Ok tt

abbrev pub value_fits : ℕ → Initial → List Initial → Result (Unit {0}) Stop
value_fits harts v later = if has_hart harts v.place then set_once (again v.place later) else Err (At (causes.Hart sections.Initial) v.left)

-- registers are of the test's harts, and no place is set twice
abbrev pub values_fit : ℕ → List Initial → Result (Unit {0}) Stop
values_fit harts [] = Ok tt
values_fit harts (v ∷ values) = value_fits harts v values >>= λ u. values_fit harts values

-- ---- the whole

abbrev pub with_lines : List ℕ → List ℕ → List Initial → ℕ → List Item → Asked → Result Meaning Stop
with_lines bytes name values harts items asked = lines_of bytes items >>= λ lines. Ok (record { name = name; harts = harts; values = values; lines = lines; asking = asked })

abbrev pub with_asking : List ℕ → List ℕ → List Initial → ℕ → List Item → Asked → Result Meaning Stop
with_asking bytes name values harts items asked = values_fit harts values >>= λ u. with_lines bytes name values harts items asked

unfoldable pub with_columns : List ℕ → List ℕ → List Initial → (ℕ × List Item) → List ℕ → Result Meaning Stop
with_columns bytes name values columns rest = asking_at columns.0 rest >>= λ asked. with_asking bytes name values columns.0 columns.1 asked

unfoldable pub with_values : List ℕ → List ℕ → List Initial → List ℕ → Result Meaning Stop
with_values bytes name values rest = columns_at rest >>= λ c. with_columns bytes name values c.0 c.1

unfoldable pub with_name : List ℕ → List ℕ → List ℕ → Result Meaning Stop
with_name bytes name rest = values_at 400 rest >>= λ v. with_values bytes name v.0 v.1

unfoldable pub whole : List ℕ → Result Meaning Stop
whole bytes = header_at bytes >>= λ h. with_name bytes h.0 h.1

-- ---- comments

abbrev pub or_comment : Result (List ℕ) ℕ → Result (List ℕ) Stop
or_comment (Ok bytes) = Ok bytes
or_comment (Err left) = Err (At causes.Comment left)

-- the text with blanks for its comments
abbrev pub plain : List ℕ → Result (List ℕ) Stop
plain text = or_comment (uncommented Text text)

-- what a text says, of at most 1 MiB
unfoldable pub test_in : List ℕ → Result Meaning Stop
test_in text = if nat_lt (2 ^ 20) (length text) then Err (At causes.FewBytes (length text)) else (plain text >>= λ bytes. whole bytes)
