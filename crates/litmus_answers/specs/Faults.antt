-- Why a test makes no program.
use Rattle.std.specs.Prelude.{ℕ, ◌≡◌, ◌⊎◌, ◌-◌, ◌<◌, ◌==◌, List, [], ◌∷◌, Err, length, if◌then◌else◌}
use Rattle.std.specs.Global.{Vec}
use Rattle.litmus_answers.specs.Layouts.{AreParts, beginnings_of}
use Rattle.litmus_answers.specs.Naming.{AreSorted, names_in}
use Rattle.litmus_image.specs.Image.{words_of}
use Rattle.litmus_image.specs.declared.part.Cause.{Cause as ImageCause}
use Rattle.litmus_image.specs.declared.part.Cause.TheVariants as image
use Rattle.litmus_image.specs.declared.part.ImageError.{ImageError}
use Rattle.litmus_image.specs.declared.part.ImageError.TheVariants.{Fault, NoMemory}
use Rattle.litmus_image.specs.declared.part.Part.{Part}
use Rattle.litmus_parts.specs.declared.code.CodeLine.{CodeLine}
use Rattle.litmus_parts.specs.declared.stop.Cause.{Cause}
use Rattle.litmus_parts.specs.declared.stop.Cause.TheVariants as causes
use Rattle.litmus_parts.specs.declared.stop.Stop.{Stop}
use Rattle.litmus_parts.specs.declared.stop.Stop.TheVariants.{At, Memory}
use Rattle.litmus_text.specs.Tests.{Meaning}

-- where a hart's column has the line of this number, so many bytes are left; or at its last line, where it has none of this number, and `left` where it has no line
abbrev pub left_from : (left number : ℕ) → List CodeLine → (hart : ℕ) → ℕ
left_from left n [] hart = left
left_from left n (l ∷ lines) hart =
    if l.hart == hart then (if n == 0 then l.left else left_from l.left (n - 1) lines hart)
    else left_from left n lines hart

abbrev pub left_of : List CodeLine → (hart number : ℕ) → ℕ
left_of lines hart number = left_from 0 number lines hart

-- as what a program's fault is told
abbrev pub cause_of : ImageCause → Cause
cause_of image.NoLabel = causes.Label
cause_of image.TooFar = causes.Near
cause_of image.AllAsked = causes.FewRegisters
cause_of image.TooLong = causes.FewInstructions
cause_of image.TooMany = causes.FewLocations

abbrev pub stop_of : List CodeLine → ImageError → Stop
stop_of lines (Fault hart line why) = At (cause_of why) (left_of lines hart line)
stop_of lines NoMemory = Memory

-- there are more than 64 locations
abbrev pub IsCrowded : Meaning → (names : List (Vec ℕ)) → Cause → (left : ℕ) → Type 0
IsCrowded t names cause left = (64 < length names) × (cause ≡ causes.FewLocations) × (left ≡ left_of t.lines 0 0)

-- the harts' parts and the locations make no words, for this cause
pub record HasNoWords (t : Meaning) (names : List (Vec ℕ)) (cause : Cause) (left : ℕ) : Type 0 where
  pub parts : List Part
  pub are_parts : AreParts t names parts
  pub hart : ℕ
  pub line : ℕ
  pub why : ImageCause
  pub words : words_of parts (beginnings_of names t.values names) ≡ Err (hart, (line, why))
  pub cause_is : cause ≡ cause_of why
  pub left_is : left ≡ left_of t.lines hart line

-- it makes no program, for this cause where so many bytes are left
pub record MakesNoProgram (t : Meaning) (cause : Cause) (left : ℕ) : Type 0 where
  pub names : List (Vec ℕ)
  pub sorted : AreSorted (names_in t) names
  pub reason : IsCrowded t names cause left ⊎ HasNoWords t names cause left

abbrev pub IsFault : Meaning → Stop → Type 0
IsFault t Memory = Unit {0}
IsFault t (At cause left) = MakesNoProgram t cause left
