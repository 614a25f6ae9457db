-- How the lines that tell outcomes are judged, by a file that says which ones are allowed, and what else a search may not come to.
use Rattle.std.specs.Prelude.{ℕ, ◌≡◌, ◌==◌, ◌+◌, ◌∷◌, ◌++◌, ◌&&◌, [], Bool, true, false, List, None, Option, Some, codes, decimal, if◌then◌else◌, length}
use Rattle.std.specs.List.{list_all, list_any}
use Rattle.command_files.specs.Faults.{Name}
use Rattle.command_files.specs.Contents.{Contents, HoldsBytes}
use Rattle.command_settings.specs.Settings.{lists}
use Rattle.allowed_outcomes.specs.Allowing.{is_allowed_line, without_number}
use Rattle.command_files.specs.declared.allowing.Judgement.{Judgement}
use Rattle.command_files.specs.declared.allowing.Judgement.TheVariants.{Allowed, NotAllowed}
use Rattle.flat_model.specs.Shown.{HartEnd}
use Rattle.hart.specs.declared.status.Status.{Status}
use Rattle.hart.specs.declared.status.Status.TheVariants.{Exited, Running, Stopped}
use Rattle.state_search.specs.declared.findings.Extent.{Extent}
use Rattle.state_search.specs.declared.findings.Extent.TheVariants.{Complete, LimitMet, Ended, OutOfMemory}
use Rattle.text_fields.specs.Writing.{Begins}

-- ---- what else a search may not come to

abbrev pub is_stopped : Status → Bool
is_stopped Running = false
is_stopped (Stopped code) = true
is_stopped (Exited code) = false

-- one of the harts stopped
abbrev pub has_stopped : List HartEnd → Bool
has_stopped ends = list_any (λ (r : HartEnd). is_stopped r.status) ends

-- in one of the outcomes a hart stopped
abbrev pub have_failure : List (List HartEnd) → Bool
have_failure = list_any has_stopped

-- it is known that there is nothing more to be found
abbrev pub is_complete : Extent → Bool
is_complete Complete = true
is_complete LimitMet = false
is_complete (Ended ending) = false
is_complete OutOfMemory = false

abbrev pub line_if : Bool → List ℕ → List ℕ
line_if met line = if met then line else []

abbrev pub failure_line : List ℕ
failure_line = codes "a hart stopped (--fail-on failure)\n"

abbrev pub stuck_line : List ℕ
stuck_line = codes "from some state no schedule ends (--fail-on stuck)\n"

abbrev pub incomplete_line : List ℕ
incomplete_line = codes "not all was searched (--fail-on incomplete)\n"

-- a line for each of what the list has that a search came to: a hart that stopped, a state from which no schedule ends, and an end of the search before all was searched
abbrev pub fail_lines : Option Name → (failure stuck incomplete : Bool) → List ℕ
fail_lines list failure stuck incomplete =
    (line_if (lists (codes "failure") list && failure) failure_line
    ++ line_if (lists (codes "stuck") list && stuck) stuck_line)
    ++ line_if (lists (codes "incomplete") list && incomplete) incomplete_line

-- ---- the judgement

-- the text has each of these lines, whatever their numbers
abbrev pub are_allowed_lines : List ℕ → List (List ℕ) → Bool
are_allowed_lines text lines = list_all (λ line. is_allowed_line text (without_number line)) lines

-- all are allowed by the text, if there is one
abbrev pub are_allowed : Option (List ℕ) → List (List ℕ) → Bool
are_allowed None lines = true
are_allowed (Some text) lines = are_allowed_lines text lines

-- and there is nothing else that the search may not come to
abbrev pub judgement_of_lines : Option (List ℕ) → List (List ℕ) → (fails : List ℕ) → Judgement
judgement_of_lines text lines fails = if are_allowed text lines && (length fails == 0) then Allowed else NotAllowed

-- the judgement on these lines, by the file that was named, if one was, and on what else the search came to
abbrev pub IsJudged : Contents → Option Name → List (List ℕ) → (fails : List ℕ) → Judgement → Type 0
IsJudged held None lines fails judgement = judgement ≡ judgement_of_lines None lines fails
IsJudged held (Some file) lines fails judgement = (text : List ℕ) × HoldsBytes held file.now text × (judgement ≡ judgement_of_lines (Some text) lines fails)

-- ---- what is told of it

abbrev pub refusal_line : ℕ → List ℕ
refusal_line number = codes "outcome " ++ (decimal number ++ codes " is not allowed\n")

-- a line for each of these, counted from a number on, that the text hasn't
abbrev pub refusal_lines : (text : List ℕ) → ℕ → List (List ℕ) → List ℕ
refusal_lines text number [] = []
refusal_lines text number (line ∷ rest) = (if is_allowed_line text (without_number line) then [] else refusal_line number) ++ refusal_lines text (number + 1) rest

-- none, where there is no text
abbrev pub refusals : Option (List ℕ) → List (List ℕ) → List ℕ
refusals None lines = []
refusals (Some text) lines = refusal_lines text 1 lines

-- P holds of what is to be told of these lines, by the file that was named, if one was, and of what else the search came to
abbrev pub HaveRefusals : Contents → Option Name → List (List ℕ) → (fails : List ℕ) → (List ℕ → Type 0) → Type 0
HaveRefusals held None lines fails P = P fails
HaveRefusals held (Some file) lines fails P = (text : List ℕ) × HoldsBytes held file.now text × P (refusal_lines text 1 lines ++ fails)

-- standard error is as it was where there is nothing to be told, and else has a beginning of it
abbrev pub IsToldBy : Judgement → (before after : Option (List ℕ)) → (refusals : List ℕ) → Type 0
IsToldBy Allowed before after refusals = after ≡ before
IsToldBy NotAllowed before after refusals = Begins before after refusals
