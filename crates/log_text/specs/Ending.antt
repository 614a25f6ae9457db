-- A trace's text that ends behind its messages.
use Rattle.std.specs.Prelude.{ℕ, List, [], ◌∷◌, ◌++◌, Option, Some, None, ◌==◌, if◌then◌else◌, codes, replicate, reverse}
use Rattle.std.specs.Option.{option_or}
use Rattle.machine_types.specs.declared.limits.TheConstants.{MAX_HARTS}
use Rattle.hart.specs.declared.status.Status.{Status}
use Rattle.hart.specs.declared.status.Status.TheVariants.{Running}
use Rattle.text_fields.specs.Fields.{numbered}
use Rattle.text_fields.specs.Reading.{◌>>=◌, after, behind, number_at}
use Rattle.trace_text.specs.Traces.{status}

-- read from its end on, what a line begins with
abbrev pub first_of_line : ℕ → List ℕ → ℕ
first_of_line first [] = first
first_of_line first (byte ∷ before) = if byte == 10 then first else first_of_line byte before

abbrev pub first_before : List ℕ → Option ℕ
first_before [] = None
first_before (byte ∷ before) = if byte == 10 then Some (first_of_line 10 before) else None

-- the byte with which the last line begins, if a line feed ends that line
abbrev pub first_of_last : List ℕ → Option ℕ
first_of_last bytes = first_before (reverse bytes)

-- how many harts the second line tells, which has one digit for them
abbrev pub harts_in : Option (ℕ × List ℕ) → ℕ
harts_in None = 0
harts_in (Some found) = found.0

abbrev pub harts_told : List ℕ → ℕ
harts_told bytes = harts_in (option_or (after (codes "rvtl-trace 1\nT ") bytes) (after (codes "rvtl-trace 2\nT ") bytes) >>= number_at 32 MAX_HARTS)

-- harts whose end the text doesn't tell, since its last line begins with another letter than H
abbrev pub unended_by : Option ℕ → ℕ → ℕ
unended_by None harts = 0
unended_by (Some first) harts = if first == 72 then 0 else harts

abbrev pub harts_unended : List ℕ → ℕ
harts_unended bytes = unended_by (first_of_last bytes) (harts_told bytes)

-- the text, and that each of those harts still runs
abbrev pub ended : List ℕ → List ℕ
ended bytes = bytes ++ numbered status 0 (replicate (harts_unended bytes) Running)
