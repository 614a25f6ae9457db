-- On which lines of text messages and notes stand.
use Rattle.std.specs.Prelude.{ℕ, ◌+◌, List, [], ◌∷◌, Option, max, if◌then◌else◌}
use Rattle.run_chart.specs.declared.rows.Note.{Note}
use Rattle.run_chart.specs.declared.rows.Noted.{Noted}
use Rattle.run_chart.specs.declared.rows.Posted.{Posted}
use Rattle.trace_recorder.specs.declared.logged.Logged.{Logged}
use Rattle.run_chart.specs.Copies.{is_about}

-- each message that is asked for on a line of its own
abbrev pub posted : Option ℕ → ℕ → List Logged → List Posted
posted only line [] = []
posted only line (entry ∷ log) = if is_about only entry then record { line = line; entry = entry } ∷ posted only (line + 1) log else posted only line log

-- each note on a line of its own
abbrev pub noted : ℕ → List Note → List Noted
noted line [] = []
noted line (n ∷ ns) = record { line = line; note = n } ∷ noted (line + 1) ns

-- a row is as high as its messages, and as its notes, and has a line at least
abbrev pub end_of : ℕ → ℕ → ℕ → ℕ
end_of line posts notes = line + max (max posts notes) 1
