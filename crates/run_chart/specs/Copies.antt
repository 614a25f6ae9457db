-- The lines of memory in play, and what caches hold of them.
use Rattle.std.specs.Prelude.{ℕ, ◌==◌, ◌&&◌, not, Bool, true, false, List, [], ◌∷◌, ◌++◌, Option, Some, None, length, nat_lt, if◌then◌else◌}
use Rattle.run_chart.specs.declared.shapes.Hold.{Hold}
use Rattle.run_chart.specs.declared.shapes.Hold.TheVariants as hold
use Rattle.run_chart.specs.declared.rows.Copied.{Copied}
use Rattle.client_cache.specs.Cache.{copy_at}
use Rattle.client_cache.specs.declared.held.Held.{Held}
use Rattle.client_cache.specs.declared.held.Held.TheVariants.{Branch, Trunk}
use Rattle.machine_model.specs.Views.{State, node_at}
use Rattle.trace_recorder.specs.declared.logged.Logged.{Logged}

abbrev pub hold_of : Option Held → Hold
hold_of None = hold.Nothing
hold_of (Some (Branch bytes)) = hold.Branch
hold_of (Some (Trunk false bytes)) = hold.Trunk
hold_of (Some (Trunk true bytes)) = hold.Dirty

-- what a hart's cache holds of a line
abbrev pub hold_at : State → ℕ → ℕ → Hold
hold_at s h line = if nat_lt h (length s.views.nodes) then hold_of (copy_at (node_at s h).cache line) else hold.Nothing

abbrev pub copied : State → ℕ → ℕ → Copied
copied s h line = record { line = line; hold = hold_at s h line }

-- the message is about the line that is asked for, if one is
abbrev pub is_about : Option ℕ → Logged → Bool
is_about None entry = true
is_about (Some line) entry = entry.message.line == line

abbrev pub has : List ℕ → ℕ → Bool
has [] line = false
has (x ∷ xs) line = if x == line then true else has xs line

-- the message's line joins those that were met, if it isn't among them
abbrev pub with_line : Option ℕ → List ℕ → Logged → List ℕ
with_line only lines entry = if is_about only entry && not (has lines entry.message.line) then lines ++ entry.message.line ∷ [] else lines

abbrev pub lines_from : Option ℕ → List ℕ → List Logged → List ℕ
lines_from only lines [] = lines
lines_from only lines (entry ∷ log) = lines_from only (with_line only lines entry) log

-- the lines that messages are about, each once, in the order in which they are met
abbrev pub lines_of : Option ℕ → List Logged → List ℕ
lines_of only log = lines_from only [] log
