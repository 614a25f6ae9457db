-- The rows of a run: one for each event that changes the machine, in their order.
use Rattle.std.specs.Prelude.{ℕ, ◌+◌, ◌||◌, Bool, true, false, List, [], ◌∷◌, ◌++◌, Option, Some, None, length, map, nat_lt, if◌then◌else◌}
use Rattle.std.specs.List.{list_any}
use Rattle.run_chart.specs.declared.rows.Copied.{Copied}
use Rattle.run_chart.specs.declared.rows.Note.{Note}
use Rattle.run_chart.specs.declared.rows.Noted.{Noted}
use Rattle.run_chart.specs.declared.rows.Posted.{Posted}
use Rattle.run_chart.specs.declared.rows.Row.{Row}
use Rattle.event_stream.specs.Lines.{script_line_of}
use Rattle.event_stream.specs.Reports.{Report, action_of}
use Rattle.event_stream.specs.Telling.{lengths_of, report_behind}
use Rattle.machine_types.specs.declared.event.Event.{Event}
use Rattle.machine_types.specs.declared.outcome.Outcome.{Outcome}
use Rattle.machine_model.specs.Events.{Verdict, happens, hart_of, verdict}
use Rattle.machine_model.specs.Events.Verdict.{IsBad, Keeps, IsLimited, Moves}
use Rattle.machine_model.specs.Views.{State, node_at}
use Rattle.run_chart.specs.declared.before.Before.{Before}
use Rattle.run_chart.specs.Accesses.{address_at, lies_in}
use Rattle.run_chart.specs.Copies.{copied, is_about}
use Rattle.run_chart.specs.Lines.{end_of, noted, posted}
use Rattle.run_chart.specs.Notes.{notes}
use Rattle.tl_types.specs.declared.line.LineSize.{LineSize}
use Rattle.trace_recorder.specs.declared.logged.Logged.{Logged}

-- a row of a chart, with its lists
pub record Told : Type 0 where
  pub line : ℕ
  pub end : ℕ
  pub script_line : ℕ
  pub hart : ℕ
  pub event : Event
  pub outcome : Outcome
  pub log : List Posted
  pub notes : List Noted
  pub copies : List Copied

abbrev pub told : Row → Told
told r = record {
  line = r.line;
  end = r.end;
  script_line = r.script_line;
  hart = r.hart;
  event = r.event;
  outcome = r.outcome;
  log = r.log.items;
  notes = r.notes.items;
  copies = r.copies.items;
}

-- the word that a hart has reserved
abbrev pub reserved_in : State → ℕ → Option ℕ
reserved_in s h = if nat_lt h (length s.views.nodes) then (node_at s h).reserved else None

abbrev pub before : State → Event → Before
before s e = record { lengths = lengths_of s (hart_of e); action = action_of s e; reserved = reserved_in s (hart_of e); address = address_at s e }

-- what an event did to its hart's core
abbrev pub notes_of : Before → State → Report → List Note
notes_of b s r = notes s.trace r b.reserved (reserved_in s (hart_of r.event))

-- the row of an event's report, on this line of text: its messages about the line of memory that is asked for, what its hart's core did, and what the hart's cache holds of each line of memory in play
abbrev pub row : Option ℕ → List ℕ → Before → State → ℕ → Report → Told
row only columns b s line r = record {
  line = line;
  end = end_of line (length (posted only line r.log)) (length (notes_of b s r));
  script_line = script_line_of r.index;
  hart = hart_of r.event;
  event = r.event;
  outcome = r.outcome;
  log = posted only line r.log;
  notes = noted line (notes_of b s r);
  copies = map (copied s (hart_of r.event)) columns;
}

-- an event is shown where all are, or where it is about the line of memory that is asked for: by a message, or by the address that it reads, writes or names
abbrev pub is_shown : LineSize → Option ℕ → Option ℕ → List Logged → Bool
is_shown size None address log = true
is_shown size (Some line) address log = list_any (is_about (Some line)) log || lies_in size line address

abbrev pub shown : Bool → Told → List Told
shown true t = t ∷ []
shown false t = []

-- what an event that leads from one state to another has done
abbrev pub report_since : ℕ → State → Event → Outcome → State → Report
report_since index s e o new = report_behind (lengths_of s (hart_of e)) (action_of s e) new index e o

abbrev pub row_between : Option ℕ → List ℕ → ℕ → ℕ → State → Event → Outcome → State → Told
row_between only columns line index s e o new = row only columns (before s e) new line (report_since index s e o new)

-- an event has a row where it changes the machine and is shown
abbrev pub rows_by : Verdict → LineSize → Option ℕ → List ℕ → ℕ → ℕ → State → Event → List Told
rows_by IsBad size only columns line index s e = []
rows_by (Keeps o) size only columns line index s e = []
rows_by IsLimited size only columns line index s e = []
rows_by (Moves o new) size only columns line index s e =
    shown (is_shown size only (address_at s e) (report_since index s e o new).log) (row_between only columns line index s e o new)

abbrev pub rows_at : LineSize → Option ℕ → List ℕ → ℕ → ℕ → State → Event → List Told
rows_at size only columns line index s e = rows_by (verdict s e) size only columns line index s e

-- where the next row begins
abbrev pub line_behind : ℕ → List Told → ℕ
line_behind line [] = line
line_behind line (t ∷ ts) = line_behind t.end ts

-- the rows of events, the first of which has this index, from this line of text on
abbrev pub rows_of : LineSize → Option ℕ → List ℕ → ℕ → ℕ → State → List Event → List Told
rows_of size only columns line index s [] = []
rows_of size only columns line index s (e ∷ events) =
    rows_at size only columns line index s e
    ++ rows_of size only columns (line_behind line (rows_at size only columns line index s e)) (index + 1) (happens s e) events
