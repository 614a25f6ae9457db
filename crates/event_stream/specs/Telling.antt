-- How the writer of events sees a report and the events that it told.
use Rattle.std.specs.Prelude.{ℕ, ◌≡◌, ◌⊎◌, ◌++◌, Bool, false, ◌==◌, List, length, drop, Option, Result, Ok, Err}
use Rattle.std.specs.Io.KnownBytes.{Appends}
use Rattle.coherent_machine.specs.Machine.{Refuses}
use Rattle.elf_symbols.specs.Named.{Named}
use Rattle.machine_types.specs.declared.event.Event.{Event}
use Rattle.machine_types.specs.declared.outcome.Outcome.{Outcome}
use Rattle.machine_model.specs.Events.{hart_of}
use Rattle.machine_model.specs.Events.Verdict.{Keeps}
use Rattle.machine_model.specs.Views.{State}
use Rattle.rv32_exec.specs.declared.actions.Action.{Action}
use Rattle.text_fields.specs.Pages.{Paged}
use Rattle.text_fields.specs.Writing.{Begins}
use Rattle.trace_text.specs.History.{entries_of}
use Rattle.event_stream.specs.declared.errors.StreamError.{StreamError}
use Rattle.event_stream.specs.declared.errors.StreamError.TheVariants as errors
use Rattle.event_stream.specs.declared.report.Lengths.{Lengths}
use Rattle.event_stream.specs.declared.report.Report.{Report as Borrowed}
use Rattle.event_stream.specs.declared.strictness.Strictness.{Strictness}
use Rattle.event_stream.specs.declared.strictness.Strictness.TheVariants.{Lenient, Strict}
use Rattle.event_stream.specs.Reports.{Report, StreamEnding, ending, outputs_of}
use Rattle.event_stream.specs.Streams.{lines}
use Rattle.event_stream.specs.Writing.{IsCut}

abbrev pub report_of : Borrowed → Report
report_of r = record { index = r.index; event = r.event; outcome = r.outcome; action = r.action; state = r.machine.now; entries = r.entries.now; performed = r.performed.now; log = r.log.now; output = r.output.now }

-- how long the lists of a hart and of all are, and how many events changed the machine
abbrev pub lengths_of : State → ℕ → Lengths
lengths_of s h = record { entries = length (entries_of s.trace h); performed = length s.trace.performed; log = length s.trace.log; output = length (outputs_of s h); changes = s.views.changes }

-- what stands behind these lengths, of an event whose instruction was to do this
abbrev pub report_behind : Lengths → Option Action → State → ℕ → Event → Outcome → Report
report_behind before action new index e o = record {
  index = index;
  event = e;
  outcome = o;
  action = action;
  state = new;
  entries = drop before.entries (entries_of new.trace (hart_of e));
  performed = drop before.performed new.trace.performed;
  log = drop before.log new.trace.log;
  output = drop before.output (outputs_of new (hart_of e));
}

-- a stream ends behind as many changes as before
abbrev pub ends_at : Strictness → ℕ → ℕ → Bool
ends_at Strict before now = before == now
ends_at Lenient before now = false

-- the page went out, and the error stays as it is; or the writer had a fault, and a beginning of the page did
abbrev pub IsHandedOn : Option (List ℕ) → Option (List ℕ) → List ℕ → StreamError → StreamError → Type 0
IsHandedOn old new page error answer = ((answer ≡ error) × Appends old new page) ⊎ ((fault : _) × (answer ≡ errors.Writing fault) × Begins old new page)

-- what became of telling events: all are told, onto the page; or one ends the stream, and what stood on the page and is told of those before it went out
abbrev pub IsTold : List Named → Strictness → State → List Event → (old new : Option (List ℕ)) → (page after : List ℕ) → Result (Unit {0}) StreamError → State → Type 0
IsTold names strictness s events old new page after (Ok _) reached = (ending strictness 0 s events ≡ StreamEnding.Reached reached) × Paged old new page after (lines names strictness 0 s events)
IsTold names strictness s events old new page after (Err errors.NoMemory) reached = ⊥
IsTold names strictness s events old new page after (Err (errors.Refused index error)) reached = IsCut strictness s events index (Refuses error) (λ told. page ++ lines names strictness 0 s told) old new
IsTold names strictness s events old new page after (Err (errors.Idle index o)) reached =
    (strictness ≡ Strict) × IsCut strictness s events index (λ v. v ≡ Keeps o) (λ told. page ++ lines names strictness 0 s told) old new
IsTold names strictness s events old new page after (Err (errors.Writing fault)) reached = Begins old new (page ++ lines names strictness 0 s events)
