-- What the lines of a stream are together: a trace's.
use Rattle.std.specs.Prelude.{ℕ, ◌≡◌, ◌==◌, List, [], if◌then◌else◌}
use Rattle.std.specs.List.{flat_map}
use Rattle.coherent_machine.specs.Machine.{Replayed, replayed_from}
use Rattle.elf_loader.specs.Image.{Initial}
use Rattle.hart.specs.declared.retired.Retired.{Retired}
use Rattle.machine_types.specs.declared.config.Config.{Config}
use Rattle.machine_types.specs.declared.event.Event.{Event}
use Rattle.machine_model.specs.Events.{hart_of}
use Rattle.machine_model.specs.Views.{State, opening}
use Rattle.trace_text.specs.History.{History, entries_of}
use Rattle.event_stream.specs.declared.strictness.Strictness.{Strictness}
use Rattle.event_stream.specs.Reports.{Report, StreamEnding, ending, outputs_of, reports}

-- what a report tells of a hart's instructions
abbrev pub entries_in : ℕ → Report → List Retired
entries_in h r = if hart_of r.event == h then r.entries else []

-- and of what a hart put out
abbrev pub output_in : ℕ → Report → List ℕ
output_in h r = if hart_of r.event == h then r.output else []

-- the numbers that each hart put out, of all reports in their order, are all that it did
abbrev pub AreItsOutputs : List Report → State → Type 0
AreItsOutputs told s = (h : ℕ) → flat_map (output_in h) told ≡ outputs_of s h

-- the instructions of each hart, the performed operations and the messages of all reports, in their order, are the trace's
pub record AreOfTrace (told : List Report) (t : History) : Type 0 where
  pub entries : (h : ℕ) → flat_map (entries_in h) told ≡ entries_of t h
  pub performed : flat_map (λ r. r.performed) told ≡ t.performed
  pub log : flat_map (λ r. r.log) told ≡ t.log

-- a stream that tells all events ends where a replay of them does, and tells the whole trace, all that the harts put out, and nothing else
abbrev pub StreamIsTheTrace : Type 0
StreamIsTheTrace = (strictness : Strictness) (image : Initial) (config : Config) (events : List Event) (s : State)
    → ending strictness 0 (opening image config) events ≡ StreamEnding.Reached s
    → (replayed_from 0 (opening image config) events ≡ Replayed.Reached s)
    × (AreOfTrace (reports strictness 0 (opening image config) events) s.trace × AreItsOutputs (reports strictness 0 (opening image config) events) s)
