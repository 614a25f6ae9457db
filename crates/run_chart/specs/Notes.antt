-- What a hart's core did in an event.
use Rattle.std.specs.Prelude.{ℕ, ◌==◌, Bool, true, false, List, [], ◌∷◌, ◌++◌, Option, Some, None, map, slice_get, if◌then◌else◌}
use Rattle.std.specs.List.{flat_map}
use Rattle.std.specs.Option.{option_to_list}
use Rattle.run_chart.specs.declared.rows.Note.{Note}
use Rattle.run_chart.specs.declared.rows.Note.TheVariants as note
use Rattle.event_stream.specs.Reports.{Report}
use Rattle.hart.specs.declared.retired.Retired.{Retired}
use Rattle.machine_types.specs.declared.outcome.Outcome.{Outcome}
use Rattle.machine_types.specs.declared.outcome.Outcome.TheVariants.{Exited, Stopped}
use Rattle.rv32_exec.specs.Actions.{addressed}
use Rattle.rv32_exec.specs.declared.actions.Action.{Action}
use Rattle.trace_recorder.specs.History.{History, entries_of}
use Rattle.trace_recorder.specs.declared.operation.OpId.{OpId}

-- what was accessed, where there is an address
abbrev pub accesses_at : Option ℕ → Action → List Retired → List Note
accesses_at None action entries = []
accesses_at (Some a) action entries = map (note.Accessed action) entries

abbrev pub accesses : Option Action → List Retired → List Note
accesses None entries = []
accesses (Some action) entries = accesses_at (addressed action) action entries

abbrev pub as_performed : Option Retired → Option Note
as_performed None = None
as_performed (Some entry) = Some (note.Performed entry)

-- the instruction that gave an operation
abbrev pub performed : History → OpId → Option Note
performed t op = as_performed (slice_get (entries_of t op.hart) op.place)

abbrev pub performed_note : History → OpId → List Note
performed_note t op = option_to_list (performed t op)

-- what was performed, where nothing retired: what retires tells by itself what it performed
abbrev pub stores : History → List Retired → List OpId → List Note
stores t [] ops = flat_map (performed_note t) ops
stores t (entry ∷ entries) ops = []

abbrev pub is_reserved : ℕ → Option ℕ → Bool
is_reserved word None = false
is_reserved word (Some other) = other == word

abbrev pub lost : Option ℕ → Option Note
lost None = None
lost (Some word) = Some (note.Lost word)

-- a reservation that was won, or one that was lost
abbrev pub reservation : Option ℕ → Option ℕ → Option Note
reservation before None = lost before
reservation before (Some word) = if is_reserved word before then None else Some (note.Reserved word)

abbrev pub end : Outcome → Option Note
end (Exited code) = Some (note.Exited code)
end (Stopped code) = Some (note.Stopped code)
end _ = None

-- what retired, and what that accessed, or else what was performed; what was put out; the reservation; the hart's end
abbrev pub notes : History → Report → Option ℕ → Option ℕ → List Note
notes t r before now = ((((map note.Retired r.entries ++ accesses r.action r.entries) ++ stores t r.entries r.performed) ++ map note.PutOut r.output) ++ option_to_list (reservation before now)) ++ option_to_list (end r.outcome)
