-- What each event of a script came to, and how a script's events end.
use Rattle.std.specs.Prelude.{ℕ, ◌+◌, List, [], ◌∷◌, Option, None, length, drop, nat_lt, if◌then◌else◌}
use Rattle.hart.specs.Next.{next_action}
use Rattle.hart.specs.declared.retired.Retired.{Retired}
use Rattle.machine_types.specs.declared.event.Event.{Event}
use Rattle.machine_types.specs.declared.event.Event.TheVariants.{Step, Drain, Evict, Deliver, Local}
use Rattle.machine_types.specs.declared.outcome.Outcome.{Outcome}
use Rattle.machine_model.specs.Events.{Verdict, happens, hart_of, verdict}
use Rattle.machine_model.specs.Events.Verdict.{IsBad, Keeps, IsLimited, Moves}
use Rattle.machine_model.specs.Views.{State, node_at}
use Rattle.coherent_machine.specs.ApplyError.{ApplyError}
use Rattle.coherent_machine.specs.TheVariants.{BadEvent, Limit}
use Rattle.rv32_exec.specs.declared.actions.Action.{Action}
use Rattle.trace_text.specs.OpId.{OpId}
use Rattle.trace_text.specs.Logged.{Logged}
use Rattle.trace_text.specs.History.{entries_of}
use Rattle.event_stream.specs.declared.strictness.Strictness.{Strictness}
use Rattle.event_stream.specs.declared.strictness.Strictness.TheVariants.{Lenient, Strict}

-- an event, counted from 0 in its script, and its outcome; what a step's instruction was to do; the state behind it; and by what it made longer its hart's list of retired instructions, the performed order, the log, and what its hart put out
pub record Report : Type 0 where
  pub index : ℕ
  pub event : Event
  pub outcome : Outcome
  pub action : Option Action
  pub state : State
  pub entries : List Retired
  pub performed : List OpId
  pub log : List Logged
  pub output : List ℕ

-- what a list has that it had not before
abbrev pub grown : {A : Type 0} → List A → List A → List A
grown old new = drop (length old) new

abbrev pub outputs_of : State → ℕ → List ℕ
outputs_of s h = (node_at s h).output

-- what the next instruction of a hart is to do, with the registers that it has, where there is such a hart
abbrev pub action_at : State → ℕ → Option Action
action_at s h = if nat_lt h (length s.views.nodes) then next_action s.trace.image (node_at s h).hart else None

-- of a step that of its hart; what retires by Local accesses nothing
abbrev pub action_of : State → Event → Option Action
action_of s (Step h) = action_at s h
action_of s (Drain h word) = None
action_of s (Evict h line) = None
action_of s (Deliver channel h) = None
action_of s (Local h count) = None

-- the report of an event of this outcome that leads from one state to another
abbrev pub report_between : State → State → ℕ → Event → Outcome → Report
report_between old new index e o = record {
  index = index;
  event = e;
  outcome = o;
  action = action_of old e;
  state = new;
  entries = grown (entries_of old.trace (hart_of e)) (entries_of new.trace (hart_of e));
  performed = grown old.trace.performed new.trace.performed;
  log = grown old.trace.log new.trace.log;
  output = grown (outputs_of old (hart_of e)) (outputs_of new (hart_of e));
}

abbrev pub report : ℕ → State → Event → Outcome → Report
report index s e o = report_between s (happens s e) index e o

-- a stream has no report of an event that is refused, nor of what stands behind it; a strict one ends likewise at an event that changes nothing
abbrev pub reports_by : Verdict → Strictness → ℕ → State → Event → List Report → List Report
reports_by IsBad strictness index s e rest = []
reports_by IsLimited strictness index s e rest = []
reports_by (Keeps o) Lenient index s e rest = report index s e o ∷ rest
reports_by (Keeps o) Strict index s e rest = []
reports_by (Moves o new) strictness index s e rest = report index s e o ∷ rest

-- the reports of events, the first of which has this index
abbrev pub reports : Strictness → ℕ → State → List Event → List Report
reports strictness index s [] = []
reports strictness index s (e ∷ events) = reports_by (verdict s e) strictness index s e (reports strictness (index + 1) (happens s e) events)

-- how events end: all were told, and led to a state; or the one of this index is refused; or under Strict it changes nothing
pub data StreamEnding : Type 0 where
  Reached : (state : State) → StreamEnding
  Refused : (index : ℕ) (error : ApplyError) → StreamEnding
  Idle : (index : ℕ) (outcome : Outcome) → StreamEnding

abbrev pub ending_by : Verdict → Strictness → ℕ → StreamEnding → StreamEnding
ending_by IsBad strictness index rest = StreamEnding.Refused index BadEvent
ending_by IsLimited strictness index rest = StreamEnding.Refused index Limit
ending_by (Keeps o) Lenient index rest = rest
ending_by (Keeps o) Strict index rest = StreamEnding.Idle index o
ending_by (Moves o new) strictness index rest = rest

abbrev pub ending : Strictness → ℕ → State → List Event → StreamEnding
ending strictness index s [] = StreamEnding.Reached s
ending strictness index s (e ∷ events) = ending_by (verdict s e) strictness index (ending strictness (index + 1) (happens s e) events)
