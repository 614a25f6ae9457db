-- The flat meaning: which events are good, what each comes to and changes, and what a list of events leads to.
use Rattle.std.specs.Prelude.{ℕ, List, [], ◌∷◌, Some, length, nat_lt, if◌then◌else◌}
use Rattle.flat_model.specs.Changing.{accessed, does, drained, next_place, retired, stopped}
use Rattle.flat_model.specs.declared.event.FlatEvent.{FlatEvent}
use Rattle.flat_model.specs.declared.event.FlatEvent.TheVariants as event
use Rattle.flat_model.specs.Flat.{Flat, node_at}
use Rattle.flat_model.specs.Steps.{FlatPlan, Refused, Stays, Stops, Retires, Drains, plan_drain, plan_fail, plan_step}
use Rattle.hart.specs.Run.{after_instr}
use Rattle.machine_types.specs.declared.outcome.Outcome.{Outcome}
use Rattle.machine_types.specs.declared.outcome.Outcome.TheVariants as outcome
use Rattle.machine_model.specs.Changing.{outcome_by}

abbrev pub hart_of : FlatEvent → ℕ
hart_of (event.Step h) = h
hart_of (event.Drain h word) = h
hart_of (event.Fail h) = h

-- ---- what an event comes to

abbrev pub plan_of : Flat → FlatEvent → FlatPlan
plan_of f (event.Step h) = plan_step f.config.model f.trace.image f.memory (node_at f h) (next_place f h)
plan_of f (event.Drain h word) = plan_drain (node_at f h) word
plan_of f (event.Fail h) = plan_fail f.trace.image (node_at f h) (next_place f h)

-- ---- the meaning

-- what comes of an event: there is none such, nothing changes, or the flat machine changes
pub data FlatVerdict : Type 0 where
  IsBad : FlatVerdict
  Keeps : (outcome : Outcome) → FlatVerdict
  Moves : (outcome : Outcome) (new : Flat) → FlatVerdict

-- memory is accessed first
abbrev pub verdict_by : Flat → ℕ → FlatPlan → FlatVerdict
verdict_by f h Refused = IsBad
verdict_by f h (Stays o) = Keeps o
verdict_by f h (Stops code) = Moves (outcome.Stopped code) (stopped h code f)
verdict_by f h (Retires entry i d address) = Moves (outcome_by (after_instr (node_at f h).hart entry (Some i)).status) (retired h entry i (does f.config.model h d (accessed h address f)))
verdict_by f h (Drains word) = Moves outcome.Drained (drained h word (accessed h (Some word) f))

abbrev pub verdict : Flat → FlatEvent → FlatVerdict
verdict f e = if nat_lt (hart_of e) (length f.nodes) then verdict_by f (hart_of e) (plan_of f e) else IsBad

abbrev pub flat_by : Flat → FlatVerdict → Flat
flat_by f IsBad = f
flat_by f (Keeps o) = f
flat_by f (Moves o new) = new

-- the flat machine after an event; one that is refused changes nothing
abbrev pub happens : Flat → FlatEvent → Flat
happens f e = flat_by f (verdict f e)

-- and after a list of events
abbrev pub after_events : Flat → List FlatEvent → Flat
after_events f [] = f
after_events f (e ∷ events) = after_events (happens f e) events
