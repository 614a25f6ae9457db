-- A step that stops changes its hart's status, and nothing else.
use Rattle.std.proofs.Common.{◌≡◌, ℕ, Some, ap, ◌∙◌}
use Rattle.hart.specs.declared.status.Status.{Status}
use Rattle.hart.specs.declared.status.Status.TheVariants.{Running, Stopped, Exited}
use Rattle.hart.specs.Run.{after_instr}
use Rattle.machine_model.specs.declared.act.Act.{Act}
use Rattle.machine_model.specs.declared.act.Act.TheVariants as act
use Rattle.machine_types.specs.declared.event.Event.TheVariants as event
use Rattle.machine_types.specs.declared.outcome.Outcome.TheVariants as outcome
use Rattle.machine_model.specs.Changing.{acted, outcome_by, outcome_of_act, stopped}
use Rattle.machine_model.specs.Events.{counted}
use Rattle.machine_model.specs.Laws.{StopsChangeStatusAlone}
use Rattle.machine_model.specs.Views.{State, node_at}
use Rattle.machine_model.proofs.runs.Runs.{retired_stops_not}
use Rattle.machine_model.proofs.Events.{has_moved}

stopped_by : (status : Status) (code : ℕ) → outcome_by status ≡ outcome.Stopped code → status ≡ Stopped code
stopped_by Running code e = absurd (cc e)
stopped_by (Stopped c) code e = cc e
stopped_by (Exited c) code e = absurd (cc e)

-- the one act whose outcome is a stop
stops : (s : State) (h : ℕ) (a : Act) (code : ℕ) → outcome_of_act s h a ≡ outcome.Stopped code → acted h a s ≡ stopped h code s
stops s h (act.Stop c) code e = ap (λ (k : ℕ). stopped h k s) (cc e)
stops s h (act.Retire entry i d) code e = absurd (retired_stops_not s.trace.image (node_at s h).hart entry i code (stopped_by (after_instr (node_at s h).hart entry (Some i)).status code e))
stops s h _ code e = absurd (cc e)

pub stops_change_status_alone : StopsChangeStatusAlone
stops_change_status_alone s h code new e =
    let m = has_moved s (event.Step h) (outcome.Stopped code) new e in
    m.new_is ∙ ap counted (stops s h m.act code m.outcome_is)
