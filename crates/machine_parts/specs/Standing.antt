-- How a machine stands.
use Rattle.machine_model.specs.Views.{State}
use Rattle.trace_recorder.specs.History.{Room}

-- its state, as the event meaning sees it, and the room that its trace's lists have for more
pub record Standing : Type 0 where
  pub state : State
  pub room : Room
