-- A hart that goes round.
use Rattle.std.specs.Prelude.{◌≡◌, ◌<◌, ℕ, length}
use Rattle.machine_model.specs.Views.{State, node_at}
use Rattle.schedules.specs.Schedules.{Leads}
use Rattle.machine_model.specs.History.{entries_of}

-- from a state some events lead to where a hart stands at this address, and some more to where it has retired further instructions and stands there again, with the same registers
pub record GoesRound (s : State) (hart pc : ℕ) : Type 0 where
  pub there : State
  pub again : State
  pub reached : Leads s there
  pub round : Leads there again
  pub stands : (node_at there hart).hart.pc ≡ pc
  pub back : (node_at again hart).hart ≡ (node_at there hart).hart
  pub longer : length (entries_of there.trace hart) < length (entries_of again.trace hart)
