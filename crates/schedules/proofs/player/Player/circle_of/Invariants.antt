use Rattle.std.proofs.Common.{◌≡◌, length}
use Rattle.machine_model.specs.Views.{State, node_at}
use Rattle.schedules.proofs.Rounds.{IsNoted}
use Rattle.schedules.proofs.player.Player.circle_of.Given as goal

abbrev pub invariant-loop-step : goal.invariant-loop-step
invariant-loop-step l = IsNoted l.fn.self.machine l.fn.hart l.stood l.count l.self.machine
