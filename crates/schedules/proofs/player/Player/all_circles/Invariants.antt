use Rattle.std.proofs.Common.{All}
use Rattle.schedules.specs.Circles.{GoesRound}
use Rattle.schedules.specs.Schedules.{Leads}
use Rattle.schedules.proofs.player.Player.all_circles.Given as goal

abbrev pub invariant-loop-hart : goal.invariant-loop-hart
invariant-loop-hart l = record {
  leads : Leads l.fn.self.machine l.self.machine;
  real : All (λ circle. GoesRound l.fn.self.machine circle.hart circle.pc) l.found.items;
}
