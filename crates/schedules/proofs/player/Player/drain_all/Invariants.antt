use Rattle.schedules.specs.Schedules.{Leads}
use Rattle.schedules.proofs.player.Player.drain_all.Given as goal

abbrev pub invariant-loop-store : goal.invariant-loop-store
invariant-loop-store l = Leads l.fn.self.machine l.self.machine
