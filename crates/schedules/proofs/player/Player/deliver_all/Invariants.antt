use Rattle.schedules.specs.Schedules.{Leads}
use Rattle.schedules.proofs.player.Player.deliver_all.Given as goal

abbrev pub invariant-loop-channel : goal.invariant-loop-channel
invariant-loop-channel l = Leads l.fn.self.machine l.self.machine

abbrev pub invariant-loop-hart : goal.invariant-loop-hart
invariant-loop-hart l = Leads l.fn.self.machine l.self.machine

abbrev pub invariant-loop-round : goal.invariant-loop-round
invariant-loop-round l = Leads l.fn.self.machine l.self.machine
