use Rattle.std.proofs.Common.{◌≡◌}
use Rattle.schedules.specs.Schedules.{start_of}
use Rattle.schedules.proofs.player.Player.settle_hart.Given as goal

abbrev pub invariant-loop-left : goal.invariant-loop-left
invariant-loop-left l = start_of l.self ≡ start_of l.fn.self

abbrev pub decreases-loop-left : goal.decreases-loop-left
decreases-loop-left l = l.left
