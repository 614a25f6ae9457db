use Rattle.std.proofs.Common.{◌≡◌}
use Rattle.schedules.specs.Schedules.{start_of}
use Rattle.schedules.proofs.player.Player.settle.Given as goal

abbrev pub invariant-loop-hart : goal.invariant-loop-hart
invariant-loop-hart l = start_of l.self ≡ start_of l.fn.self
