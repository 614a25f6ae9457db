use Rattle.std.proofs.Common.{◌≡◌}
use Rattle.schedules.specs.Schedules.{start_of}
use Rattle.schedules.proofs.player.Player.bring_all_about.Given as goal

abbrev pub invariant-loop-index : goal.invariant-loop-index
invariant-loop-index l = start_of l.self ≡ start_of l.fn.self
