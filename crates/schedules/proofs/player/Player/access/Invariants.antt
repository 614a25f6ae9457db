use Rattle.std.proofs.Common.{◌≡◌}
use Rattle.schedules.specs.Schedules.{Leads, start_of}
use Rattle.schedules.proofs.player.Player.access.Given as goal

abbrev pub invariant-loop-try : goal.invariant-loop-try
invariant-loop-try l = record {
  start : start_of l.self ≡ start_of l.fn.self;
  leads : Leads l.fn.self.machine l.self.machine;
}
