use Rattle.std.proofs.Common.{◌≡◌, ◌+◌, length}
use Rattle.coherent_machine.proofs.Refusals.{Applied}
use Rattle.schedules.specs.Schedules.{start_of}
use Rattle.schedules.proofs.Shorter.{IsSomeBefore}
use Rattle.schedules.proofs.player.Player.replay.Given as goal

abbrev pub invariant-loop-rest : goal.invariant-loop-rest
invariant-loop-rest l = record {
  start : start_of l.self ≡ start_of l.fn.self;
  applied : Applied l.fn.self.machine l.fn.events l.index l.self.machine l.rest;
  place : l.index + length l.rest ≡ length l.fn.events;
  kept : IsSomeBefore l.self.events l.rest l.fn.events;
}

abbrev pub decreases-loop-rest : goal.decreases-loop-rest
decreases-loop-rest l = length l.rest
