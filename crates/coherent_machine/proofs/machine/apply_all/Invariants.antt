use Rattle.std.proofs.Common.{◌≡◌, ◌+◌, length}
use Rattle.machine_model.specs.LawfulLog.{IsLawfulLog}
use Rattle.coherent_machine.specs.Machine.{IsReached, KeepsHeadline}
use Rattle.coherent_machine.proofs.Refusals.{Applied}
use Rattle.coherent_machine.proofs.machine.apply_all.Given as goal

abbrev pub invariant-loop-rest : goal.invariant-loop-rest
invariant-loop-rest l = record {
  applied : Applied l.fn.machine l.fn.events l.index l.machine l.rest;
  place : l.index + length l.rest ≡ length l.fn.events;
  reached : IsReached l.machine;
  headline : KeepsHeadline l.machine;
  log : IsLawfulLog l.machine.trace.log;
}

abbrev pub decreases-loop-rest : goal.decreases-loop-rest
decreases-loop-rest l = length l.rest
