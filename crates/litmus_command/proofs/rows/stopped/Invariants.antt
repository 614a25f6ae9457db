use Rattle.std.proofs.Common.{◌≡◌, ◌+◌, length}
use Rattle.litmus_command.specs.States.{stopped_from}
use Rattle.litmus_command.proofs.rows.stopped.Given as goal

abbrev pub invariant-loop-rest : goal.invariant-loop-rest
invariant-loop-rest l = record {
  told : stopped_from l.number l.rest ≡ stopped_from 0 l.harts;
  count : l.number + length l.rest ≡ length l.harts;
}

abbrev pub decreases-loop-rest : goal.decreases-loop-rest
decreases-loop-rest l = length l.rest
