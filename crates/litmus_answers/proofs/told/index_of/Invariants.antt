use Rattle.std.proofs.Common.{◌≡◌, ◌≤◌, ◌+◌, length}
use Rattle.litmus_answers.specs.Layouts.{earlier_from}
use Rattle.litmus_answers.proofs.told.index_of.Given as goal

abbrev pub invariant-loop-rest : goal.invariant-loop-rest
invariant-loop-rest l = record {
  value : l.index + earlier_from l.number l.rest l.register ≡ earlier_from 0 l.initial.rest l.register;
  few : l.index ≤ l.number;
  count : l.number + length l.rest ≡ 32;
}

abbrev pub decreases-loop-rest : goal.decreases-loop-rest
decreases-loop-rest l = length l.rest
