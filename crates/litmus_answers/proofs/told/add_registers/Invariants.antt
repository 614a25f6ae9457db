use Rattle.std.proofs.Common.{◌≡◌, ◌+◌, ◌++◌, length}
use Rattle.litmus_answers.specs.Layouts.{registers_told}
use Rattle.litmus_answers.proofs.told.add_registers.Given as goal

abbrev pub invariant-loop-rest : goal.invariant-loop-rest
invariant-loop-rest l = record {
  told : l.told.items ++ registers_told l.hart l.asked l.number l.rest ≡ l.initial.told.items ++ registers_told l.hart l.asked 0 l.initial.rest;
  count : l.number + length l.rest ≡ 32;
}

abbrev pub decreases-loop-rest : goal.decreases-loop-rest
decreases-loop-rest l = length l.rest
