use Rattle.std.proofs.Common.{◌≡◌, ◌<◌, ◌+◌, ◌++◌, length}
use Rattle.litmus_answers.specs.Layouts.{harts_told}
use Rattle.litmus_answers.proofs.told.add_harts.Given as goal

abbrev pub invariant-loop-rest : goal.invariant-loop-rest
invariant-loop-rest l = record {
  told : l.told.items ++ harts_told l.hart l.rest ≡ l.initial.told.items ++ harts_told 0 l.initial.rest;
  count : l.hart + length l.rest < 256;
}

abbrev pub decreases-loop-rest : goal.decreases-loop-rest
decreases-loop-rest l = length l.rest
