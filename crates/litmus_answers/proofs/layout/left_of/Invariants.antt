use Rattle.std.proofs.Common.{◌≡◌, length}
use Rattle.litmus_answers.specs.Faults.{left_from}
use Rattle.litmus_answers.proofs.layout.left_of.Given as goal

abbrev pub invariant-loop-rest : goal.invariant-loop-rest
invariant-loop-rest l = left_from l.left l.before l.rest l.hart ≡ left_from 0 l.number l.initial.rest l.hart

abbrev pub decreases-loop-rest : goal.decreases-loop-rest
decreases-loop-rest l = length l.rest
