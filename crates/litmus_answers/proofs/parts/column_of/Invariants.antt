use Rattle.std.proofs.Common.{◌≡◌, ◌++◌, length}
use Rattle.litmus_answers.specs.Parts.{column_of}
use Rattle.litmus_answers.proofs.parts.column_of.Given as goal

abbrev pub invariant-loop-rest : goal.invariant-loop-rest
invariant-loop-rest l = l.column.items ++ column_of l.rest l.hart ≡ column_of l.initial.rest l.hart

abbrev pub decreases-loop-rest : goal.decreases-loop-rest
decreases-loop-rest l = length l.rest
