use Rattle.std.proofs.Common.{◌≡◌, ◌++◌, length}
use Rattle.litmus_command.specs.States.{row_of}
use Rattle.litmus_command.proofs.rows.row_of.Given as goal

abbrev pub invariant-loop-rest : goal.invariant-loop-rest
invariant-loop-rest l = l.row.items ++ row_of l.rest l.harts l.words ≡ row_of l.told l.harts l.words

abbrev pub decreases-loop-rest : goal.decreases-loop-rest
decreases-loop-rest l = length l.rest
