use Rattle.std.proofs.Common.{◌≡◌, ◌++◌, length}
use Rattle.std.specs.Prelude.{codes}
use Rattle.litmus_answers.specs.Logs.{items_in, pieces, state_at}
use Rattle.litmus_answers.specs.Naming.{plain}
use Rattle.litmus_answers.proofs.reading.state_of.Given as goal

abbrev pub invariant-loop-rest : goal.invariant-loop-rest
invariant-loop-rest l = plain l.items.items ++ items_in (pieces (codes ";") l.rest) ≡ state_at l.line

abbrev pub decreases-loop-rest : goal.decreases-loop-rest
decreases-loop-rest l = length l.rest
