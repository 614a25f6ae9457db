use Rattle.std.proofs.Common.{◌≡◌, length}
use Rattle.run_chart.specs.Copies.{has}
use Rattle.run_chart.proofs.copies.has.Given as goal

abbrev pub invariant-loop-rest : goal.invariant-loop-rest
invariant-loop-rest l = has l.rest l.line ≡ has l.lines l.line

abbrev pub decreases-loop-rest : goal.decreases-loop-rest
decreases-loop-rest l = length l.rest
