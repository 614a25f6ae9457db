use Rattle.std.proofs.Common.{◌≡◌, length}
use Rattle.run_chart.specs.Bars.{held}
use Rattle.run_chart.proofs.bars.held.Given as goal

abbrev pub invariant-loop-rest : goal.invariant-loop-rest
invariant-loop-rest l = held l.line l.rest l.before ≡ held l.line l.copies l.before

abbrev pub decreases-loop-rest : goal.decreases-loop-rest
decreases-loop-rest l = length l.rest
