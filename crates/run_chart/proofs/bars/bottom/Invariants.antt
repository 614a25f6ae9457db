use Rattle.std.proofs.Common.{◌≡◌, length}
use Rattle.run_chart.specs.Bars.{bottom}
use Rattle.run_chart.proofs.bars.bottom.Given as goal

abbrev pub invariant-loop-rest : goal.invariant-loop-rest
invariant-loop-rest l = bottom l.line l.rest ≡ bottom 0 l.rows

abbrev pub decreases-loop-rest : goal.decreases-loop-rest
decreases-loop-rest l = length l.rest
