use Rattle.std.proofs.Common.{◌≡◌, ◌++◌, length}
use Rattle.run_chart.specs.declared.shapes.Hold.TheVariants.{Nothing}
use Rattle.run_chart.specs.Bars.{bars}
use Rattle.run_chart.proofs.bars.put_bars.Given as goal

abbrev pub invariant-loop-rest : goal.invariant-loop-rest
invariant-loop-rest l = l.svg ++ bars l.plan l.place l.bottom l.from l.hold l.rest ≡ l.initial.svg ++ bars l.plan l.place l.bottom 0 Nothing l.rows

abbrev pub decreases-loop-rest : goal.decreases-loop-rest
decreases-loop-rest l = length l.rest
