use Rattle.std.proofs.Common.{◌≡◌}
use Rattle.run_chart.specs.Names.{first_in}
use Rattle.run_chart.proofs.naming.first_in.Given as goal

abbrev pub invariant-loop-left : goal.invariant-loop-left
invariant-loop-left l = first_in l.symbols l.at l.left ≡ first_in l.symbols l.address l.bytes

abbrev pub decreases-loop-left : goal.decreases-loop-left
decreases-loop-left l = l.left
