use Rattle.std.proofs.Common.{◌≡◌, ◌≤◌, [], length}
use Rattle.run_chart.specs.Copies.{lines_from}
use Rattle.run_chart.proofs.copies.lines_of.Given as goal

abbrev pub invariant-loop-rest : goal.invariant-loop-rest
invariant-loop-rest l = record {
  lines : lines_from l.only l.lines.items l.rest ≡ lines_from l.only [] l.log;
  few : length l.lines.items ≤ 400;
}

abbrev pub decreases-loop-rest : goal.decreases-loop-rest
decreases-loop-rest l = length l.rest
