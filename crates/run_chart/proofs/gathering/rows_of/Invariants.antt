use Rattle.std.proofs.Common.{◌≡◌, ◌+◌, ◌++◌, ◌≤◌, length}
use Rattle.std.specs.Prelude.{map}
use Rattle.machine_model.specs.Views.{opening}
use Rattle.run_chart.specs.Rows.{line_behind, rows_of, told}
use Rattle.run_chart.proofs.gathering.rows_of.Given as goal

abbrev pub invariant-loop-rest : goal.invariant-loop-rest
invariant-loop-rest l = record {
  rows : map told l.gathered.rows.items ++ rows_of l.scope.size l.scope.only l.scope.columns.now l.gathered.line l.index l.machine l.rest
      ≡ rows_of l.scope.size l.scope.only l.scope.columns.now 0 0 (opening l.fn.image l.fn.config) l.events;
  line : l.gathered.line ≡ line_behind 0 (map told l.gathered.rows.items);
  low : l.gathered.line ≤ 65535;
  count : length l.gathered.rows.items ≤ 400;
  place : l.index + length l.rest ≡ length l.events;
}

abbrev pub decreases-loop-rest : goal.decreases-loop-rest
decreases-loop-rest l = length l.rest
