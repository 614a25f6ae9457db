use Rattle.std.proofs.Common.{◌≡◌, ◌+◌, ◌++◌, length}
use Rattle.run_chart.specs.Picture.{columns}
use Rattle.run_chart.proofs.drawing.put_columns.Given as goal

abbrev pub invariant-loop-rest : goal.invariant-loop-rest
invariant-loop-rest l = record {
  text : l.svg ++ columns l.plan l.names.symbols.now l.names.size l.hart l.end l.rows l.column l.rest ≡ l.initial.svg ++ columns l.plan l.names.symbols.now l.names.size l.hart l.end l.rows 0 l.columns;
  count : l.column + length l.rest ≡ length l.columns;
}

abbrev pub decreases-loop-rest : goal.decreases-loop-rest
decreases-loop-rest l = length l.rest
