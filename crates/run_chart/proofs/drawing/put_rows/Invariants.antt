use Rattle.std.proofs.Common.{◌≡◌, ◌++◌, take}
use Rattle.std.specs.List.{flat_map}
use Rattle.run_chart.specs.Picture.{row}
use Rattle.run_chart.proofs.drawing.put_rows.Given as goal

abbrev pub invariant-loop-row : goal.invariant-loop-row
invariant-loop-row l = l.svg ≡ l.initial.svg ++ flat_map (row l.plan l.names.symbols.now l.names.size) (take l.row-index l.rows)
