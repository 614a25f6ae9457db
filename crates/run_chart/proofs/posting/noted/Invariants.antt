use Rattle.std.proofs.Common.{◌≡◌, ◌+◌, ◌++◌, length}
use Rattle.run_chart.specs.Lines.{noted}
use Rattle.run_chart.proofs.posting.noted.Given as goal

abbrev pub invariant-loop-rest : goal.invariant-loop-rest
invariant-loop-rest l = record {
  notes : l.list.items ++ noted l.next l.rest ≡ noted l.line l.notes;
  next : l.next ≡ l.line + length l.list.items;
}

abbrev pub decreases-loop-rest : goal.decreases-loop-rest
decreases-loop-rest l = length l.rest
