use Rattle.std.proofs.Common.{◌≡◌, ◌+◌, length}
use Rattle.image_orderings.specs.Flow as spec
use Rattle.image_orderings.proofs.flow.sweep.Given as goal

-- what is left to do comes to the same
abbrev pub invariant-loop-left : goal.invariant-loop-left
invariant-loop-left l = record {
  places : l.place + l.left ≡ length l.fn.table;
  size : length l.table ≡ length l.fn.table;
  rest : spec.swept l.image l.place l.left l.table ≡ spec.swept l.image 0 (length l.fn.table) l.fn.table;
}

abbrev pub decreases-loop-left : goal.decreases-loop-left
decreases-loop-left l = l.left
