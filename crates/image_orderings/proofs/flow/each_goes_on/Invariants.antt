use Rattle.std.proofs.Common.{◌≡◌, ◌≤◌, length}
use Rattle.image_orderings.specs.Flow as spec
use Rattle.image_orderings.proofs.flow.each_goes_on.Given as goal

-- what follows those behind the place is in the table
abbrev pub invariant-loop-place : goal.invariant-loop-place
invariant-loop-place l = record {
  few : l.place ≤ length l.table;
  rest : spec.each_goes_on l.image l.table l.place ≡ spec.each_goes_on l.image l.table (length l.table);
}

abbrev pub decreases-loop-place : goal.decreases-loop-place
decreases-loop-place l = l.place
