use Rattle.std.proofs.Common.{◌≡◌, length}
use Rattle.image_orderings.specs.Flow as spec
use Rattle.image_orderings.proofs.flow.close.Given as goal

-- the sweeps that are left come to the same
abbrev pub invariant-loop-sweeps : goal.invariant-loop-sweeps
invariant-loop-sweeps l = record {
  size : length l.table ≡ length l.fn.table;
  rest : spec.closed_within l.sweeps l.image l.table ≡ spec.closed_within 64 l.image l.fn.table;
}

abbrev pub decreases-loop-sweeps : goal.decreases-loop-sweeps
decreases-loop-sweeps l = l.sweeps
