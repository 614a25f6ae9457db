use Rattle.std.proofs.Common.{◌≡◌, replicate}
use Rattle.rvwmo_order.specs.Bounds.{unbounded}
use Rattle.rvwmo_order.proofs.bounds.bounding.no_rows.Given as goal

abbrev pub invariant-loop-place : goal.invariant-loop-place
invariant-loop-place l = l.rows.items ≡ replicate l.place unbounded
