use Rattle.std.proofs.Common.{ℕ, ◌+◌, ◌<◌, ◌≤◌}
use Rattle.std.specs.Prelude.{slice_index_or}
use Rattle.rvwmo_order.specs.Bounds.{greatest_of, unbounded}
use Rattle.rvwmo_order.proofs.bounds.rows.are_clear.Given as goal

abbrev pub invariant-loop-place : goal.invariant-loop-place
invariant-loop-place l = (p : ℕ) → p < l.place → greatest_of (slice_index_or l.rows p unbounded) ≤ p + 1
