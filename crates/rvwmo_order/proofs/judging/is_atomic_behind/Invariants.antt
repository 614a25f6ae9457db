use Rattle.std.proofs.Common.{◌≡◌, length}
use Rattle.rvwmo_order.specs.Scans.{is_atomic_behind}
use Rattle.rvwmo_order.proofs.Seen.{is_reached}
use Rattle.rvwmo_order.proofs.judging.is_atomic_behind.Given as goal

abbrev pub invariant-loop-rest : goal.invariant-loop-rest
invariant-loop-rest l = is_atomic_behind l.ranking l.fn.source l.w l.x ≡ is_reached l.w l.x l.rest

abbrev pub decreases-loop-rest : goal.decreases-loop-rest
decreases-loop-rest l = length l.rest
