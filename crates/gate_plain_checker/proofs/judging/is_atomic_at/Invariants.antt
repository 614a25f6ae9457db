use Rattle.std.proofs.Common.{◌≡◌, length}
use Rattle.memory_model.specs.Legal.{is_atomic_at}
use Rattle.rvwmo_order.proofs.Seen.{is_reached}
use Rattle.gate_plain_checker.proofs.judging.is_atomic_at.Given as goal

abbrev pub invariant-loop-rest : goal.invariant-loop-rest
invariant-loop-rest l = is_atomic_at l.order l.r l.w l.x ≡ is_reached l.w l.x l.rest

abbrev pub decreases-loop-rest : goal.decreases-loop-rest
decreases-loop-rest l = length l.rest
