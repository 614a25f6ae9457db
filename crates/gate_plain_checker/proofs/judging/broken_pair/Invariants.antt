use Rattle.std.proofs.Common.{◌≡◌, length}
use Rattle.rvwmo_order.specs.Scans.{first_broken_pair}
use Rattle.gate_plain_checker.proofs.judging.broken_pair.Given as goal

abbrev pub invariant-loop-rest : goal.invariant-loop-rest
invariant-loop-rest l = first_broken_pair l.harts l.order l.order ≡ first_broken_pair l.harts l.order l.rest

abbrev pub decreases-loop-rest : goal.decreases-loop-rest
decreases-loop-rest l = length l.rest
