use Rattle.std.proofs.Common.{◌≡◌, length, find}
use Rattle.rvwmo_order.specs.Scans.{is_broken_pair}
use Rattle.gate_plain_checker.proofs.judging.first_broken_with.Given as goal

abbrev pub invariant-loop-rest : goal.invariant-loop-rest
invariant-loop-rest l = find (λ r. is_broken_pair l.harts l.order r l.w) l.order ≡ find (λ r. is_broken_pair l.harts l.order r l.w) l.rest

abbrev pub decreases-loop-rest : goal.decreases-loop-rest
decreases-loop-rest l = length l.rest
