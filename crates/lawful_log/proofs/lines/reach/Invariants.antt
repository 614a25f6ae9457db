use Rattle.std.proofs.Common.{ℕ, ◌≡◌, ◌+◌, ◌-◌, length}
use Rattle.lawful_log.specs.Followed.{known_at}
use Rattle.lawful_log.proofs.lines.reach.Given as goal

abbrev pub invariant-loop-alloc : goal.invariant-loop-alloc
invariant-loop-alloc l = (h : ℕ) → known_at l.harts.items h ≡ known_at l.fn.harts.items h

abbrev pub decreases-loop-alloc : goal.decreases-loop-alloc
decreases-loop-alloc l = l.hart + 1 - length l.harts.items
