use Rattle.std.proofs.Common.{ℕ, ◌≡◌, ◌+◌, ◌-◌, length}
use Rattle.written_lines.specs.Granted.{granted_at}
use Rattle.written_lines.proofs.granted.reach.Given as goal

abbrev pub invariant-loop-harts : goal.invariant-loop-harts
invariant-loop-harts l = (h : ℕ) → granted_at l.harts.items h ≡ granted_at l.fn.harts.items h

abbrev pub decreases-loop-harts : goal.decreases-loop-harts
decreases-loop-harts l = l.hart + 1 - length l.harts.items
