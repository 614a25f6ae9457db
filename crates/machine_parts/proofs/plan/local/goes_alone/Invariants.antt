use Rattle.std.specs.Prelude.{◌≡◌, ◌==◌, length}
use Rattle.hart.specs.Local.{private_row}
use Rattle.machine_parts.proofs.plan.local.goes_alone.Given as goal

-- the rest of the row goes on from the last hart
abbrev pub invariant-loop-left : goal.invariant-loop-left
invariant-loop-left l = (length (private_row l.image l.hart l.count) == l.count) ≡ (length (private_row l.image l.last l.left) == l.left)

abbrev pub decreases-loop-left : goal.decreases-loop-left
decreases-loop-left l = l.left
