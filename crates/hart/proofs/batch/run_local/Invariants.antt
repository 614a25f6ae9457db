use Rattle.std.proofs.Common.{◌≡◌, ◌++◌, ◌≤◌}
use Rattle.hart.specs.Local.{private_row}
use Rattle.hart.specs.Run.{reached}
use Rattle.hart.proofs.batch.run_local.Given as goal

-- what is left of the row goes on from the last hart
abbrev pub invariant-loop-room : goal.invariant-loop-room
invariant-loop-room l = record { row : private_row l.image l.hart l.max ≡ l.entries.items ++ private_row l.image l.last l.room; leads : l.last ≡ reached l.hart l.entries.items }

abbrev pub decreases-loop-room : goal.decreases-loop-room
decreases-loop-room l = l.room
