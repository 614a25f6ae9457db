use Rattle.std.proofs.Common.{◌≤◌}
use Rattle.run_command.proofs.limits.LimitNote.count.Given as goal

abbrev pub invariant-loop-hart : goal.invariant-loop-hart
invariant-loop-hart l = l.count ≤ l.hart
