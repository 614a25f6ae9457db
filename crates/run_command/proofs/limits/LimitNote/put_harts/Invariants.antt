use Rattle.std.proofs.Common.{◌≤◌}
use Rattle.run_command.proofs.limits.LimitNote.put_harts.Given as goal

abbrev pub invariant-loop-hart : goal.invariant-loop-hart
invariant-loop-hart g l = l.told ≤ l.hart-counter
