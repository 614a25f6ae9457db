use Rattle.std.proofs.Common.{◌*◌, ◌≤◌}
use Rattle.notes.proofs.operations.operations_of.Given as goal

-- no hart has more operations than its list may have instructions
abbrev pub invariant-loop-hart : goal.invariant-loop-hart
invariant-loop-hart l = l.count ≤ l.hart * 1000000
