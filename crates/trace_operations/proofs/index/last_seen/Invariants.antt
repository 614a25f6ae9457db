use Rattle.std.proofs.Common.{◌≡◌, ◌+◌, ◌≤◌, None, length, take}
use Rattle.std.specs.Prelude.{filter}
use Rattle.std.specs.List.{last_or}
use Rattle.trace_operations.specs.Indexed.{is_seen}
use Rattle.trace_operations.proofs.index.last_seen.Given as goal

abbrev pub invariant-loop-left : goal.invariant-loop-left
invariant-loop-left g l = record {
  seen : last_or None (filter (is_seen l.position l.load) l.stores) ≡ last_or None (filter (is_seen l.position l.load) (take l.left l.stores));
  looks : l.ticks + l.left ≡ l.initial.ticks + length l.stores;
  within : l.left ≤ length l.stores;
}

abbrev pub decreases-loop-left : goal.decreases-loop-left
decreases-loop-left g l = l.left
