use Rattle.std.proofs.Common.{◌-◌, ◌<◌, ◌≤◌, length}
use Rattle.rvwmo_order.proofs.lows.end_of_earlier.Given as goal

abbrev pub invariant-loop-end : goal.invariant-loop-end
invariant-loop-end l = record {
  behind : l.place < l.end;
  within : l.end ≤ length l.order;
}

abbrev pub decreases-loop-end : goal.decreases-loop-end
decreases-loop-end l = length l.order - l.end
