use Rattle.std.proofs.Common.{◌≡◌, ◌≤◌, drop, length}
use Rattle.rvwmo_order.specs.Marks.{flagged, flags_from}
use Rattle.rvwmo_order.proofs.sweeping.mark_back.Given as goal

abbrev pub invariant-loop-left : goal.invariant-loop-left
invariant-loop-left l = record {
  wanted : l.wanted ≡ flags_from l.rule l.sources l.fn.wanted (drop l.left l.stretch);
  marked : drop l.left l.marks ≡ flagged l.rule l.sources l.fn.wanted (drop l.left l.stretch);
  long : length l.marks ≡ length l.stretch;
  within : l.left ≤ length l.stretch;
}

abbrev pub decreases-loop-left : goal.decreases-loop-left
decreases-loop-left l = l.left
