use Rattle.std.proofs.Common.{◌≡◌, ◌≤◌, length, vec_len}
use Rattle.rvwmo_order.proofs.Lowest.{AreLowsFrom}
use Rattle.rvwmo_order.proofs.lows.lows_in.Given as goal

abbrev pub invariant-loop-left : goal.invariant-loop-left
invariant-loop-left l = record {
  long : vec_len l.lows ≡ length l.order;
  wide : length l.least ≡ 256;
  within : l.left ≤ length l.order;
  found : AreLowsFrom l.order l.left l.least l.lows.items;
}

abbrev pub decreases-loop-left : goal.decreases-loop-left
decreases-loop-left l = l.left
