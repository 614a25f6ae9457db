use Rattle.std.proofs.Common.{◌≤◌, length}
use Rattle.rvwmo_order.proofs.Pairs.{NoneFrom}
use Rattle.rvwmo_order.proofs.rules.pair_place.Given as goal

abbrev pub invariant-loop-place : goal.invariant-loop-place
invariant-loop-place l = record {
  before : l.place ≤ l.sc.place;
  within : l.place ≤ length l.items;
  none : NoneFrom l.items l.place l.sc.place;
}

abbrev pub decreases-loop-place : goal.decreases-loop-place
decreases-loop-place l = l.place
