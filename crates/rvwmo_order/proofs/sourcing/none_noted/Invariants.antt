use Rattle.std.proofs.Common.{◌≡◌, replicate}
use Rattle.rvwmo_order.proofs.sourcing.none_noted.Given as goal

abbrev pub invariant-loop-place : goal.invariant-loop-place
invariant-loop-place l = l.own.items ≡ replicate l.place (replicate 4 0)
