use Rattle.rvwmo_order.proofs.Unbroken.{NoneUpTo}
use Rattle.rvwmo_order.proofs.near.are_kept.Given as goal

abbrev pub invariant-loop-place : goal.invariant-loop-place
invariant-loop-place l = NoneUpTo l.model l.harts l.ranking l.place
