use Rattle.rvwmo_order.specs.Bounds.{BoundsEach}
use Rattle.rvwmo_order.proofs.bounds.bounding.rows_of.Given as goal

abbrev pub invariant-loop-hart : goal.invariant-loop-hart
invariant-loop-hart l = BoundsEach l.fn.model l.harts l.ranking l.weights l.rows.items
