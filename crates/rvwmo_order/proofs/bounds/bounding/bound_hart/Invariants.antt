use Rattle.memory_model.specs.Rules.{items_of}
use Rattle.rvwmo_order.specs.Bounds.{BoundsEach, HasCome, own_weight}
use Rattle.rvwmo_order.proofs.bounds.bounding.bound_hart.Given as goal

abbrev pub invariant-loop-place : goal.invariant-loop-place
invariant-loop-place l = record {
  bound : BoundsEach l.fn.model l.harts l.ranking l.weights l.rows;
  come : HasCome l.fn.model (own_weight l.weights l.ranking) l.ranking (items_of l.harts l.hart) l.place l.walk;
}
