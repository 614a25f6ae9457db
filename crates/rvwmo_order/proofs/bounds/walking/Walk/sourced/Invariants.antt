use Rattle.std.proofs.Common.{◌≡◌, ℕ, ◌<◌, ◌≤◌, ◌||◌, max, true}
use Rattle.std.specs.Prelude.{slice_index_or}
use Rattle.memory_model.specs.declared.operation.Operation.{Operation}
use Rattle.memory_model.specs.Operations.{is_amo, is_sc}
use Rattle.memory_model.specs.Order.{position_in, source}
use Rattle.rvwmo_order.specs.Bounds.{IsSource, unbounded, weight_of}
use Rattle.rvwmo_order.specs.Ranks.{rank_of}
use Rattle.rvwmo_order.specs.Touched.{but, touch_in}
use Rattle.rvwmo_order.proofs.bounds.walking.Walk.sourced.Given as goal

abbrev pub invariant-loop-x : goal.invariant-loop-x
invariant-loop-x l = record {
  loads : (q : ℕ) → l.b.address ≤ q → q < l.x → but (rank_of l.ranking (source l.ranking l.b q)) (touch_in l.self.touches q) ≤ l.most.loads;
  atomics : (q : ℕ) → q < l.x → (s : Operation) → IsSource l.ranking l.b q s → (is_amo s.kind || is_sc s.kind) ≡ true → weight_of l.weights l.ranking s ≤ l.most.atomics;
  passed_on : (q : ℕ) → q < l.x → (s : Operation) → IsSource l.ranking l.b q s → max (slice_index_or l.rows (position_in l.ranking s) unbounded).address (slice_index_or l.rows (position_in l.ranking s) unbounded).data_stored ≤ l.most.passed_on;
}
