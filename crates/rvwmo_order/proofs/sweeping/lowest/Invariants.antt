use Rattle.std.proofs.Common.{◌≡◌, ℕ, ◌<◌, ◌≤◌, true}
use Rattle.std.specs.Prelude.{slice_index_or}
use Rattle.memory_model.specs.declared.operation.Operation.{Operation}
use Rattle.memory_model.specs.Operations.{precedes}
use Rattle.rvwmo_order.proofs.sweeping.lowest.Given as goal

abbrev pub invariant-loop-a : goal.invariant-loop-a
invariant-loop-a l = (k : ℕ) (d : Operation) → k < l.a-index → precedes (slice_index_or l.among k d) l.b ≡ true → l.low ≤ (slice_index_or l.among k d).place
