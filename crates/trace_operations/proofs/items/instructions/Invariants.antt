use Rattle.std.proofs.Common.{◌≡◌, ◌++◌, drop, length}
use Rattle.memory_model.specs.Items.{items_of_harts}
use Rattle.trace_operations.proofs.items.instructions.Given as goal

abbrev pub invariant-loop-id : goal.invariant-loop-id
invariant-loop-id l = items_of_harts l.trace.history.image (length l.trace.history.entries) 0 l.trace.history.entries ≡ l.lists.items ++ items_of_harts l.trace.history.image (length l.trace.history.entries) l.id (drop l.id l.trace.history.entries)
