use Rattle.std.proofs.Common.{◌≡◌, ◌++◌, drop, length}
use Rattle.memory_model.specs.Items.{items_of_harts}
use Rattle.memory_model.specs.Traces.{are_runs_from}
use Rattle.trace_operations.proofs.items.run_lists.Given as goal

abbrev pub invariant-loop-id : goal.invariant-loop-id
invariant-loop-id l = record {
  runs : are_runs_from l.trace.history.image (length l.trace.history.entries) 0 l.trace.history.entries l.trace.history.statuses ≡ are_runs_from l.trace.history.image (length l.trace.history.entries) l.id (drop l.id l.trace.history.entries) (drop l.id l.trace.history.statuses);
  listed : items_of_harts l.trace.history.image (length l.trace.history.entries) 0 l.trace.history.entries ≡ l.lists.items ++ items_of_harts l.trace.history.image (length l.trace.history.entries) l.id (drop l.id l.trace.history.entries);
}
