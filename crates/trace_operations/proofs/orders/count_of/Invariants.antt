use Rattle.std.proofs.Common.{◌≡◌, ◌+◌, ◌≤◌, drop, length}
use Rattle.std.specs.Prelude.{filter}
use Rattle.memory_model.specs.Items.{has_operation}
use Rattle.trace_operations.proofs.orders.count_of.Given as goal

abbrev pub invariant-loop-entry : goal.invariant-loop-entry
invariant-loop-entry l = record {
  counted : l.count + length (filter has_operation (drop l.entry-index l.entries)) ≡ length (filter has_operation l.entries);
  few : l.count ≤ l.entry-index;
}
