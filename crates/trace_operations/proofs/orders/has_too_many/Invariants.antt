use Rattle.std.proofs.Common.{◌≡◌, ◌+◌, ◌≤◌, drop, length}
use Rattle.memory_model.specs.Traces.{names_of_harts}
use Rattle.trace_operations.proofs.orders.has_too_many.Given as goal

abbrev pub invariant-loop-hart : goal.invariant-loop-hart
invariant-loop-hart l = record {
  counted : l.count + length (names_of_harts l.hart (drop l.hart l.trace.history.entries)) ≡ length (names_of_harts 0 l.trace.history.entries);
  few : l.count ≤ 4096;
}
