use Rattle.std.proofs.Common.{◌≡◌, ◌≤◌, ◌++◌, drop, vec_len}
use Rattle.memory_model.specs.Traces.{names_of_harts}
use Rattle.trace_operations.proofs.orders.few_names.Given as goal

abbrev pub invariant-loop-hart : goal.invariant-loop-hart
invariant-loop-hart l = record {
  gathered : names_of_harts 0 l.trace.history.entries ≡ l.names.items ++ names_of_harts l.hart (drop l.hart l.trace.history.entries);
  few : vec_len l.names ≤ 4096;
}
