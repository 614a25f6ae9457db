use Rattle.std.proofs.Common.{◌≡◌, ◌++◌, drop}
use Rattle.memory_model.specs.Traces.{names_from}
use Rattle.trace_operations.proofs.orders.push_names.Given as goal

abbrev pub invariant-loop-place : goal.invariant-loop-place
invariant-loop-place l = l.fn.names.items ++ names_from l.hart 0 l.entries ≡ l.names.items ++ names_from l.hart l.place (drop l.place l.entries)
