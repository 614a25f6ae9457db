use Rattle.std.proofs.Common.{◌≡◌, ◌++◌, drop}
use Rattle.std.specs.List.{filter_map}
use Rattle.memory_model.specs.Traces.{operation_at}
use Rattle.trace_operations.proofs.orders.operations_at.Given as goal

abbrev pub invariant-loop-name : goal.invariant-loop-name
invariant-loop-name l = filter_map (operation_at l.harts) l.order ≡ l.operations.items ++ filter_map (operation_at l.harts) (drop l.name-index l.order)
