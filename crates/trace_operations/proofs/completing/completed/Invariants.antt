use Rattle.std.proofs.Common.{◌≡◌, ◌++◌, drop, not}
use Rattle.std.specs.List.{filter}
use Rattle.trace_operations.specs.Indexed.{has_name}
use Rattle.trace_operations.proofs.completing.completed.Given as goal

abbrev pub invariant-loop-name : goal.invariant-loop-name
invariant-loop-name l = l.trace.history.performed ++ filter (λ n. not (has_name l.performed n)) l.name-items ≡ l.order.items ++ filter (λ n. not (has_name l.performed n)) (drop l.name-index l.name-items)
