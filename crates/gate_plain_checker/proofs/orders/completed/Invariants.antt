use Rattle.std.proofs.Common.{◌≡◌, ◌++◌, drop, not}
use Rattle.std.specs.List.{filter}
use Rattle.memory_model.specs.Traces.{is_among}
use Rattle.gate_plain_checker.proofs.orders.completed.Given as goal

abbrev pub invariant-loop-name : goal.invariant-loop-name
invariant-loop-name l = l.trace.history.performed ++ filter (λ n. not (is_among l.trace.history.performed n)) l.name-items ≡ l.order.items ++ filter (λ n. not (is_among l.trace.history.performed n)) (drop l.name-index l.name-items)
