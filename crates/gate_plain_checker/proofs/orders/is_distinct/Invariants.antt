use Rattle.std.proofs.Common.{◌≡◌, length}
use Rattle.memory_model.specs.Traces.{is_distinct}
use Rattle.gate_plain_checker.proofs.orders.is_distinct.Given as goal

abbrev pub invariant-loop-rest : goal.invariant-loop-rest
invariant-loop-rest l = is_distinct l.order ≡ is_distinct l.rest

abbrev pub decreases-loop-rest : goal.decreases-loop-rest
decreases-loop-rest l = length l.rest
