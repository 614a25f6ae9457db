use Rattle.std.proofs.Common.{◌∙◌, ap, arith}
use Rattle.memory_model.specs.Traces.{operation_at}
use Rattle.trace_operations.proofs.Steps.{some_next, none_next}
use Rattle.trace_operations.proofs.orders.operations_at.Goals as goal
use Rattle.trace_operations.proofs.orders.operations_at.Goals.{in-Some+in_ok-push, in_default}

pub loop-name-preserved : goal.loop-name-preserved
loop-name-preserved c =
    elim c.match-operation_at.branch [
      | in-Some+in_ok-push w ↦ some_next (operation_at c.args.harts.now) c.args.order.now c.loop-name.name-index _ c.loop-name.operations.items c.match-operation_at.operations.items _ c.operation_at.result w.in-Some.operation (omega arith) c.operation_at.ensures w.in-Some.is (ap (λ v. v.items) w.operations-is ∙ w.in_ok-push.ensures.items) c.loop-name.invariant
      | in_default w ↦ none_next (operation_at c.args.harts.now) c.args.order.now c.loop-name.name-index _ c.loop-name.operations.items c.match-operation_at.operations.items _ c.operation_at.result (omega arith) c.operation_at.ensures w.in_default.is (ap (λ v. v.items) w.operations-is) c.loop-name.invariant
    ]
