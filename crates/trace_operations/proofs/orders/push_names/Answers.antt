use Rattle.std.proofs.Common.{◌∙◌, ap, arith}
use Rattle.trace_operations.proofs.Steps.{names_next, names_passed}
use Rattle.trace_operations.proofs.orders.push_names.Goals as goal
use Rattle.trace_operations.proofs.orders.push_names.Goals.{then-has_operation+in_ok-push, else-has_operation}

pub loop-place-preserved : goal.loop-place-preserved
loop-place-preserved c =
    elim c.if-has_operation.branch [
      | then-has_operation+in_ok-push w ↦ names_next c.args.hart c.loop-place.place c.args.entries.now _ c.loop-place.names.items c.if-has_operation.names.items _ c.has_operation.result (omega arith) c.has_operation.ensures w.if-has_operation.true (ap (λ v. v.items) w.names-is ∙ w.in_ok-push.ensures.items) c.loop-place.invariant
      | else-has_operation w ↦ names_passed c.args.hart c.loop-place.place c.args.entries.now _ c.loop-place.names.items c.if-has_operation.names.items _ c.has_operation.result (omega arith) c.has_operation.ensures w.if-has_operation.false (ap (λ v. v.items) w.names-is) c.loop-place.invariant
    ]
