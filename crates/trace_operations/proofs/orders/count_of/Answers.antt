use Rattle.std.proofs.Common.{arith}
use Rattle.trace_operations.proofs.Counts.{counted_next, counted_same}
use Rattle.trace_operations.proofs.orders.count_of.Goals as goal
use Rattle.trace_operations.proofs.orders.count_of.Goals.{then-has_operation, else-has_operation}

pub loop-entry-preserved : goal.loop-entry-preserved
loop-entry-preserved c =
    elim c.if-has_operation.branch [
      | then-has_operation w ↦ record {
        counted = counted_next c.args.entries.now c.loop-entry.entry-index c.loop-entry.count c.if-has_operation.count _ _ c.has_operation.result (omega arith) c.has_operation.ensures w.if-has_operation.true w.count-is c.loop-entry.invariant.counted;
        few = omega (arith, w.count-is, c.loop-entry.invariant.few);
      }
      | else-has_operation w ↦ record {
        counted = counted_same c.args.entries.now c.loop-entry.entry-index c.loop-entry.count c.if-has_operation.count _ _ c.has_operation.result (omega arith) c.has_operation.ensures w.if-has_operation.false w.count-is c.loop-entry.invariant.counted;
        few = omega (arith, w.count-is, c.loop-entry.invariant.few);
      }
    ]
