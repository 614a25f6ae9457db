use Rattle.std.proofs.Common.{arith}
use Rattle.trace_operations.proofs.Steps.{harts_next}
use Rattle.trace_operations.proofs.orders.names_in.Goals as goal

pub loop-hart-preserved : goal.loop-hart-preserved
loop-hart-preserved c = harts_next c.loop-hart.hart c.args.trace.now.history.entries c.entries.result.now c.loop-hart.names.items c.push_names.new.names.items _ (omega arith) c.entries.ensures.list c.in_ok-push_names.ensures c.loop-hart.invariant
