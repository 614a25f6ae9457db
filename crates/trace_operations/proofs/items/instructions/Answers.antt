use Rattle.std.proofs.Common.{◌<◌, arith, length}
use Rattle.trace_operations.proofs.Placed.{hart_pushed}
use Rattle.trace_operations.proofs.items.instructions.Goals as goal

pub loop-id-preserved : goal.loop-id-preserved
loop-id-preserved c =
    let t = c.args.trace.now.history in
    let h : c.loop-id.id < length t.entries = omega arith in
    hart_pushed t.image c.image.result.now c.loop-id.id c.harts-count.result c.entry.result c.at_reset-reset.result c.entries.result.now t.entries c.loop-id.lists.items c.push.new.self.items c.in_ok-items_of.field-0 h
    c.image.ensures c.at_reset-reset.ensures c.entry.ensures.exact c.harts-count.ensures.entries c.entries.ensures.list c.in_ok-items_of.ensures c.in_ok-push.ensures.items c.loop-id.invariant
