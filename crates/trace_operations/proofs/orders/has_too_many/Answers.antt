use Rattle.std.proofs.Common.{◌<◌, ◌+◌, length, drop, arith, ap, ◌∙◌}
use Rattle.std.specs.Prelude.{filter}
use Rattle.memory_model.specs.Items.{has_operation}
use Rattle.memory_model.specs.Traces.{names_of_harts}
use Rattle.trace_operations.proofs.Counts.{hart_counted, few_given, too_many}
use Rattle.trace_operations.proofs.orders.has_too_many.Goals as goal

pub loop-hart-preserved : goal.loop-hart-preserved
loop-hart-preserved c =
    let t = c.args.trace.now.history in
    let h : c.loop-hart.hart < length t.entries = omega arith in
    let step = hart_counted c.loop-hart.hart t.entries h in
    let own = c.count_of-count.ensures ∙ ap (λ es. length (filter has_operation es)) c.entries.ensures.list in
    record { counted = omega (arith, step, own, c.loop-hart.invariant.counted); few = omega arith }

pub returns-then-count-gt-MAX_OPERATIONS : goal.returns-then-count-gt-MAX_OPERATIONS
returns-then-count-gt-MAX_OPERATIONS c =
    let t = c.args.trace.now.history in
    let h : c.loop-hart.hart < length t.entries = omega arith in
    let step = hart_counted c.loop-hart.hart t.entries h in
    let own = c.count_of-count.ensures ∙ ap (λ es. length (filter has_operation es)) c.entries.ensures.list in
    too_many c.loop-hart.count c.count_of-count.result (length (names_of_harts (c.loop-hart.hart + 1) (drop (c.loop-hart.hart + 1) t.entries))) (length (names_of_harts 0 t.entries)) (omega (arith, step, own, c.loop-hart.invariant.counted)) (omega arith)

pub overflow_add-count : goal.overflow_add-count
overflow_add-count c =
    let few = few_given c.entries.result.now c.entries.ensures.few in
    let own = c.count_of-count.ensures in
    omega (arith, few, own)
