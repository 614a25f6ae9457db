use Rattle.std.proofs.Common.{[], arith}
use Rattle.trace_text.specs.Traces.{operation}
use Rattle.text_fields.proofs.Pages.{page_stops, page_fails, page_more, page_as, page_spelled, page_ends, item_next, item_none}
use Rattle.trace_text.proofs.trace_writing.put_performed.Goals as goal

pub returns-in_err-make_room : goal.returns-in_err-make_room
returns-in_err-make_room g c = page_stops _ _ _ _ _ _ c.from_residual.ensures.0 (page_fails _ _ _ _ [] _ _ c.loop-operation.invariant c.in_err-make_room.ensures.sent)

pub loop-operation-preserved : goal.loop-operation-preserved
loop-operation-preserved g c =
    page_spelled _ _ _ _ _ _ _ (page_as _ _ _ _ _ _ (item_next operation c.args.performed.now c.loop-operation.operation-index _ c.loop-operation-test.true) (page_more _ _ _ _ _ [] _ _ c.loop-operation.invariant c.in_ok-make_room.ensures.sent)) c.spell_operation.ensures

pub returns : goal.returns
returns g c = page_ends _ _ _ _ _ (page_as _ _ _ _ _ _ (item_none operation c.args.performed.now c.loop-operation.operation-index (omega (arith, c.loop-operation-test.false))) c.loop-operation.invariant)
