use Rattle.std.proofs.Common.{[], arith}
use Rattle.text_fields.proofs.Pages.{page_stops, page_fails, page_more, page_as, page_spelled, page_ends, item_next, item_none}
use Rattle.event_stream.specs.Lines.{output_line}
use Rattle.event_stream.proofs.report_writing.put_output.Goals as goal

pub returns-in_err-make_room : goal.returns-in_err-make_room
returns-in_err-make_room g c = page_stops _ _ _ _ _ _ c.from_residual.ensures.0 (page_fails _ _ _ _ [] _ _ c.loop-number.invariant c.in_err-make_room.ensures.sent)

pub loop-number-preserved : goal.loop-number-preserved
loop-number-preserved g c =
    page_spelled _ _ _ _ _ _ _ (page_as _ _ _ _ _ _ (item_next (output_line c.args.hart) c.args.output.now c.loop-number.number-index _ c.loop-number-test.true) (page_more _ _ _ _ _ [] _ _ c.loop-number.invariant c.in_ok-make_room.ensures.sent)) c.spell_number.ensures

pub returns : goal.returns
returns g c = page_ends _ _ _ _ _ (page_as _ _ _ _ _ _ (item_none (output_line c.args.hart) c.args.output.now c.loop-number.number-index (omega (arith, c.loop-number-test.false))) c.loop-number.invariant)
