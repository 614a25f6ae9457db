use Rattle.std.proofs.Common.{[], arith}
use Rattle.trace_text.specs.Scripts.{event}
use Rattle.text_fields.proofs.Pages.{page_stops, page_fails, page_more, page_as, page_spelled, page_ends, item_next, item_none}
use Rattle.trace_text.proofs.script_writing.put_events.Goals as goal

pub returns-in_err-make_room : goal.returns-in_err-make_room
returns-in_err-make_room g c = page_stops _ _ _ _ _ _ c.from_residual.ensures.0 (page_fails _ _ _ _ [] _ _ c.loop-event.invariant c.in_err-make_room.ensures.sent)

pub loop-event-preserved : goal.loop-event-preserved
loop-event-preserved g c =
    page_spelled _ _ _ _ _ _ _ (page_as _ _ _ _ _ _ (item_next event c.args.events.now c.loop-event.event-index _ c.loop-event-test.true) (page_more _ _ _ _ _ [] _ _ c.loop-event.invariant c.in_ok-make_room.ensures.sent)) c.spell_event.ensures.value

pub returns : goal.returns
returns g c = page_ends _ _ _ _ _ (page_as _ _ _ _ _ _ (item_none event c.args.events.now c.loop-event.event-index (omega (arith, c.loop-event-test.false))) c.loop-event.invariant)
