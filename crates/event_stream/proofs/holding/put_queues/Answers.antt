use Rattle.std.proofs.Common.{arith}
use Rattle.text_fields.proofs.Pages.{page_stops, page_fails, page_more, page_as, page_ends, item_next, item_none}
use Rattle.event_stream.specs.Holding.{waiting_lines}
use Rattle.event_stream.proofs.holding.put_queues.Goals as goal

pub returns-in_err-put_queue : goal.returns-in_err-put_queue
returns-in_err-put_queue g c =
    let f = waiting_lines c.args.hart c.args.queues.now in
    page_stops _ _ _ _ _ _ c.from_residual.ensures.0
    (page_fails _ _ _ _ _ _ _
    (page_as _ _ _ _ _ _ (item_next f c.args.channels.now c.loop-channel.channel-index _ c.loop-channel-test.true) c.loop-channel.invariant)
    c.in_err-put_queue.ensures)

pub loop-channel-preserved : goal.loop-channel-preserved
loop-channel-preserved g c =
    let f = waiting_lines c.args.hart c.args.queues.now in
    page_more _ _ _ _ _ _ _ _
    (page_as _ _ _ _ _ _ (item_next f c.args.channels.now c.loop-channel.channel-index _ c.loop-channel-test.true) c.loop-channel.invariant)
    c.in_ok-put_queue.ensures

pub returns : goal.returns
returns g c = page_ends _ _ _ _ _ (page_as _ _ _ _ _ _ (item_none (waiting_lines c.args.hart c.args.queues.now) c.args.channels.now c.loop-channel.channel-index (omega (arith, c.loop-channel-test.false))) c.loop-channel.invariant)
