use Rattle.std.proofs.Common.{◌≡◌, ◌++◌, ℕ, List, [], Option, Some, None, ap, arith, drop, refl, ◌∙◌, ◌+◌}
use Rattle.std.specs.List.{flat_map}
use Rattle.std.specs.Prelude.{slice_get}
use Rattle.text_fields.proofs.Pages.{item_none, page_as, page_ends, page_fails, page_more, page_spelled, page_stops}
use Rattle.tilelink_channels.specs.Queues.{queue_of}
use Rattle.tl_types.specs.declared.message.Channel.{Channel}
use Rattle.tl_types.specs.declared.message.Msg.{Msg}
use Rattle.event_stream.specs.Holding.{message_if, message_line}
use Rattle.event_stream.proofs.Counting.{item_if, placed_next}
use Rattle.event_stream.proofs.holding.put_queue.Goals as goal

same_if : (h : ℕ) (channel : Channel) (m : Option Msg) → item_if (message_line h channel) m ≡ message_if h channel m
same_if h channel None = refl
same_if h channel (Some m) = refl

pub returns-in_err-make_room : goal.returns-in_err-make_room
returns-in_err-make_room g c = page_stops _ _ _ _ _ _ c.from_residual.ensures.0 (page_fails _ _ _ _ [] _ _ c.loop-place.invariant c.in_err-make_room.ensures.sent)

pub loop-place-preserved : goal.loop-place-preserved
loop-place-preserved g c =
    let f = message_line c.args.hart c.args.channel in
    let q = queue_of c.args.queues.now c.args.channel in
    let i = c.loop-place.place in
    page_spelled _ _ _ _ _ _ _
    (page_as _ _ _ _ _ _
    (placed_next f q i (omega (arith, c.loop-place-test.true, c.len-count.ensures)) ∙ ap (λ (t : List ℕ). t ++ flat_map f (drop (i + 1) q)) (same_if c.args.hart c.args.channel (slice_get q i)))
    (page_more _ _ _ _ _ [] _ _ c.loop-place.invariant c.in_ok-make_room.ensures.sent))
    c.spell_waiting_at.ensures

pub returns : goal.returns
returns g c =
    let f = message_line c.args.hart c.args.channel in
    let q = queue_of c.args.queues.now c.args.channel in
    page_ends _ _ _ _ _ (page_as _ _ _ _ _ _ (item_none f q c.loop-place.place (omega (arith, c.loop-place-test.false, c.len-count.ensures))) c.loop-place.invariant)
