use Rattle.std.proofs.Common.{[], ◌∷◌, refl}
use Rattle.std.specs.Prelude.{decimal}
use Rattle.std.proofs.Common.{◌+◌, ◌++◌}
use Rattle.text_fields.proofs.Pages.{page_fails, page_more, page_stops}
use Rattle.event_stream.specs.Lines.{event_text}
use Rattle.event_stream.specs.Stalls.{stall}
use Rattle.event_stream.proofs.Paging.{page_last, room_fails, room_spelled}
use Rattle.event_stream.proofs.report_writing.put_event_line.Goals as goal

pub returns-in_err-make_room : goal.returns-in_err-make_room
returns-in_err-make_room g c = room_fails _ _ _ _ _ _ c.from_residual.ensures.0 c.in_err-make_room.ensures.sent

pub returns-in_err-put_stall : goal.returns-in_err-put_stall
returns-in_err-put_stall g c =
    let told = event_text (decimal (c.args.index + 2)) c.args.event c.args.outcome in
    let waits = stall c.args.machine.now c.args.event c.args.outcome in
    page_stops _ _ _ _ _ _ c.from_residual-in_err-put_stall.ensures.0
    (page_fails _ _ _ _ waits (10 ∷ []) _ (room_spelled _ _ _ _ _ told (waits ++ 10 ∷ []) _ refl c.in_ok-make_room.ensures.sent c.spell_told.ensures) c.in_err-put_stall.ensures)

pub returns : goal.returns
returns g c =
    let told = event_text (decimal (c.args.index + 2)) c.args.event c.args.outcome in
    let waits = stall c.args.machine.now c.args.event c.args.outcome in
    page_last _ _ _ _ _ _ _ _ _
    (page_more _ _ _ _ _ waits (10 ∷ []) _ (room_spelled _ _ _ _ _ told (waits ++ 10 ∷ []) _ refl c.in_ok-make_room.ensures.sent c.spell_told.ensures) c.in_ok-put_stall.ensures)
    c.put_line_feed.ensures
