use Rattle.std.proofs.Common.{◌++◌, ◌∙◌, List, ap, sym, ℕ}
use Rattle.event_stream.specs.Comments.{start}
use Rattle.event_stream.proofs.EventLines.{line_ended, line_whole}
use Rattle.event_stream.proofs.Paging.{page_last, room_fails, room_spelled, room_whole}
use Rattle.event_stream.proofs.report_writing.put_entry.Goals as goal

pub returns-in_err-make_room-clause-line : goal.returns-in_err-make_room-clause-line
returns-in_err-make_room-clause-line g c = room_fails _ _ _ _ _ _ c.from_residual.ensures.0 c.in_err-make_room.ensures.sent

pub returns-then-spell_start-clause-line : goal.returns-then-spell_start-clause-line
returns-then-spell_start-clause-line g c =
    let some = sym c.spell_start.ensures.instruction ∙ c.if-spell_start.true in
    page_last _ _ _ _ _ _ _ _ _
    (room_spelled _ _ _ _ _ (start c.args.names.now c.args.hart c.args.entry.now) _ _ (line_ended c.args.names.now c.args.hart c.args.action c.args.entry.now some) c.in_ok-make_room.ensures.sent c.spell_start.ensures.value)
    c.put_end.ensures

pub returns-else-spell_start-clause-line : goal.returns-else-spell_start-clause-line
returns-else-spell_start-clause-line g c =
    let none = sym c.spell_start.ensures.instruction ∙ c.if-spell_start.false in
    room_whole _ _ _ _ _ _ c.in_ok-make_room.ensures.sent
    (c.spell_start.ensures.value ∙ ap (λ (t : List ℕ). c.make_room.new.self ++ t) (line_whole c.args.names.now c.args.hart c.args.action c.args.entry.now none))
