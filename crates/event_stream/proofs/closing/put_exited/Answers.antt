use Rattle.std.proofs.Common.{List, ℕ, ap, sym, ◌∙◌, ◌++◌}
use Rattle.event_stream.proofs.ClosingLines.{exited_line}
use Rattle.event_stream.proofs.Paging.{room_fails, room_whole}
use Rattle.event_stream.proofs.closing.put_exited.Goals as goal

pub returns-in_err-make_room : goal.returns-in_err-make_room
returns-in_err-make_room g c = room_fails _ _ _ _ _ _ c.from_residual.ensures.0 c.in_err-make_room.ensures.sent

pub returns : goal.returns
returns g c =
    room_whole _ _ _ _ _ _ c.in_ok-make_room.ensures.sent
    (c.spell_status.ensures.value ∙ ap (λ (t : List ℕ). c.make_room.new.self ++ t) (sym (exited_line c.args.names.now c.args.machine.now c.args.hart c.args.code)))
