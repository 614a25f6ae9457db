use Rattle.std.proofs.Common.{refl}
use Rattle.std.specs.Prelude.{codes}
use Rattle.event_stream.specs.Holding.{value_line}
use Rattle.event_stream.proofs.Paging.{page_last, room_fails, room_spelled}
use Rattle.event_stream.proofs.holding.put_registers.Goals as goal

pub returns-in_err-make_room : goal.returns-in_err-make_room
returns-in_err-make_room g c = room_fails _ _ _ _ _ _ c.from_residual.ensures.0 c.in_err-make_room.ensures.sent

pub returns : goal.returns
returns g c =
    page_last _ _ _ _ _ _ _ _ _
    (room_spelled _ _ _ _ _ (value_line c.args.id (codes "pc") c.args.hart.now.pc) _ _ refl c.in_ok-make_room.ensures.sent c.spell_value.ensures)
    c.put_file.ensures
