use Rattle.std.proofs.Common.{refl}
use Rattle.std.specs.Prelude.{codes}
use Rattle.event_stream.proofs.Paging.{page_last, room_fails, room_spelled}
use Rattle.event_stream.proofs.stalls.put_probe_acks.Goals as goal

pub returns-in_err-make_room : goal.returns-in_err-make_room
returns-in_err-make_room g c = room_fails _ _ _ _ _ _ c.from_residual.ensures.0 c.in_err-make_room.ensures.sent

pub returns : goal.returns
returns g c =
    page_last _ _ _ _ _ _ _ _ _
    (room_spelled _ _ _ _ _ (codes " awaits ProbeAck") _ _ refl c.in_ok-make_room.ensures.sent c.text.ensures.value)
    c.put_probed.ensures
