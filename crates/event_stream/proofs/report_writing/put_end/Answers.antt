use Rattle.event_stream.proofs.Paging.{room_fails}
use Rattle.event_stream.proofs.report_writing.put_end.Goals as goal

pub returns-in_err-make_room-in-Some : goal.returns-in_err-make_room-in-Some
returns-in_err-make_room-in-Some g c = room_fails _ _ _ _ _ _ c.from_residual.ensures.0 c.in_err-make_room-in-Some.ensures.sent
