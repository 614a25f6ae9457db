use Rattle.run_waves.proofs.Paging.{room_fails, room_whole}
use Rattle.run_waves.proofs.writing.put_text.Goals as goal

pub returns-in_err-make_room : goal.returns-in_err-make_room
returns-in_err-make_room g c = room_fails _ _ _ _ _ _ c.from_residual.ensures.0 c.in_err-make_room.ensures.sent

pub returns : goal.returns
returns g c = room_whole _ _ _ _ _ _ c.in_ok-make_room.ensures.sent c.text.ensures.value
