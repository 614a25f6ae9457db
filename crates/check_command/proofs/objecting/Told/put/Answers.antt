use Rattle.text_fields.proofs.Written.{begins_first, stops, writes_then}
use Rattle.check_command.proofs.objecting.Told.put.Goals as goal

pub returns-in_err-put_place : goal.returns-in_err-put_place
returns-in_err-put_place g c = stops _ _ _ _ c.from_residual.ensures.0 (begins_first _ _ _ _ c.in_err-put_place.ensures)

pub returns : goal.returns
returns g c = writes_then _ _ _ _ _ _ c.in_ok-put_place.ensures c.put_cause.ensures
