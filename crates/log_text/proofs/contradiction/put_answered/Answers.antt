use Rattle.text_fields.proofs.Written.{begins_first, begins_then, stops, writes_then}
use Rattle.log_text.proofs.contradiction.put_answered.Goals as goal

pub returns-in_err-put_probe : goal.returns-in_err-put_probe
returns-in_err-put_probe g c = stops _ _ _ _ c.from_residual.ensures.0 (begins_first _ _ _ _ c.in_err-put_probe.ensures)

pub returns-in_err-put : goal.returns-in_err-put
returns-in_err-put g c = stops _ _ _ _ c.from_residual-in_err-put.ensures.0 (begins_then _ _ _ _ _ c.in_ok-put_probe.ensures (begins_first _ _ _ _ c.in_err-put.ensures))

pub returns : goal.returns
returns g c = writes_then _ _ _ _ _ _ c.in_ok-put_probe.ensures (writes_then _ _ _ _ _ _ c.in_ok-put.ensures c.put_change.ensures)
