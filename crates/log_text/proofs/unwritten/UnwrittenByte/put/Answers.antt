use Rattle.text_fields.proofs.Written.{begins_first, stops, writes_then}
use Rattle.log_text.proofs.unwritten.UnwrittenByte.put.Goals as goal

pub returns-in_err-put_routed : goal.returns-in_err-put_routed
returns-in_err-put_routed g c = stops _ _ _ _ c.from_residual.ensures.0 (begins_first _ _ _ _ c.in_err-put_routed.ensures)

pub returns : goal.returns
returns g c = writes_then _ _ _ _ _ _ c.in_ok-put_routed.ensures c.put_neither.ensures
