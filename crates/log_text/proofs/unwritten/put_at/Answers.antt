use Rattle.std.specs.Prelude.{codes}
use Rattle.text_fields.proofs.Written.{begins_first, stops, writes_then}
use Rattle.log_text.proofs.unwritten.put_at.Goals as goal

pub returns-in_err-put : goal.returns-in_err-put
returns-in_err-put g c = stops _ _ _ _ c.from_residual.ensures.0 (begins_first _ _ (codes ": its byte at ") _ c.in_err-put.ensures)

pub returns : goal.returns
returns g c = writes_then _ _ _ (codes ": its byte at ") _ _ c.in_ok-put.ensures c.put_address.ensures
