use Rattle.std.specs.Prelude.{codes}
use Rattle.text_fields.proofs.Written.{begins_first, begins_then, stops, writes_then}
use Rattle.log_text.proofs.place.put_name.Goals as goal

pub returns-in_err-put : goal.returns-in_err-put
returns-in_err-put g c = stops _ _ _ _ c.from_residual.ensures.0 (begins_first _ _ (codes " (") _ c.in_err-put.ensures)

pub returns-in_err-put_escaped : goal.returns-in_err-put_escaped
returns-in_err-put_escaped g c = stops _ _ _ _ c.from_residual-in_err-put_escaped.ensures.0 (begins_then _ _ _ (codes " (") _ c.in_ok-put.ensures (begins_first _ _ _ _ c.in_err-put_escaped.ensures))

pub returns : goal.returns
returns g c = writes_then _ _ _ (codes " (") _ _ c.in_ok-put.ensures (writes_then _ _ _ _ _ _ c.in_ok-put_escaped.ensures c.put-2.ensures)
