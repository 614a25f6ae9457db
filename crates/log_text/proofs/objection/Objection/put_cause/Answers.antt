use Rattle.text_fields.proofs.Written.{begins_first, stops, writes_then}
use Rattle.log_text.proofs.objection.Objection.put_cause.Goals as goal

pub returns-in_err-put_rule : goal.returns-in_err-put_rule
returns-in_err-put_rule g c = stops _ _ _ _ c.from_residual.ensures.0 (begins_first _ _ _ _ c.in_err-put_rule.ensures)

pub returns : goal.returns
returns g c = writes_then _ _ _ _ _ _ c.in_ok-put_rule.ensures c.put_own.ensures
