use Rattle.text_fields.proofs.Written.{begins_first, stops, writes_then}
use Rattle.log_text.proofs.contradiction.put_held.Goals as goal

pub returns-in_err-put_perm : goal.returns-in_err-put_perm
returns-in_err-put_perm g c = stops _ _ _ _ c.from_residual.ensures.0 (begins_first _ _ _ _ c.in_err-put_perm.ensures)

pub returns : goal.returns
returns g c = writes_then _ _ _ _ _ _ c.in_ok-put_perm.ensures c.put_by.ensures
