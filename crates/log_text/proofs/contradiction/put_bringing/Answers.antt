use Rattle.std.specs.Prelude.{codes}
use Rattle.text_fields.proofs.Written.{begins_first, begins_then, stops, writes_then}
use Rattle.log_text.proofs.contradiction.put_bringing.Goals as goal

pub returns-in_err-put : goal.returns-in_err-put
returns-in_err-put g c = stops _ _ _ _ c.from_residual.ensures.0 (begins_first _ _ (codes "its bytes aren't those that ") _ c.in_err-put.ensures)

pub returns-in_err-put-2 : goal.returns-in_err-put-2
returns-in_err-put-2 g c = stops _ _ _ _ c.from_residual-in_err-put-2.ensures.0 (begins_then _ _ _ (codes "its bytes aren't those that ") _ c.in_ok-put.ensures (begins_first _ _ _ _ c.in_err-put-2.ensures))

pub returns : goal.returns
returns g c = writes_then _ _ _ (codes "its bytes aren't those that ") _ _ c.in_ok-put.ensures (writes_then _ _ _ _ _ _ c.in_ok-put-2.ensures c.put-3.ensures)
