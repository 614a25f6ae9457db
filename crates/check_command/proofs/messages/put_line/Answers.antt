use Rattle.text_fields.proofs.Written.{begins_first, stops, writes_then}
use Rattle.check_command.proofs.messages.put_line.Goals as goal

pub returns-in_err-put_named : goal.returns-in_err-put_named
returns-in_err-put_named g c = λ plain. stops _ _ _ _ c.from_residual.ensures.0 (begins_first _ _ _ _ (c.in_err-put_named.ensures plain))

pub returns : goal.returns
returns g c = λ plain. writes_then _ _ _ _ _ _ (c.in_ok-put_named.ensures plain) c.put.ensures
