use Rattle.std.specs.Prelude.{codes}
use Rattle.command_files.specs.Messages.{fault_text}
use Rattle.text_fields.proofs.Written.{begins_first, stops, writes_then}
use Rattle.command_files.proofs.message.put_fault.Goals as goal

pub returns-in_err-put_text : goal.returns-in_err-put_text
returns-in_err-put_text g c = λ plain. stops _ _ _ _ c.from_residual.ensures.0 (begins_first _ _ (fault_text c.args.fault.now) (codes "\n") (c.in_err-put_text.ensures plain))

pub returns : goal.returns
returns g c = λ plain. writes_then _ _ _ (fault_text c.args.fault.now) (codes "\n") c.put.result (c.in_ok-put_text.ensures plain) c.put.ensures
