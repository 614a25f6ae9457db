use Rattle.std.specs.Prelude.{codes}
use Rattle.hart_ends.specs.Ends.{hart_text}
use Rattle.text_fields.proofs.Written.{begins_first, stops, writes_then}
use Rattle.command_files.proofs.ends.print_end.Goals as goal

pub returns-in_err-put_end : goal.returns-in_err-put_end
returns-in_err-put_end g c = stops _ _ _ _ c.from_residual.ensures.0 (begins_first _ _ (hart_text c.args.hart c.args.status c.args.output.now) (codes "\n") c.in_err-put_end.ensures)

pub returns : goal.returns
returns g c = writes_then _ _ _ (hart_text c.args.hart c.args.status c.args.output.now) (codes "\n") c.put.result c.in_ok-put_end.ensures c.put.ensures
