use Rattle.std.proofs.Common.{◌∙◌, sym}
use Rattle.command_files.proofs.Left.{handed_up}
use Rattle.check_command.proofs.Logs.{trace_fault}
use Rattle.check_command.proofs.log.whole_text.Goals as goal

pub returns-in_err-trace-clause-told : goal.returns-in_err-trace-clause-told
returns-in_err-trace-clause-told g c = handed_up _ c.from_residual.result _ c.from_residual.ensures.1 (trace_fault c.args.text.now c.args.file _ (sym c.is_wide.ensures ∙ c.if-is_wide.false) c.in_err-trace.ensures.told)
