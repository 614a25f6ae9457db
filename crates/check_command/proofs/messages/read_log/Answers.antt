use Rattle.std.proofs.Common.{subst}
use Rattle.check_command.proofs.Logs.{log_held, logs_told}
use Rattle.check_command.proofs.Told.{of_log, text_is_not_write}
use Rattle.check_command.specs.Piped.{HasPiped}
use Rattle.command_files.proofs.Left.{handed_up}
use Rattle.check_command.proofs.messages.read_log.Goals as goal

pub returns-in_err-piped-clause-told : goal.returns-in_err-piped-clause-told
returns-in_err-piped-clause-told g c = handed_up _ c.from_residual.result _ c.from_residual.ensures.1 (of_log (g.F.Files.held c.args.files.now) c.args.check.skip c.args.file _ c.in_err-piped.ensures.fault)

pub returns-in_err-piped-clause-reading : goal.returns-in_err-piped-clause-reading
returns-in_err-piped-clause-reading g c = handed_up _ c.from_residual.result _ c.from_residual.ensures.1 (text_is_not_write (g.F.Files.held c.args.files.now) _ _ c.in_err-piped.ensures.fault)

pub returns-in-Whole-clause-read : goal.returns-in-Whole-clause-read
returns-in-Whole-clause-read g c = log_held (g.F.Files.held c.args.files.now) c.args.file.now c.args.check c.in-Whole.bytes.items c.log_in.result
    (subst (HasPiped (g.F.Files.held c.args.files.now) c.args.file.now c.args.check) c.in-Whole.is c.in_ok-piped.ensures.read) c.log_in.ensures.read

pub returns-in-Whole-clause-told : goal.returns-in-Whole-clause-told
returns-in-Whole-clause-told g c = logs_told (g.F.Files.held c.args.files.now) c.args.file c.in-Whole.bytes.items c.args.check.skip c.log_in.result
    (subst (HasPiped (g.F.Files.held c.args.files.now) c.args.file.now c.args.check) c.in-Whole.is c.in_ok-piped.ensures.read) c.log_in.ensures.told
