use Rattle.std.proofs.Common.{◌≡◌, ℕ, List, subst, sym}
use Rattle.command_files.proofs.Left.{handed_up}
use Rattle.check_command.specs.Logs.{IsText}
use Rattle.check_command.specs.Messages.{text_meant}
use Rattle.log_text.specs.Meant.{meant}
use Rattle.check_command.proofs.Piping.{meant_of}
use Rattle.check_command.proofs.messages.log_in.Goals as goal

pub returns-in_err-log-clause-told : goal.returns-in_err-log-clause-told
returns-in_err-log-clause-told g c = handed_up _ c.from_residual.result _ c.from_residual.ensures.1
    (meant_of c.args.skip c.args.bytes.items c.as_slice-source.result.now c.args.file _ c.as_slice-source.ensures.value c.in_err-log.ensures.told)

pub returns-clause-read : goal.returns-clause-read
returns-clause-read g c = subst (λ (b : List ℕ). (c.args.bytes.items ≡ b) × (c.in-Ok.meant.items ≡ meant c.args.skip b) × IsText (text_meant c.args.skip b) c.in_ok-log.log)
    c.as_slice-source.ensures.value (sym c.as_slice-source.ensures.value, c.in-Ok.ensures, c.in_ok-log.ensures.read)
