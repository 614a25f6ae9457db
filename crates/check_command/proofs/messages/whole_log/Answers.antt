use Rattle.std.proofs.Common.{ℕ, List, subst}
use Rattle.check_command.proofs.Logs.{text_read}
use Rattle.check_command.proofs.Unread.{meant_told}
use Rattle.check_command.specs.Logs.{IsText}
use Rattle.check_command.proofs.messages.whole_log.Goals as goal

pub returns-in-Ok-whole_text-clause-read : goal.returns-in-Ok-whole_text-clause-read
returns-in-Ok-whole_text-clause-read g c =
    subst (λ (b : List ℕ). IsText b c.in-Ok-whole_text.log) (text_read c.args.skip c.args.bytes.now c.args.meant.now c.in-Ok.text.items c.as_slice.result.now c.requires c.in-Ok.ensures c.as_slice.ensures.value) c.in-Ok-whole_text.ensures.read

pub returns-clause-told : goal.returns-clause-told
returns-clause-told g c =
    meant_told c.args.skip c.args.bytes.now c.as_slice.result.now c.args.file c.in-Err.fault c.sourced.result
    (text_read c.args.skip c.args.bytes.now c.args.meant.now c.in-Ok.text.items c.as_slice.result.now c.requires c.in-Ok.ensures c.as_slice.ensures.value) c.sourced.ensures c.in-Err.ensures.told
