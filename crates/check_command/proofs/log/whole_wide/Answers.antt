use Rattle.check_command.proofs.Logs.{wide_fault}
use Rattle.check_command.proofs.log.whole_wide.Goals as goal

pub returns-in-Err-clause-told : goal.returns-in-Err-clause-told
returns-in-Err-clause-told g c = wide_fault c.args.text.now c.args.file c.in-Err.error c.text.result c.requires c.text.ensures.told c.text.ensures.memory c.in-Err.ensures.refused
