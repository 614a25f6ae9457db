use Rattle.command_files.proofs.Written.{all_begun}
use Rattle.explore_command.proofs.until.print_script.Goals as goal

pub returns-in-Err-flush-clause-begun : goal.returns-in-Err-flush-clause-begun
returns-in-Err-flush-clause-begun g c = all_begun _ _ _ _ c.in_default.ensures c.flush.ensures.bytes
