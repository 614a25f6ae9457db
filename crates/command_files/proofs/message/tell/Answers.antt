use Rattle.command_files.proofs.Messages.{begun_of}
use Rattle.command_files.proofs.message.tell.Goals as goal

pub returns-clause-told : goal.returns-clause-told
returns-clause-told g c = λ plain. begun_of _ _ _ c.put_fault.result (c.put_fault.ensures plain)
