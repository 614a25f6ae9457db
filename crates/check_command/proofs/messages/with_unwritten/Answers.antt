use Rattle.check_command.proofs.Traces.{told_first}
use Rattle.check_command.proofs.messages.with_unwritten.Goals as goal

pub returns-in-Some : goal.returns-in-Some
returns-in-Some c = told_first c.args.verdict c.args.found c.in-Some.unwritten c.in-Some.is c.requires
