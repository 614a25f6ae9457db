use Rattle.command_settings.proofs.Rules.{named, named_local}
use Rattle.command_settings.proofs.commands.named.Goals as goal

pub returns-clause-rule : goal.returns-clause-rule
returns-clause-rule c = named c.new.result c.long.result c.help.result c.args.id c.args.help c.new.ensures.rule c.long.ensures c.help.ensures

pub returns-clause-local : goal.returns-clause-local
returns-clause-local c = named_local c.new.result c.long.result c.help.result c.args.id c.args.help c.new.ensures.optional.1 c.long.ensures c.help.ensures
