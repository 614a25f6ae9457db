use Rattle.command_settings.proofs.Rules.{filed, filed_local}
use Rattle.command_settings.proofs.commands.file.Goals as goal

pub returns-clause-rule : goal.returns-clause-rule
returns-clause-rule c = filed c.new.result c.required.result c.help.result _ c.args.help c.new.ensures.rule c.required.ensures c.help.ensures

pub returns-clause-local : goal.returns-clause-local
returns-clause-local c = filed_local c.new.result c.required.result c.help.result c.args.help c.new.ensures.optional.1 c.required.ensures c.help.ensures
