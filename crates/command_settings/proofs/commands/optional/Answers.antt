use Rattle.command_settings.proofs.Rules.{valued, valued_local}
use Rattle.command_settings.proofs.commands.optional.Goals as goal

pub returns-clause-rule : goal.returns-clause-rule
returns-clause-rule c = valued c.named.result c.value_name.result _ c.args.unit c.named.ensures.rule c.value_name.ensures

pub returns-clause-local : goal.returns-clause-local
returns-clause-local c = valued_local c.named.result c.value_name.result c.args.unit c.named.ensures.local c.value_name.ensures
