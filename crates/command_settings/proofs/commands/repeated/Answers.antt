use Rattle.command_settings.proofs.Rules.{acted, acted_local}
use Rattle.command_settings.proofs.commands.repeated.Goals as goal

pub returns-clause-rule : goal.returns-clause-rule
returns-clause-rule c = acted c.optional.result c.action.result _ _ c.optional.ensures.rule c.action.ensures

pub returns-clause-local : goal.returns-clause-local
returns-clause-local c = acted_local c.optional.result c.action.result _ c.optional.ensures.local c.action.ensures
