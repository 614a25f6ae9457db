use Rattle.command_settings.proofs.Rules.{required, required_local}
use Rattle.command_settings.proofs.commands.required_option.Goals as goal

pub returns-clause-rule : goal.returns-clause-rule
returns-clause-rule c = required c.optional.result c.required.result _ c.optional.ensures.rule c.required.ensures

pub returns-clause-local : goal.returns-clause-local
returns-clause-local c = required_local c.optional.result c.required.result c.optional.ensures.local c.required.ensures
