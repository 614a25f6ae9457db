use Rattle.command_settings.proofs.commands.limit.Goals as goal

pub returns-clause-rule : goal.returns-clause-rule
returns-clause-rule c = c.number.ensures.rule
