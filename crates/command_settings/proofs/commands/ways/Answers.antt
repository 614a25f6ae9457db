use Rattle.command_settings.proofs.commands.ways.Goals as goal

pub returns-clause-rule : goal.returns-clause-rule
returns-clause-rule c = c.size.ensures.rule
