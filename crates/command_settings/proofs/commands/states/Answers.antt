use Rattle.command_settings.proofs.commands.states.Goals as goal

pub returns-clause-rule : goal.returns-clause-rule
returns-clause-rule c = c.number.ensures.rule
