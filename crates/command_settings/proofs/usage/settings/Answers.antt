use Rattle.command_settings.proofs.usage.settings.Goals as goal

pub returns-clause-named : goal.returns-clause-named
returns-clause-named g c = c.settings_by.ensures.named c.in_ok-command.ensures

pub returns-clause-fitting : goal.returns-clause-fitting
returns-clause-fitting g c = c.settings_by.ensures.fitting c.in_ok-command.ensures

pub returns-clause-agreeing : goal.returns-clause-agreeing
returns-clause-agreeing g c = c.settings_by.ensures.agreeing

pub returns-clause-refused : goal.returns-clause-refused
returns-clause-refused g c = c.settings_by.ensures.refused c.in_ok-command.ensures
