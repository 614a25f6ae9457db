use Rattle.command_settings.proofs.commands.page_command.Goals as goal

pub returns : goal.returns
returns c = c.with_replay.ensures _ c.described-command.ensures
