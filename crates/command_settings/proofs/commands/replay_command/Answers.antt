use Rattle.command_settings.proofs.commands.replay_command.Goals as goal

pub returns : goal.returns
returns c = c.with_replay.ensures _ c.described-command.ensures
