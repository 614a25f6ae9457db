use Rattle.command_settings.proofs.commands.chart_command.Goals as goal

pub returns : goal.returns
returns c = c.with_replay.ensures _ (c.add_arg.ensures _ _ c.described-command.ensures c.drawn_line.ensures.rule c.drawn_line.ensures.local)
