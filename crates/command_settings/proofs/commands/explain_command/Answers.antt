use Rattle.command_settings.proofs.commands.explain_command.Goals as goal

pub returns : goal.returns
returns c =
    let strict_is = c.add_arg-command.ensures _ _ c.described-command.ensures c.strict.ensures.rule c.strict.ensures.local in
    let state_is = c.add_arg-command-2.ensures _ _ strict_is c.state.ensures.rule c.state.ensures.local in
    c.with_replay.ensures _ (c.add_arg.ensures _ _ state_is c.vcd.ensures.rule c.vcd.ensures.local)
