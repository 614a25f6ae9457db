use Rattle.command_settings.proofs.commands.check_command.Goals as goal

pub returns : goal.returns
returns c =
    let messages_is = c.add_arg-command.ensures _ _ c.described-command.ensures c.messages.ensures.rule c.messages.ensures.local in
    let ended_is = c.add_arg-command-2.ensures _ _ messages_is c.ended.ensures.rule c.ended.ensures.local in
    let profile_is = c.add_arg-command-3.ensures _ _ ended_is c.profile.ensures.rule c.profile.ensures.local in
    let all_is = c.add_arg-command-4.ensures _ _ profile_is c.all.ensures.rule c.all.ensures.local in
    let skip_is = c.add_arg-command-5.ensures _ _ all_is c.skip.ensures.rule c.skip.ensures.local in
    let model_is = c.add_arg-command-6.ensures _ _ skip_is c.judged_model.ensures.rule c.judged_model.ensures.local in
    c.add_arg.ensures _ _ model_is c.trace.ensures.rule c.trace.ensures.local
