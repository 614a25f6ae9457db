use Rattle.command_settings.proofs.commands.with_window.Goals as goal

pub returns : goal.returns
returns c = λ app names is.
    let architecture_is = c.add_arg-command.ensures app _ is c.architecture.ensures.rule c.architecture.ensures.local in
    c.add_arg.ensures _ _ architecture_is c.window.ensures.rule c.window.ensures.local
