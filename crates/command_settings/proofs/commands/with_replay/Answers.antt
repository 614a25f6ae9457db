use Rattle.command_settings.proofs.commands.with_replay.Goals as goal

pub returns : goal.returns
returns c = λ app is.
    let raw_is = c.add_arg-command.ensures app _ is c.raw.ensures.rule c.raw.ensures.local in
    let model_is = c.add_arg-command-2.ensures _ _ raw_is c.machine_model.ensures.rule c.machine_model.ensures.local in
    let image_is = c.add_arg-command-3.ensures _ _ model_is c.image.ensures.rule c.image.ensures.local in
    c.add_arg.ensures _ _ image_is c.script.ensures.rule c.script.ensures.local
