use Rattle.command_settings.proofs.commands.with_sample.Goals as goal

pub returns : goal.returns
returns c = λ app names is.
    let sample_is = c.add_arg-command.ensures app _ is c.sample.ensures.rule c.sample.ensures.local in
    let seed_is = c.add_arg-command-2.ensures _ _ sample_is c.seed.ensures.rule c.seed.ensures.local in
    c.add_arg.ensures _ _ seed_is c.until.ensures.rule c.until.ensures.local
