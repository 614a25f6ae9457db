use Rattle.command_settings.proofs.commands.with_search.Goals as goal

pub returns : goal.returns
returns c = λ app names is.
    let states_is = c.add_arg-command.ensures app _ is c.states.ensures.rule c.states.ensures.local in
    let scripts_is = c.add_arg-command-2.ensures _ _ states_is c.scripts.ensures.rule c.scripts.ensures.local in
    let whole_is = c.add_arg-command-3.ensures _ _ scripts_is c.whole.ensures.rule c.whole.ensures.local in
    let allow_is = c.add_arg-command-4.ensures _ _ whole_is c.allow.ensures.rule c.allow.ensures.local in
    let fail_on_is = c.add_arg-command-5.ensures _ _ allow_is c.fail_on.ensures.rule c.fail_on.ensures.local in
    let first_is = c.add_arg-command-6.ensures _ _ fail_on_is c.first.ensures.rule c.first.ensures.local in
    c.add_arg.ensures _ _ first_is c.seconds.ensures.rule c.seconds.ensures.local
