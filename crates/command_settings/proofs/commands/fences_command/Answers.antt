use Rattle.command_settings.proofs.commands.fences_command.Goals as goal

pub returns : goal.returns
returns c =
    let raw_is = c.add_arg-command.ensures _ _ c.described-command.ensures c.raw.ensures.rule c.raw.ensures.local in
    let sizes_is = c.with_machine-command.ensures _ raw_is in
    let states_is = c.add_arg-command-2.ensures _ _ sizes_is c.states.ensures.rule c.states.ensures.local in
    let window_is = c.add_arg-command-3.ensures _ _ states_is c.window.ensures.rule c.window.ensures.local in
    let threads_is = c.add_arg-command-4.ensures _ _ window_is c.threads.ensures.rule c.threads.ensures.local in
    let allow_is = c.add_arg-command-5.ensures _ _ threads_is c.allow.ensures.rule c.allow.ensures.local in
    let machine_is = c.add_arg-command-6.ensures _ _ allow_is c.machine_outcomes.ensures.rule c.machine_outcomes.ensures.local in
    let scripts_is = c.add_arg-command-7.ensures _ _ machine_is c.witnesses.ensures.rule c.witnesses.ensures.local in
    let write_is = c.add_arg-command-8.ensures _ _ scripts_is c.written.ensures.rule c.written.ensures.local in
    let show_is = c.add_arg-command-9.ensures _ _ write_is c.show.ensures.rule c.show.ensures.local in
    c.add_arg.ensures _ _ show_is c.image.ensures.rule c.image.ensures.local
