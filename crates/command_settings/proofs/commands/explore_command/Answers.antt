use Rattle.command_settings.proofs.commands.explore_command.Goals as goal

pub returns : goal.returns
returns c =
    let raw_is = c.add_arg-command.ensures _ _ c.described-command.ensures c.raw.ensures.rule c.raw.ensures.local in
    let machine_is = c.with_machine-command.ensures _ raw_is in
    let search_is = c.with_search-command.ensures _ c.args.models machine_is in
    let sample_is = c.with_sample-command.ensures _ c.args.models search_is in
    let window_is = c.with_window.ensures _ c.args.models sample_is in
    let show_is = c.add_arg-command-2.ensures _ _ window_is c.show.ensures.rule c.show.ensures.local in
    c.add_arg.ensures _ _ show_is c.image.ensures.rule c.image.ensures.local
