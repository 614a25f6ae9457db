use Rattle.command_settings.proofs.commands.run_command.Goals as goal

pub returns : goal.returns
returns c =
    let raw_is = c.add_arg-command.ensures _ _ c.described-command.ensures c.raw.ensures.rule c.raw.ensures.local in
    let machine_is = c.with_machine-command.ensures _ raw_is in
    let limit_is = c.add_arg-command-2.ensures _ _ machine_is c.limit.ensures.rule c.limit.ensures.local in
    let journal_is = c.add_arg-command-3.ensures _ _ limit_is c.journal.ensures.rule c.journal.ensures.local in
    let fail_on_is = c.add_arg-command-4.ensures _ _ journal_is c.fail_on_stop.ensures.rule c.fail_on_stop.ensures.local in
    c.add_arg.ensures _ _ fail_on_is c.image.ensures.rule c.image.ensures.local
