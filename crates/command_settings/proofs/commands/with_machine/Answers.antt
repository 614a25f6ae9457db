use Rattle.command_settings.proofs.commands.with_machine.Goals as goal

pub returns : goal.returns
returns c = λ app is.
    let harts_is = c.add_arg-command.ensures app _ is c.harts.ensures.rule c.harts.ensures.local in
    let memory_is = c.add_arg-command-2.ensures _ _ harts_is c.memory.ensures.rule c.memory.ensures.local in
    let sets_is = c.add_arg-command-3.ensures _ _ memory_is c.sets.ensures.rule c.sets.ensures.local in
    let ways_is = c.add_arg-command-4.ensures _ _ sets_is c.ways.ensures.rule c.ways.ensures.local in
    let line_is = c.add_arg-command-5.ensures _ _ ways_is c.line.ensures.rule c.line.ensures.local in
    c.add_arg.ensures _ _ line_is c.machine_model.ensures.rule c.machine_model.ensures.local
