use Rattle.script_commands.proofs.Streams.{part_of_state, part_of_stream, passed_on, with_its_state}
use Rattle.script_commands.proofs.explain.explaining.tell.Goals as goal

pub returns-in_err-machine-clause-unfinished : goal.returns-in_err-machine-clause-unfinished
returns-in_err-machine-clause-unfinished g c =
    passed_on _ c.from_residual.result _ c.from_residual.ensures.1
    (part_of_stream c.args.named.names c.args.strictness c.args.with_state c.args.named.image c.args.config c.args.events.now _ _ _ c.in_err-machine.ensures.unfinished)

pub returns-in-Ok-clause-whole : goal.returns-in-Ok-clause-whole
returns-in-Ok-clause-whole g c =
    with_its_state c.args.named.names c.args.strictness c.args.with_state c.args.named.image c.args.config c.args.events.now _ _ _ _ c.in_ok-machine.ensures.whole c.in-Ok.ensures

pub returns-clause-unfinished : goal.returns-clause-unfinished
returns-clause-unfinished g c =
    part_of_state c.args.named.names c.args.strictness c.args.with_state c.args.named.image c.args.config c.args.events.now _ _ _ _ c.in_ok-machine.ensures.whole c.in-Err.ensures
