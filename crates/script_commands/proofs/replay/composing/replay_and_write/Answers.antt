use Rattle.std.proofs.Common.{subst}
use Rattle.event_stream.specs.MachineModelLaws.{IsHeadline}
use Rattle.machine_types.specs.declared.config.Config.{Config}
use Rattle.command_files.proofs.Replays.{leads_there, readable}
use Rattle.script_commands.proofs.replay.composing.replay_and_write.Goals as goal

pub returns-in-Ok-write_trace-clause-written : goal.returns-in-Ok-write_trace-clause-written
returns-in-Ok-write_trace-clause-written c = λ c'. record {
  replayed = leads_there c'.args.image c'.args.script.now c'.args.model c'.config_of-config.result c'.as_slice.result.now c'.in-Ok.machine c'.config_of-config.ensures c'.as_slice.ensures c'.in-Ok.ensures.ok;
  printed = rw (← c'.trace.ensures) c'.in-Ok-write_trace.ensures;
  readable = readable c'.every_trace_has_a_text.ensures c'.in-Ok.machine c'.in-Ok.ensures.reached;
  headline = subst (λ (config : Config). IsHeadline c'.args.image config c'.in-Ok.machine) c'.config_of-config.ensures c'.in-Ok.ensures.headline;
  log = c'.in-Ok.ensures.log;
}

pub returns-in-Err-write_trace-clause-unfinished : goal.returns-in-Err-write_trace-clause-unfinished
returns-in-Err-write_trace-clause-unfinished c = λ c'. (
  c'.in-Ok.machine,
  leads_there c'.args.image c'.args.script.now c'.args.model c'.config_of-config.result c'.as_slice.result.now c'.in-Ok.machine c'.config_of-config.ensures c'.as_slice.ensures c'.in-Ok.ensures.ok,
  rw (← c'.trace.ensures) c'.in-Err-write_trace.ensures,
)
