use Rattle.command_files.proofs.MachineTraces.{every_trace_has_a_text}
use Rattle.command_files.proofs.machine_traces.every_trace_has_a_text.Goals as goal

pub returns : goal.returns
returns c = every_trace_has_a_text
