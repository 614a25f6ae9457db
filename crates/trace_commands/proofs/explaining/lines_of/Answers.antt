use Rattle.trace_commands.proofs.Told.{line_fault}
use Rattle.trace_commands.proofs.explaining.lines_of.Goals as goal

pub returns-in-Ok-clause-lines : goal.returns-in-Ok-clause-lines
returns-in-Ok-clause-lines g c = record { lines = c.in-Ok.ensures.lines; judged = c.in-Ok.ensures.judged }

pub returns-in-Err-clause-told : goal.returns-in-Err-clause-told
returns-in-Err-clause-told g c = line_fault c.args.wanted.script c.args.trace.now.history c.in-Err.error _ c.in-Err.ensures.refused c.check.ensures.told c.check.ensures.memory
