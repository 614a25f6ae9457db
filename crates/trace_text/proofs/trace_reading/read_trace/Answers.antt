use Rattle.trace_text.proofs.WholeTraces.{is_found, is_counted, is_only}
use Rattle.trace_text.proofs.trace_reading.read_trace.Goals as goal

pub returns-clause-found : goal.returns-clause-found
returns-clause-found c = is_found c.args.bytes.now _ c.counted.ensures.value

pub returns-clause-count : goal.returns-clause-count
returns-clause-count c = is_counted c.args.bytes.now _ c.counted.ensures.value

pub returns-clause-only : goal.returns-clause-only
returns-clause-only c = is_only c.args.bytes.now _ c.counted.ensures.value
