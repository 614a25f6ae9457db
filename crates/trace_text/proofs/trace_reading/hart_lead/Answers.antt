use Rattle.trace_text.proofs.TraceLoops.{digit_is}
use Rattle.trace_text.proofs.trace_reading.hart_lead.Goals as goal

pub returns : goal.returns
returns c = digit_is c.args.first c.args.hart c.requires
