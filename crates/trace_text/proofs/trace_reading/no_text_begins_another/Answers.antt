use Rattle.trace_text.proofs.WholeTraces.{no_text_begins_another}
use Rattle.trace_text.proofs.trace_reading.no_text_begins_another.Goals as goal

pub returns : goal.returns
returns c = no_text_begins_another
