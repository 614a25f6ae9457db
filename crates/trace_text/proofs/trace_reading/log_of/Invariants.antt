use Rattle.std.proofs.Common.{length}
use Rattle.std.specs.Prelude.{codes}
use Rattle.text_fields.proofs.Loops.{Sections}
use Rattle.trace_text.specs.TraceLines.{logged_at}
use Rattle.trace_text.specs.TraceSections.{log_at}
use Rattle.trace_text.proofs.SectionStops.{PassedMessages}
use Rattle.trace_text.proofs.trace_reading.log_of.Given as goal

abbrev pub invariant-loop-fields : goal.invariant-loop-fields
invariant-loop-fields l = Sections (codes "M ") (logged_at l.head.harts l.head.kib l.head.line) l.log.items l.rest (log_at l.head l.bytes) × PassedMessages l.head l.log.items l.rest l.bytes

abbrev pub decreases-loop-fields : goal.decreases-loop-fields
decreases-loop-fields l = length l.rest
