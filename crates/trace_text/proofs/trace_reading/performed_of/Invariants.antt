use Rattle.std.proofs.Common.{length}
use Rattle.std.specs.Prelude.{codes}
use Rattle.text_fields.proofs.Loops.{Sections}
use Rattle.trace_text.specs.TraceLines.{operation_at}
use Rattle.trace_text.specs.TraceSections.{performed_at}
use Rattle.trace_text.proofs.SectionStops.{PassedOperations}
use Rattle.trace_text.proofs.trace_reading.performed_of.Given as goal

abbrev pub invariant-loop-fields : goal.invariant-loop-fields
invariant-loop-fields l = Sections (codes "P ") (operation_at l.harts) l.performed.items l.rest (performed_at l.harts l.bytes) × PassedOperations l.harts l.performed.items l.rest l.bytes

abbrev pub decreases-loop-fields : goal.decreases-loop-fields
decreases-loop-fields l = length l.rest
