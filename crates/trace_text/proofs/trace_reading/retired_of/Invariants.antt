use Rattle.std.proofs.Common.{length}
use Rattle.trace_text.proofs.SectionStops.{PassedEntries}
use Rattle.trace_text.proofs.TraceLoops.{Entries}
use Rattle.trace_text.proofs.trace_reading.retired_of.Given as goal

abbrev pub invariant-loop-fields : goal.invariant-loop-fields
invariant-loop-fields l = Entries l.hart l.entries.items l.rest l.bytes × PassedEntries l.hart l.entries.items l.rest l.bytes

abbrev pub decreases-loop-fields : goal.decreases-loop-fields
decreases-loop-fields l = length l.rest
