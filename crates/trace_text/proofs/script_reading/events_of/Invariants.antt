use Rattle.std.proofs.Common.{length}
use Rattle.text_fields.specs.Reading.{all_at}
use Rattle.text_fields.proofs.Loops.{Reading}
use Rattle.trace_text.specs.ScriptReading.{event_at}
use Rattle.trace_text.proofs.Refusals.{Passed}
use Rattle.trace_text.proofs.script_reading.events_of.Given as goal

abbrev pub invariant-loop-rest : goal.invariant-loop-rest
invariant-loop-rest l = Reading event_at l.events.items l.rest (all_at event_at (length l.bytes) l.bytes) × Passed l.bytes l.events.items l.rest

abbrev pub decreases-loop-rest : goal.decreases-loop-rest
decreases-loop-rest l = length l.rest
