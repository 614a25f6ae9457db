use Rattle.text_fields.specs.Reading.{numbered_at}
use Rattle.text_fields.proofs.Numbered.{Numbered}
use Rattle.trace_text.specs.TraceSections.{status_line_at}
use Rattle.trace_text.proofs.SectionStops.{PassedStatuses}
use Rattle.trace_text.proofs.trace_reading.statuses_of.Given as goal

abbrev pub invariant-loop-hart : goal.invariant-loop-hart
invariant-loop-hart l = Numbered status_line_at l.harts l.hart l.statuses.items l.rest (numbered_at status_line_at l.harts 0 l.bytes) × PassedStatuses l.harts l.hart l.statuses.items l.rest l.bytes
