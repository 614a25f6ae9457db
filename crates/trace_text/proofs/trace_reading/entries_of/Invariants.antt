use Rattle.std.specs.Prelude.{map}
use Rattle.text_fields.specs.Reading.{numbered_at}
use Rattle.text_fields.proofs.Numbered.{Numbered}
use Rattle.trace_text.specs.TraceSections.{entries_at}
use Rattle.trace_text.proofs.SectionStops.{PassedLists}
use Rattle.trace_text.proofs.trace_reading.entries_of.Given as goal

abbrev pub invariant-loop-hart : goal.invariant-loop-hart
invariant-loop-hart l =
    Numbered entries_at l.harts l.hart (map (λ v. v.items) l.lists.items) l.rest (numbered_at entries_at l.harts 0 l.bytes) × PassedLists l.harts l.hart (map (λ v. v.items) l.lists.items) l.rest l.bytes
