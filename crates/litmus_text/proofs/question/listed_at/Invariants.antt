use Rattle.std.proofs.Common.{◌≡◌, ◌-◌}
use Rattle.std.specs.Prelude.{codes}
use Rattle.litmus_parts.specs.Stops.{onto}
use Rattle.litmus_parts.specs.Scanning.{items_at}
use Rattle.litmus_parts.specs.declared.stop.Cause.TheVariants as causes
use Rattle.litmus_text.specs.Questions.{asked_at}
use Rattle.litmus_text.proofs.question.listed_at.Given as goal

abbrev pub invariant-loop-taken : goal.invariant-loop-taken
invariant-loop-taken l = onto l.places.items (items_at (codes "]") causes.FewPlaces (asked_at l.harts) (400 - l.taken) l.rest) ≡ items_at (codes "]") causes.FewPlaces (asked_at l.harts) 400 l.bytes
