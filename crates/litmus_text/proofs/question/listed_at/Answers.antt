use Rattle.std.specs.Prelude.{codes}
use Rattle.litmus_parts.specs.declared.stop.Cause.TheVariants as causes
use Rattle.litmus_parts.proofs.Reading.{onto_none, refuses_is}
use Rattle.litmus_parts.proofs.Loops.{items_end, items_stop, items_more, items_full}
use Rattle.litmus_text.specs.Questions.{asked_at}
use Rattle.litmus_text.proofs.question.listed_at.Goals as goal

pub loop-taken-init : goal.loop-taken-init
loop-taken-init c = rw c.new-places.ensures.items (onto_none _)

pub loop-taken-preserved : goal.loop-taken-preserved
loop-taken-preserved c = rw c.in-Ok-push.ensures.items (items_more (codes "]") causes.FewPlaces (asked_at c.args.harts) c.loop-taken.places.items c.in-Ok.place 400 c.loop-taken.taken c.loop-taken.rest.now c.in-Ok.later.now _ c.loop-taken-test.true c.in-None.ensures c.in-Ok.ensures c.loop-taken.invariant)

pub returns-in-Some : goal.returns-in-Some
returns-in-Some c = items_end (codes "]") causes.FewPlaces (asked_at c.args.harts) c.loop-taken.places.items 400 c.loop-taken.taken c.loop-taken.rest.now c.in-Some.later.now _ c.loop-taken-test.true c.in-Some.ensures c.loop-taken.invariant

pub returns-in-Err : goal.returns-in-Err
returns-in-Err c = refuses_is c.in-Err.stop _ (items_stop (codes "]") causes.FewPlaces (asked_at c.args.harts) c.loop-taken.places.items 400 c.loop-taken.taken c.loop-taken.rest.now c.in-Err.stop _ c.loop-taken-test.true c.in-None.ensures c.in-Err.ensures c.loop-taken.invariant)

pub returns : goal.returns
returns c = rw c.at.ensures (items_full (codes "]") causes.FewPlaces (asked_at c.args.harts) c.loop-taken.places.items 400 c.loop-taken.taken c.loop-taken.rest.now _ c.loop-taken-test.false c.loop-taken.invariant)
