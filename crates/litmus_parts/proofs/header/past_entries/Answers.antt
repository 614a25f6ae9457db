use Rattle.std.proofs.Common.{◌∙◌, ap, Err}
use Rattle.litmus_parts.specs.declared.stop.Stop.{Stop}
use Rattle.litmus_parts.proofs.Loops.{entries_end, entries_stop, entries_more, entries_full}
use Rattle.litmus_parts.proofs.header.past_entries.Goals as goal

pub returns-in-Some : goal.returns-in-Some
returns-in-Some c = entries_end 1000 c.loop-taken.taken c.loop-taken.rest.now c.in-Some.later.now _ c.loop-taken-test.true c.in-Some.ensures c.loop-taken.invariant

pub returns-in-Err : goal.returns-in-Err
returns-in-Err c = entries_stop 1000 c.loop-taken.taken c.loop-taken.rest.now c.in-Err.stop _ c.loop-taken-test.true c.in-None.ensures c.in-Err.ensures c.loop-taken.invariant

pub loop-taken-preserved : goal.loop-taken-preserved
loop-taken-preserved c = entries_more 1000 c.loop-taken.taken c.loop-taken.rest.now c.in-Ok.later.now _ c.loop-taken-test.true c.in-None.ensures c.in-Ok.ensures c.loop-taken.invariant

pub returns : goal.returns
returns c = ap (λ (s : Stop). Err s) c.at.ensures ∙ entries_full 1000 c.loop-taken.taken c.loop-taken.rest.now _ c.loop-taken-test.false c.loop-taken.invariant
