use Rattle.std.proofs.Common.{length, ap}
use Rattle.litmus_parts.proofs.Reading.{onto_err, refuses_ok}
use Rattle.litmus_parts.proofs.Loops.{labels_end, labels_put, labels_full}
use Rattle.litmus_parts.proofs.columns.labels_at.Goals as goal

pub returns-in-None : goal.returns-in-None
returns-in-None c = labels_end c.args.hart c.loop-taken.items.items 16 c.loop-taken.taken c.loop-taken.rest.now _ c.loop-taken-test.true c.in-None.ensures c.loop-taken.invariant

pub returns-in-Err : goal.returns-in-Err
returns-in-Err c = refuses_ok c.in-Err.stop _ _ c.in-Err.ensures

pub loop-taken-preserved : goal.loop-taken-preserved
loop-taken-preserved c = labels_put c.args.hart c.loop-taken.items.items c.put_label.new.items.items _ _ _ 16 c.loop-taken.taken c.loop-taken.rest.now c.in-Ok.later.now _ c.loop-taken-test.true (ap length c.skip_blanks-left.ensures) c.in-Some.ensures c.in-Ok.ensures c.loop-taken.invariant

pub returns : goal.returns
returns c = rw c.at.ensures (onto_err c.args.items.now.items _ _ (labels_full c.args.hart c.loop-taken.items.items 16 c.loop-taken.taken c.loop-taken.rest.now _ c.loop-taken-test.false c.loop-taken.invariant))
