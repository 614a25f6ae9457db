use Rattle.std.proofs.Common.{sym, ◌∙◌}
use Rattle.litmus_parts.proofs.Reading.{onto_err, refuses_onto}
use Rattle.litmus_parts.proofs.Loops.{rows_end, rows_refuse, rows_more, rows_full}
use Rattle.litmus_parts.proofs.columns.rows_at.Goals as goal

pub returns-then-is_end : goal.returns-then-is_end
returns-then-is_end c = rows_end c.args.harts c.loop-taken.items.items 1000 c.loop-taken.taken c.loop-taken.rest.now _ c.loop-taken-test.true (sym c.is_end.ensures ∙ c.if-is_end.true) c.loop-taken.invariant

pub returns-in-Err : goal.returns-in-Err
returns-in-Err c = refuses_onto c.args.items.now.items c.in-Err.stop _ (rows_refuse c.args.harts c.loop-taken.items.items 1000 c.loop-taken.taken c.loop-taken.rest.now c.in-Err.stop _ c.loop-taken-test.true (sym c.is_end.ensures ∙ c.if-is_end.false) c.in-Err.ensures c.loop-taken.invariant)

pub loop-taken-preserved : goal.loop-taken-preserved
loop-taken-preserved c = rows_more c.args.harts c.loop-taken.items.items c.row_at.new.items.items 1000 c.loop-taken.taken c.loop-taken.rest.now c.in-Ok.later.now _ c.loop-taken-test.true (sym c.is_end.ensures ∙ c.if-is_end.false) c.in-Ok.ensures c.loop-taken.invariant

pub returns : goal.returns
returns c = rw c.at.ensures (onto_err c.args.items.now.items _ _ (rows_full c.args.harts c.loop-taken.items.items 1000 c.loop-taken.taken c.loop-taken.rest.now _ c.loop-taken-test.false c.loop-taken.invariant))
