use Rattle.litmus_parts.proofs.Loops.{cells_refuse, cells_more, cells_end}
use Rattle.litmus_parts.proofs.columns.row_at.Goals as goal

pub returns-in-Err : goal.returns-in-Err
returns-in-Err c = cells_refuse c.args.harts c.args.items.now.items c.loop-hart.items.items c.loop-hart.hart c.loop-hart.rest.now c.in-Err.stop _ c.loop-hart-test.true (rw c.end_of.ensures at c.in-Err.ensures) c.loop-hart.invariant

pub loop-hart-preserved : goal.loop-hart-preserved
loop-hart-preserved c = cells_more c.args.harts c.loop-hart.items.items c.cell_at.new.items.items c.loop-hart.hart c.loop-hart.rest.now c.in-Ok.later.now _ c.loop-hart-test.true (rw c.end_of.ensures at c.in-Ok.ensures) c.loop-hart.invariant

pub returns : goal.returns
returns c = cells_end c.args.harts c.loop-hart.items.items c.loop-hart.hart c.loop-hart.rest.now _ c.loop-hart-test.false c.loop-hart.invariant
