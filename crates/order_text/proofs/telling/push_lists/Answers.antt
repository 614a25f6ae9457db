use Rattle.std.proofs.Common.{◌<◌, arith, length}
use Rattle.order_text.proofs.Told.{all_told, lists_next, lists_none, more_told}
use Rattle.order_text.proofs.telling.push_lists.Goals as goal

pub loop-hart-preserved : goal.loop-hart-preserved
loop-hart-preserved c =
    let t = c.args.trace.now.history in
    let lt : c.loop-hart.hart < length t.entries = omega (arith, c.loop-hart-test.true, c.harts-hart-end.ensures.entries) in
    more_told c.loop-hart.lines.items _ _ _ _ _ (rw c.entries.ensures.list at c.in_ok-push_list.ensures)
    (lists_next c.args.model c.args.harts.now c.args.relations.now c.loop-hart.hart t.entries lt)
    c.loop-hart.invariant

pub returns : goal.returns
returns c =
    let t = c.args.trace.now.history in
    all_told c.loop-hart.lines.items _ _ (lists_none c.args.model c.args.harts.now c.args.relations.now c.loop-hart.hart t.entries (omega (arith, c.loop-hart-test.false, c.harts-hart-end.ensures.entries))) c.loop-hart.invariant
