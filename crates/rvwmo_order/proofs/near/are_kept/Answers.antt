use Rattle.std.proofs.Common.{◌+◌, ◌-◌, ap, arith, drop, length}
use Rattle.rvwmo_order.specs.Ranks.{IsIn}
use Rattle.rvwmo_order.proofs.Bytes.{Each-drop, Each-get, Each-take}
use Rattle.rvwmo_order.proofs.Unbroken.{none_at, none_in_all, none_up_to_end}
use Rattle.rvwmo_order.proofs.near.are_kept.Goals as goal

pub loop-place-preserved-then-lows-place : goal.loop-place-preserved-then-lows-place
loop-place-preserved-then-lows-place c = none_at c.args.model c.args.harts.now c.args.ranking.now c.order-order.result.now c.args.lows.now c.loop-place.place _ c.order-order.ensures.order c.loop-place-test.true c.requires c.if-lows-place.true c.loop-place.invariant

pub asks_none-requires-clause-each : goal.asks_none-requires-clause-each
asks_none-requires-clause-each c =
    let P = IsIn c.args.ranking.now in
    let order = c.order-order.result.now in
    Each-take P (c.end_of_earlier-end.result - (c.loop-place.place + 1)) (drop (c.loop-place.place + 1) order) (Each-drop P (c.loop-place.place + 1) order (rw c.order-order.ensures.order c.order-order.ensures.each))

pub asks_none-requires-clause-there : goal.asks_none-requires-clause-there
asks_none-requires-clause-there c = Each-get (IsIn c.args.ranking.now) c.order-order.result.now c.loop-place.place _ c.loop-place-test.true (rw c.order-order.ensures.order c.order-order.ensures.each)

pub loop-place-preserved : goal.loop-place-preserved
loop-place-preserved c = none_up_to_end c.args.model c.args.harts.now c.args.ranking.now c.order-order.result.now c.loop-place.place c.end_of_earlier-end.result _ c.order-order.ensures.order c.loop-place-test.true c.end_of_earlier-end.ensures.none (c.in_ok-asks_none.ensures c.if-not-branch.false) c.loop-place.invariant

pub returns : goal.returns
returns c = λ e. none_in_all c.args.model c.args.harts.now c.args.ranking.now c.loop-place.place (let same = ap length c.order-order.ensures.order in omega (arith, same, c.loop-place-test.false)) c.loop-place.invariant
