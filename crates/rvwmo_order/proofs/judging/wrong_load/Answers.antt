use Rattle.rvwmo_order.specs.Ranks.{IsIn}
use Rattle.rvwmo_order.proofs.Bytes.{Each-get}
use Rattle.rvwmo_order.proofs.judging.wrong_load.Goals as goal

pub returns_sources-requires : goal.returns_sources-requires
returns_sources-requires c = Each-get (IsIn c.args.ranking.now) c.order-a-items.result.now c.loop-a.a-index _ c.loop-a-test.true (rw c.order-a-items.ensures.order c.order-a-items.ensures.each)
