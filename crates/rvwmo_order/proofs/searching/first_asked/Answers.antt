use Rattle.rvwmo_order.specs.Ranks.{IsIn}
use Rattle.rvwmo_order.proofs.Bytes.{Each-get}
use Rattle.rvwmo_order.proofs.searching.first_asked.Goals as goal

pub is_asked-requires-clause-first : goal.is_asked-requires-clause-first
is_asked-requires-clause-first c = Each-get (IsIn c.args.ranking.now) c.args.among.now c.loop-a.a-index _ c.loop-a-test.true c.requires.each
