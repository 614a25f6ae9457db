use Rattle.std.proofs.Common.{sym}
use Rattle.rvwmo_order.proofs.ranking.Ranking.position_of.Goals as goal

pub returns : goal.returns
returns c = c.position.ensures c.args.a.now (sym c.name_of.ensures)
