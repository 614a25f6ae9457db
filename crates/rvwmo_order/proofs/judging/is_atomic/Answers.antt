use Rattle.std.proofs.Common.{◌∙◌}
use Rattle.rvwmo_order.proofs.Bytes.{atomic_ranked}
use Rattle.rvwmo_order.proofs.judging.is_atomic.Goals as goal

pub returns : goal.returns
returns c = c.is_atomic_by.ensures ∙ atomic_ranked c.args.ranking.now c.args.r.now c.args.w.now c.ranks_of.result c.ranks_of.ensures
