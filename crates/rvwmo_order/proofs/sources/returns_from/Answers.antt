use Rattle.std.proofs.Common.{◌∙◌}
use Rattle.rvwmo_order.proofs.Bytes.{returned_ranked}
use Rattle.rvwmo_order.proofs.sources.returns_from.Goals as goal

pub returns : goal.returns
returns c = c.is_any_from.ensures ∙ returned_ranked c.args.ranking.now c.args.b.now c.args.a.now c.ranks_of.result c.ranks_of.ensures
