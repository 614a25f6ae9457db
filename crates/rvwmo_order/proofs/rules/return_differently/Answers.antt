use Rattle.std.proofs.Common.{◌∙◌}
use Rattle.rvwmo_order.proofs.Bytes.{differs_ranked}
use Rattle.rvwmo_order.proofs.rules.return_differently.Goals as goal

pub returns : goal.returns
returns c = c.differ_by.ensures ∙ differs_ranked c.args.ranking.now c.args.items.now c.args.a.now c.args.b.now c.ranks_of-first.result c.ranks_of-second.result c.ranks_of-first.ensures c.ranks_of-second.ensures
