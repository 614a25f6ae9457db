use Rattle.std.proofs.Common.{sym}
use Rattle.order_text.proofs.relations.Relations.position_of.Goals as goal

pub returns : goal.returns
returns c = c.position.ensures c.args.a.now (sym c.name_of.ensures)
