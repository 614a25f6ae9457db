use Rattle.std.proofs.Common.{ap, arith, length}
use Rattle.rvwmo_order.proofs.Following.{behind_cut, nothing_behind}
use Rattle.order_text.proofs.relations.Relations.behind_of.Goals as goal

pub returns-then-position-order : goal.returns-then-position-order
returns-then-position-order c = behind_cut c.args.self.now c.order-then-position-order.result.now c.args.store.now c.position_of-position.result c.order-then-position-order.ensures c.position_of-position.ensures

pub returns-else-position-order : goal.returns-else-position-order
returns-else-position-order c = let same = ap length c.order.ensures in nothing_behind c.args.self.now c.args.store.now c.position_of-position.result c.position_of-position.ensures (omega (arith, same))
