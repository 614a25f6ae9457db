use Rattle.std.proofs.Common.{ap, arith, length}
use Rattle.rvwmo_order.proofs.Following.{behind_cut, nothing_behind}
use Rattle.rvwmo_order.proofs.ranking.Ranking.behind.Goals as goal

pub returns-then-position-order : goal.returns-then-position-order
returns-then-position-order c = λ a e. behind_cut c.args.self.now c.order-then-position-order.result.now a c.position-position.result c.order-then-position-order.ensures.order (c.position-position.ensures a e)

pub returns-else-position-order : goal.returns-else-position-order
returns-else-position-order c = λ a e. let same = ap length c.order.ensures.order in nothing_behind c.args.self.now a c.position-position.result (c.position-position.ensures a e) (omega (arith, same))
