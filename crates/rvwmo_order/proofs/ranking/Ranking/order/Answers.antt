use Rattle.std.proofs.Common.{List, subst}
use Rattle.memory_model.specs.declared.operation.Operation.{Operation}
use Rattle.rvwmo_order.specs.Ranks.{AreIn}
use Rattle.rvwmo_order.proofs.Bytes.{are_in}
use Rattle.rvwmo_order.proofs.ranking.Ranking.order.Goals as goal

pub returns-clause-each : goal.returns-clause-each
returns-clause-each c = subst (λ (o : List Operation). AreIn o o) c.self.view_is (are_in _ c.self.invariant.1)
