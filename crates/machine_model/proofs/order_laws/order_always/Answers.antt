use Rattle.machine_model.proofs.order.Whole.{order_always}
use Rattle.machine_model.proofs.order_laws.order_always.Goals as goal

pub returns : goal.returns
returns c = order_always
