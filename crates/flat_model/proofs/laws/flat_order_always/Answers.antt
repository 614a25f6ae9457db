use Rattle.flat_model.proofs.Always.{order_always}
use Rattle.flat_model.proofs.laws.flat_order_always.Goals as goal

pub returns : goal.returns
returns c = order_always
