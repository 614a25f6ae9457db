use Rattle.machine_model.proofs.order.Whole.{preserved_always}
use Rattle.machine_model.proofs.order_laws.preserved_always.Goals as goal

pub returns : goal.returns
returns c = preserved_always
