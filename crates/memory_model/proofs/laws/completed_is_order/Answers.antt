use Rattle.memory_model.proofs.Named.{completed_is_order}
use Rattle.memory_model.proofs.laws.completed_is_order.Goals as goal

pub returns : goal.returns
returns c = completed_is_order
