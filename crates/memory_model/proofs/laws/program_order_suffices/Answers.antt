use Rattle.memory_model.proofs.Legality.{program_order_suffices}
use Rattle.memory_model.proofs.laws.program_order_suffices.Goals as goal

pub returns : goal.returns
returns c = program_order_suffices
