use Rattle.memory_model.proofs.Told.{names_find_operations}
use Rattle.memory_model.proofs.laws.names_find_operations.Goals as goal

pub returns : goal.returns
returns c = names_find_operations
