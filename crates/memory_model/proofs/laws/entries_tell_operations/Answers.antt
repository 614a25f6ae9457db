use Rattle.memory_model.proofs.Told.{entries_tell_operations}
use Rattle.memory_model.proofs.laws.entries_tell_operations.Goals as goal

pub returns : goal.returns
returns c = entries_tell_operations
