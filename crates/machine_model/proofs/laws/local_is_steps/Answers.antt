use Rattle.machine_model.proofs.runs.Batches.{local_is_steps}
use Rattle.machine_model.proofs.laws.local_is_steps.Goals as goal

pub returns : goal.returns
returns c = local_is_steps
