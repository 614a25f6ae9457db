use Rattle.machine_model.proofs.atomicity.Always.{atomicity_always}
use Rattle.machine_model.proofs.headline_laws.atomicity_always.Goals as goal

pub returns : goal.returns
returns c = atomicity_always
