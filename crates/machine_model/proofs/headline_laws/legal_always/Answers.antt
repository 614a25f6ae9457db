use Rattle.machine_model.proofs.atomicity.Always.{legal_always}
use Rattle.machine_model.proofs.headline_laws.legal_always.Goals as goal

pub returns : goal.returns
returns c = legal_always
