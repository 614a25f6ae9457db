use Rattle.machine_model.proofs.ready.Always.{ready_always}
use Rattle.machine_model.proofs.ready_laws.ready_always.Goals as goal

pub returns : goal.returns
returns c = ready_always
