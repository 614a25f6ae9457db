use Rattle.machine_model.proofs.bytes.Always.{coherent_always}
use Rattle.machine_model.proofs.joint_laws.coherent_always.Goals as goal

pub returns : goal.returns
returns c = coherent_always
