use Rattle.machine_model.proofs.bytes.Always.{load_values_always}
use Rattle.machine_model.proofs.joint_laws.load_values_always.Goals as goal

pub returns : goal.returns
returns c = load_values_always
