use Rattle.machine_model.proofs.ready.Always.{sound_always}
use Rattle.machine_model.proofs.ready_laws.sound_always.Goals as goal

pub returns : goal.returns
returns c = sound_always
