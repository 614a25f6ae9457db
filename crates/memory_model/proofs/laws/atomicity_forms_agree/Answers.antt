use Rattle.memory_model.proofs.Apart.{atomicity_forms_agree}
use Rattle.memory_model.proofs.laws.atomicity_forms_agree.Goals as goal

pub returns : goal.returns
returns c = atomicity_forms_agree
