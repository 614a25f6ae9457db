use Rattle.memory_model.proofs.Forms.{source_forms_agree}
use Rattle.memory_model.proofs.laws.source_forms_agree.Goals as goal

pub returns : goal.returns
returns c = source_forms_agree
