use Rattle.memory_model.proofs.Forms.{order_forms_agree}
use Rattle.memory_model.proofs.laws.order_forms_agree.Goals as goal

pub returns : goal.returns
returns c = order_forms_agree
