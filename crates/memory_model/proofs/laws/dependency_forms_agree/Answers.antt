use Rattle.memory_model.proofs.Reaching.{dependency_forms_agree}
use Rattle.memory_model.proofs.laws.dependency_forms_agree.Goals as goal

pub returns : goal.returns
returns c = dependency_forms_agree
