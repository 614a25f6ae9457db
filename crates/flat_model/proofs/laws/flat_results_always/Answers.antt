use Rattle.flat_model.proofs.Always.{results_always}
use Rattle.flat_model.proofs.laws.flat_results_always.Goals as goal

pub returns : goal.returns
returns c = results_always
