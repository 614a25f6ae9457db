use Rattle.flat_model.proofs.Always.{shown_always}
use Rattle.flat_model.proofs.laws.shown_always.Goals as goal

pub returns : goal.returns
returns c = shown_always
