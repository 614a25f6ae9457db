use Rattle.machine_model.proofs.Growth.{happens_follows}
use Rattle.machine_model.proofs.laws.nothing_is_rewritten.Goals as goal

pub returns : goal.returns
returns c = λ s e. (happens_follows s e).grows
