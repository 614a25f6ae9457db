use Rattle.machine_model.proofs.Growth.{happens_follows}
use Rattle.machine_model.proofs.laws.image_and_config_stay.Goals as goal

pub returns : goal.returns
returns c = λ s e. (happens_follows s e).stays
