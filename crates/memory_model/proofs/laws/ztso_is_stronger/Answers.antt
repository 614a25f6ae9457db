use Rattle.memory_model.proofs.Legality.{ztso_is_stronger}
use Rattle.memory_model.proofs.laws.ztso_is_stronger.Goals as goal

pub returns : goal.returns
returns c = ztso_is_stronger
