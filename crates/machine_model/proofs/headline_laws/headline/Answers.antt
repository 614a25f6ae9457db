use Rattle.machine_model.proofs.atomicity.Always.{headline}
use Rattle.machine_model.proofs.headline_laws.headline.Goals as goal

pub returns : goal.returns
returns c = headline
