use Rattle.flat_model.proofs.Projections.{projection_decides}
use Rattle.flat_model.proofs.laws.projection_decides.Goals as goal

pub returns : goal.returns
returns c = projection_decides
