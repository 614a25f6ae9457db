use Rattle.flat_model.proofs.WorkedPlays.{worked_plays}
use Rattle.flat_model.proofs.laws.worked_plays.Goals as goal

pub returns : goal.returns
returns c = worked_plays
