use Rattle.window_model.proofs.Within.{sets_are_within}
use Rattle.window_model.proofs.laws.sets_are_within.Goals as goal

pub returns : goal.returns
returns c = sets_are_within
