use Rattle.window_model.proofs.following.Paths.{ended_are_followed}
use Rattle.window_model.proofs.laws.ended_are_followed.Goals as goal

pub returns : goal.returns
returns c = ended_are_followed
