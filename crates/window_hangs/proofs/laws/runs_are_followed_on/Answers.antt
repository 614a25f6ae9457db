use Rattle.window_hangs.proofs.Following.{runs_are_followed_on}
use Rattle.window_hangs.proofs.laws.runs_are_followed_on.Goals as goal

pub returns : goal.returns
returns c = runs_are_followed_on
