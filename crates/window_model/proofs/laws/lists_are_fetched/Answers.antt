use Rattle.window_model.proofs.following.Lists.{lists_are_fetched}
use Rattle.window_model.proofs.laws.lists_are_fetched.Goals as goal

pub returns : goal.returns
returns c = lists_are_fetched
