use Rattle.explore_command.proofs.NeverStops.{passing_is_safe}
use Rattle.explore_command.proofs.laws.passing_is_safe.Goals as goal

pub returns : goal.returns
returns c = passing_is_safe
