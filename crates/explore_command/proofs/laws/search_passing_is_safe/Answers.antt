use Rattle.explore_command.proofs.NeverStops.{search_passing_is_safe}
use Rattle.explore_command.proofs.laws.search_passing_is_safe.Goals as goal

pub returns : goal.returns
returns c = search_passing_is_safe
