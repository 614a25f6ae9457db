use Rattle.std.proofs.Common.{refl}
use Rattle.explore_command.proofs.Remarked.{untold}
use Rattle.explore_command.proofs.architecture.searching.tell.Goals as goal

-- where memory ends nothing goes out
pub returns-in_default-clause-remarked : goal.returns-in_default-clause-remarked
returns-in_default-clause-remarked g c = untold _ _ _ _ refl
