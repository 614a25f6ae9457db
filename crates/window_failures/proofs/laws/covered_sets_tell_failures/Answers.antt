use Rattle.window_failures.proofs.Telling.{covered_sets_tell_failures}
use Rattle.window_failures.proofs.laws.covered_sets_tell_failures.Goals as goal

pub returns : goal.returns
returns c = covered_sets_tell_failures
