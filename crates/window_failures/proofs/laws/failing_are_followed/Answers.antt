use Rattle.window_failures.proofs.Telling.{failing_are_followed}
use Rattle.window_failures.proofs.laws.failing_are_followed.Goals as goal

pub returns : goal.returns
returns c = failing_are_followed
