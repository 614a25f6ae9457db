use Rattle.machine_model.proofs.Growth.{is_counted}
use Rattle.machine_model.proofs.laws.changes_are_counted.Goals as goal

pub returns : goal.returns
returns c = is_counted
