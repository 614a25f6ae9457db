use Rattle.machine_model.proofs.runs.Runs.{runs_always}
use Rattle.machine_model.proofs.laws.runs_always.Goals as goal

pub returns : goal.returns
returns c = runs_always
