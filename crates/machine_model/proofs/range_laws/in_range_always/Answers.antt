use Rattle.machine_model.proofs.ranges.Log.{in_range_always}
use Rattle.machine_model.proofs.range_laws.in_range_always.Goals as goal

pub returns : goal.returns
returns c = in_range_always
