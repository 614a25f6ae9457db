use Rattle.machine_model.proofs.runs.Stopping.{stops_change_status_alone}
use Rattle.machine_model.proofs.laws.stops_change_status_alone.Goals as goal

pub returns : goal.returns
returns c = stops_change_status_alone
