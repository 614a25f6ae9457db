use Rattle.machine_logs.proofs.Always.{log_tells_state}
use Rattle.machine_logs.proofs.laws.log_tells_state.Goals as goal

pub returns : goal.returns
returns c = log_tells_state
