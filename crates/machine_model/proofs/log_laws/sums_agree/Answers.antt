use Rattle.machine_model.proofs.log.Sums.{sums_agree}
use Rattle.machine_model.proofs.log_laws.sums_agree.Goals as goal

pub returns : goal.returns
returns c = sums_agree
