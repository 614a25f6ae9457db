use Rattle.machine_model.proofs.log.manager.Always.{log_lawful_always}
use Rattle.machine_model.proofs.log_laws.log_lawful_always.Goals as goal

pub returns : goal.returns
returns c = log_lawful_always
