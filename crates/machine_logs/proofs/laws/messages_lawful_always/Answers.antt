use Rattle.machine_logs.proofs.Always.{messages_lawful_always}
use Rattle.machine_logs.proofs.laws.messages_lawful_always.Goals as goal

pub returns : goal.returns
returns c = messages_lawful_always
