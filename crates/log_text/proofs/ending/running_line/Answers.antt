use Rattle.log_text.proofs.Running.{running_text}
use Rattle.log_text.proofs.ending.running_line.Goals as goal

pub returns : goal.returns
returns c = running_text c.args.hart c.requires
