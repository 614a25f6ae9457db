use Rattle.live_registers.proofs.Alike.{left_alike, read_alike}
use Rattle.live_registers.proofs.laws.others_may_be_zero.Goals as goal

pub returns-clause-read : goal.returns-clause-read
returns-clause-read c = read_alike

pub returns-clause-left : goal.returns-clause-left
returns-clause-left c = left_alike
