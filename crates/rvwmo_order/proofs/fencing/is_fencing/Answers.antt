use Rattle.std.proofs.Common.{rules}
use Rattle.rvwmo_order.proofs.fencing.is_fencing.Goals as goal

pub returns-then-writes : goal.returns-then-writes
returns-then-writes c = search rules
