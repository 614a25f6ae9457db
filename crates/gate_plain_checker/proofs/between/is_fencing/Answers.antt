use Rattle.std.proofs.Common.{rules}
use Rattle.gate_plain_checker.proofs.between.is_fencing.Goals as goal

pub returns-then-writes : goal.returns-then-writes
returns-then-writes c = search rules
