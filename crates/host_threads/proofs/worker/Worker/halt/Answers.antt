use Rattle.std.proofs.Common.{rules}
use Rattle.host_threads.proofs.worker.Worker.halt.Goals as goal

pub returns-clause-bit : goal.returns-clause-bit
returns-clause-bit g c = search rules
