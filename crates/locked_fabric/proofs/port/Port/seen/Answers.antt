use Rattle.std.proofs.Common.{rules}
use Rattle.locked_fabric.proofs.port.Port.seen.Goals as goal

pub returns-clause-seen : goal.returns-clause-seen
returns-clause-seen g c = (c.deref.result.now, c.machine.ensures.kept, search rules)
