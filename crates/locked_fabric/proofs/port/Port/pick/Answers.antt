use Rattle.std.proofs.Common.{rules}
use Rattle.locked_fabric.proofs.port.Port.pick.Goals as goal

pub returns-clause-picks : goal.returns-clause-picks
returns-clause-picks g c = (c.deref.result.now, c.machine.ensures.kept, search rules)
