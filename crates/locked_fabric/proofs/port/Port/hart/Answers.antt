use Rattle.std.proofs.Common.{rules}
use Rattle.locked_fabric.proofs.port.Port.hart.Goals as goal

pub returns-then-hart-harts-clause-copy : goal.returns-then-hart-harts-clause-copy
returns-then-hart-harts-clause-copy g c = (c.deref.result.now, c.machine.ensures.kept, search rules)

pub returns-clause-copy : goal.returns-clause-copy
returns-clause-copy g c = (c.deref.result.now, c.machine.ensures.kept, search rules)
