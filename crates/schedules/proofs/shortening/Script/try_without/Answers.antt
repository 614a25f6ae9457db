use Rattle.schedules.proofs.Shorter.{whole}
use Rattle.schedules.proofs.shortening.Script.try_without.Goals as goal

pub returns-then-left-events-clause-sublist : goal.returns-then-left-events-clause-sublist
returns-then-left-events-clause-sublist g c = whole c.args.short.now.items

pub returns-in_err-shorter-clause-sublist : goal.returns-in_err-shorter-clause-sublist
returns-in_err-shorter-clause-sublist g c = whole c.args.short.now.items

pub returns-in-None-clause-sublist : goal.returns-in-None-clause-sublist
returns-in-None-clause-sublist g c = whole c.args.short.now.items
