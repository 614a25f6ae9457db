use Rattle.std.specs.Option.{option_copied}
use Rattle.coherent_log.proofs.Looked.{found_nowhere, found_there}
use Rattle.coherent_log.proofs.followed.broken_by_sending.Goals as goal

pub returns-in-Some : goal.returns-in-Some
returns-in-Some c = found_there (option_copied c.args.image) c.args.entry.now.hart c.args.entry.now.message.line c.args.entry.now.message.body c.args.lines.now c.broken.result
    c.in-Some.line.now c.told.result.clients.now c.told.result.brought c.in-Some.ensures.value c.told.ensures.clients c.told.ensures.brought c.broken.ensures

pub returns-in-None : goal.returns-in-None
returns-in-None c = found_nowhere (option_copied c.args.image) c.args.entry.now.hart c.args.entry.now.message.line c.args.entry.now.message.body c.args.lines.now c.broken-in-None.result
    c.in-None.ensures.value c.broken-in-None.ensures
