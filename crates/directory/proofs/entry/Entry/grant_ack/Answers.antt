use Rattle.directory.proofs.Entries.{line_of-ended}
use Rattle.directory.proofs.entry.Entry.grant_ack.Goals as goal

pub returns-clause-line : goal.returns-clause-line
returns-clause-line c = λ harts. line_of-ended harts c.args.self
