use Rattle.directory.proofs.Entries.{line_of-quiet}
use Rattle.directory.proofs.entry.Entry.new.Goals as goal

pub returns-clause-line : goal.returns-clause-line
returns-clause-line c = λ harts. rw (c.new.ensures, c.new-2.ensures) (line_of-quiet harts)
