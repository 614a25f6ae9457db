use Rattle.directory.proofs.Entries.{line_of-acknowledged}
use Rattle.directory.proofs.Sound.{sound-acknowledged}
use Rattle.directory.proofs.entry.Entry.acknowledge.Goals as goal

pub returns-clause-line : goal.returns-clause-line
returns-clause-line c = λ harts l few. line_of-acknowledged harts c.args.self c.note-noted.result c.args.hart c.args.change c.without.result (rw c.left.ensures at c.note-noted.ensures) c.without.ensures l few

pub returns-clause-sound : goal.returns-clause-sound
returns-clause-sound c = λ harts l few sound. sound-acknowledged harts c.args.self c.note-noted.result c.args.hart c.args.change c.without.result (rw c.left.ensures at c.note-noted.ensures) c.without.ensures c.requires.shrinks l few sound
