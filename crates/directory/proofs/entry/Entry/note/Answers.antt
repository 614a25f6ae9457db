use Rattle.directory.proofs.Masks.{noted_nothing, noted_branch, noted_trunk}
use Rattle.directory.proofs.entry.Entry.note.Goals as goal

pub returns-in-Nothing : goal.returns-in-Nothing
returns-in-Nothing c = rw (c.in-Nothing.is, c.without.ensures, c.other_than.ensures) (noted_nothing c.args.self c.args.hart c.requires.numbered)

pub returns-in-Branch : goal.returns-in-Branch
returns-in-Branch c = rw (c.in-Branch.is, c.with.ensures, c.other_than-in-Branch.ensures) (noted_branch c.args.self c.args.hart c.requires.numbered)

pub returns-in-Trunk : goal.returns-in-Trunk
returns-in-Trunk c = rw (c.in-Trunk.is, c.without-in-Trunk.ensures) (noted_trunk c.args.self c.args.hart c.requires.numbered (c.requires.alone c.in-Trunk.is))
