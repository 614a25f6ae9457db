use Rattle.tl_types.specs.declared.permission.Perm.TheVariants.{Nothing}
use Rattle.directory.proofs.Entries.{line_of-noted}
use Rattle.directory.proofs.entry.Entry.release.Goals as goal

pub returns-clause-line : goal.returns-clause-line
returns-clause-line c = λ harts l few. line_of-noted harts c.args.self c.note.result c.args.hart Nothing c.note.ensures l few
