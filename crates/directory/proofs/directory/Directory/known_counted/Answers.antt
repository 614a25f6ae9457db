use Rattle.std.proofs.Common.{◌∙◌, ap, sym, arith}
use Rattle.directory.specs.Lines.{known_at}
use Rattle.directory.proofs.Entries.{known_at-line_of}
use Rattle.directory.proofs.Slots.{line_at-notes, harts-notes, line-below}
use Rattle.directory.proofs.directory.Directory.known_counted.Goals as goal

pub returns-clause-known : goal.returns-clause-known
returns-clause-known g c =
    let xs = c.self.inside.slots.items in
    c.known.ensures
    ∙ sym (known_at-line_of c.self.inside.harts c.look.result c.args.hart (harts-notes c.self.inside.harts xs c.args.self.now c.args.hart c.self.view_is c.requires.hart))
    ∙ ap (λ l. known_at l c.args.hart) (sym (line_at-notes c.self.inside.harts xs c.args.self.now c.args.line c.index.result.now c.look.result c.self.view_is c.requires.line c.index.ensures c.look.ensures.entry))

pub index-requires : goal.index-requires
index-requires g c = omega (arith, line-below c.self.inside.harts c.self.inside.slots.items c.args.self.now c.args.line c.self.view_is c.requires.line)
