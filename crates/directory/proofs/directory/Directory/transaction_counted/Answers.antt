use Rattle.std.proofs.Common.{◌∙◌, ap, sym, arith}
use Rattle.directory.specs.Lines.{Line}
use Rattle.directory.proofs.Entries.{line_of-transaction}
use Rattle.directory.proofs.Slots.{line_at-notes, line-below}
use Rattle.directory.proofs.directory.Directory.transaction_counted.Goals as goal

pub returns-clause-transaction : goal.returns-clause-transaction
returns-clause-transaction g c =
    let xs = c.self.inside.slots.items in
    sym (line_of-transaction c.self.inside.harts c.look.result)
    ∙ ap (λ (l : Line). l.transaction) (sym (line_at-notes c.self.inside.harts xs c.args.self.now c.args.line c.index.result.now c.look.result c.self.view_is c.requires c.index.ensures c.look.ensures.entry))

pub index-requires : goal.index-requires
index-requires g c = omega (arith, line-below c.self.inside.harts c.self.inside.slots.items c.args.self.now c.args.line c.self.view_is c.requires)
