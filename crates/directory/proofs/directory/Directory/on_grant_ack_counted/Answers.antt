use Rattle.std.proofs.Common.{◌∙◌, ap, sym, arith}
use Rattle.directory.specs.Directory.{with_line}
use Rattle.directory.specs.Lines.{grant_acked}
use Rattle.directory.proofs.Slots.{line_at-notes, notes-set, sound-at, sound-set, line-below}
use Rattle.directory.proofs.directory.Directory.on_grant_ack_counted.Goals as goal

pub returns-clause-meaning : goal.returns-clause-meaning
returns-clause-meaning g c =
    let xs = c.self.inside.slots.items in
    notes-set c.self.inside.harts xs c.args.self.now c.args.line c.new.result c.grant_ack-entry.result c.self.view_is c.new.ensures
    ∙ ap (λ l. with_line c.args.self.now c.args.line l)
    (c.grant_ack-entry.ensures.line c.self.inside.harts
    ∙ ap grant_acked (sym (line_at-notes c.self.inside.harts xs c.args.self.now c.args.line c.index.result.now c.look.result c.self.view_is c.requires c.index.ensures c.look.ensures.entry)))

pub invariant_of-self : goal.invariant_of-self
invariant_of-self g c =
    let n = c.self.inside.harts in
    let xs = c.self.inside.slots.items in
    let d = c.args.self.now in
    let sound = sound-at n xs d c.args.line c.index.result.now c.look.result c.self.view_is c.self.invariant c.requires c.index.ensures c.look.ensures.entry in
    sound-set n xs c.args.line c.new.result c.grant_ack-entry.result c.new.ensures (c.grant_ack-entry.ensures.sound n sound) c.self.invariant

pub index-requires : goal.index-requires
index-requires g c = omega (arith, line-below c.self.inside.harts c.self.inside.slots.items c.args.self.now c.args.line c.self.view_is c.requires)

pub index_mut-requires : goal.index_mut-requires
index_mut-requires g c = omega (arith, line-below c.self.inside.harts c.self.inside.slots.items c.args.self.now c.args.line c.self.view_is c.requires)
