use Rattle.directory.proofs.Sound.{sound-eight}
use Rattle.directory.specs.Lines.{probe_acked}
use Rattle.directory.specs.Entries.{notes_of_entry}
use Rattle.std.proofs.Common.{ℕ, ◌<◌, ap, subst, arith}
use Rattle.std.specs.Prelude.{IfSome}
use Rattle.directory.specs.Directory.{Notes}
use Rattle.directory.proofs.Slots.{line_at-notes, sound-at, notes-answered, harts-notes, sound-set, line-below}
use Rattle.directory.proofs.directory.Directory.on_probe_ack_counted.Goals as goal

pub returns-clause-meaning : goal.returns-clause-meaning
returns-clause-meaning g c =
    let n = c.self.inside.harts in
    let xs = c.self.inside.slots.items in
    let d = c.args.self.now in
    let at = line_at-notes n xs d c.args.line c.index.result.now c.look.result c.self.view_is c.requires.line c.index.ensures c.look.ensures.entry in
    let sound = sound-at n xs d c.args.line c.index.result.now c.look.result c.self.view_is c.self.invariant c.requires.line c.index.ensures c.look.ensures.entry in
    notes-answered n xs d c.args.line c.new.result c.probe_ack-grant.result.1 c.probe_ack-grant.result.0 (λ l. probe_acked l c.args.hart c.args.change) (notes_of_entry n c.look.result) c.self.view_is c.new.ensures at
    (c.probe_ack-grant.ensures.meaning n (harts-notes n xs d c.args.hart c.self.view_is c.requires.hart) c.self.invariant.few sound)

pub returns-clause-harts : goal.returns-clause-harts
returns-clause-harts g c =
    let xs = c.self.inside.slots.items in
    let d = c.args.self.now in
    let sound = sound-at c.self.inside.harts xs d c.args.line c.index.result.now c.look.result c.self.view_is c.self.invariant c.requires.line c.index.ensures c.look.ensures.entry in
    subst (λ (n : ℕ). IfSome c.probe_ack-grant.result.0 (λ grant. grant.hart < n)) (ap (λ (d : Notes). d.harts) c.self.view_is)
    (c.probe_ack-grant.ensures.harts c.self.inside.harts (harts-notes c.self.inside.harts xs d c.args.hart c.self.view_is c.requires.hart) c.self.invariant.few sound)

pub invariant_of-self : goal.invariant_of-self
invariant_of-self g c =
    let n = c.self.inside.harts in
    let xs = c.self.inside.slots.items in
    let d = c.args.self.now in
    let sound = sound-at n xs d c.args.line c.index.result.now c.look.result c.self.view_is c.self.invariant c.requires.line c.index.ensures c.look.ensures.entry in
    sound-set n xs c.args.line c.new.result c.probe_ack-grant.result.1 c.new.ensures (c.probe_ack-grant.ensures.sound n (harts-notes n xs d c.args.hart c.self.view_is c.requires.hart) c.self.invariant.few sound) c.self.invariant

pub probe_ack-grant-requires-clause-sound : goal.probe_ack-grant-requires-clause-sound
probe_ack-grant-requires-clause-sound g c =
    let n = c.self.inside.harts in
    let xs = c.self.inside.slots.items in
    let d = c.args.self.now in
    let sound = sound-at n xs d c.args.line c.index.result.now c.look.result c.self.view_is c.self.invariant c.requires.line c.index.ensures c.look.ensures.entry in
    sound-eight n c.look.result sound c.self.invariant.few

pub probe_ack-grant-requires-clause-numbered : goal.probe_ack-grant-requires-clause-numbered
probe_ack-grant-requires-clause-numbered g c = let few = c.self.invariant.few in omega (arith, harts-notes c.self.inside.harts c.self.inside.slots.items c.args.self.now c.args.hart c.self.view_is c.requires.hart)

pub index-requires : goal.index-requires
index-requires g c = omega (arith, line-below c.self.inside.harts c.self.inside.slots.items c.args.self.now c.args.line c.self.view_is c.requires.line)

pub index_mut-requires : goal.index_mut-requires
index_mut-requires g c = omega (arith, line-below c.self.inside.harts c.self.inside.slots.items c.args.self.now c.args.line c.self.view_is c.requires.line)
