use Rattle.std.proofs.Common.{refl, sym, ◌∙◌, ◌<◌, ◌≡◌, ◌-◌, arith, length}
use Rattle.std.proofs.lemmas.Grind.{common_steps}
use Rattle.std.proofs.lemmas.List.{length-map, length-set}
use Rattle.trace_recorder.proofs.Lists.{items-pushed, pushed_within, room-pushed, room_of}
use Rattle.trace_recorder.proofs.trace.Trace.retire.Goals as goal

pub returns : goal.returns
returns c =
    let h : c.args.hart < length c.self.inside.entries.items = grind (arith, common_steps, length-map) in
    let s : room_of c.push_reserved.new.self ≡ room_of c.index_mut.result.now - 1 = omega arith in
    rw (← c.self.view_is, items-pushed c.self.inside.entries.items c.args.hart c.index_mut.result.now c.push_reserved.new.self c.args.entry h c.index_mut.ensures.value c.push_reserved.ensures.items, room-pushed c.self.inside.entries.items c.args.hart c.index_mut.result.now c.push_reserved.new.self h c.index_mut.ensures.value s) refl

pub invariant_of-self : goal.invariant_of-self
invariant_of-self c =
    let h : c.args.hart < length c.self.inside.entries.items = grind (arith, common_steps, length-map) in
    let few = rw (← c.self.view_is) at c.requires.few in (
      c.self.invariant.0 ∙ sym (length-set c.self.inside.entries.items c.args.hart c.push_reserved.new.self),
      pushed_within c.self.inside.entries.items c.args.hart c.index_mut.result.now c.push_reserved.new.self c.args.entry h c.index_mut.ensures.value c.push_reserved.ensures.items few c.self.invariant.1,
    )
