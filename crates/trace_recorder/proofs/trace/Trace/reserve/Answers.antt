use Rattle.std.proofs.Common.{refl, length, ◌<◌, arith}
use Rattle.std.proofs.lemmas.Grind.{common_steps}
use Rattle.std.proofs.lemmas.List.{length-map}
use Rattle.trace_recorder.proofs.Lists.{items-reserved, room-reserved}
use Rattle.trace_recorder.proofs.trace.Trace.reserve.Goals as goal

pub returns-in_err-reserve-clause-history : goal.returns-in_err-reserve-clause-history
returns-in_err-reserve-clause-history c =
    rw (items-reserved c.self.inside.entries.items c.args.hart c.index_mut.result.now c.reserve.new.self c.index_mut.ensures.value c.reserve.ensures.items, ← c.self.view_is) refl

pub returns-in_err-reserve-2-clause-history : goal.returns-in_err-reserve-2-clause-history
returns-in_err-reserve-2-clause-history c =
    rw (items-reserved c.self.inside.entries.items c.args.hart c.index_mut.result.now c.reserve.new.self c.index_mut.ensures.value c.reserve.ensures.items, c.reserve-2.ensures.items, ← c.self.view_is) refl

pub returns-in_err-reserve-3-clause-history : goal.returns-in_err-reserve-3-clause-history
returns-in_err-reserve-3-clause-history c =
    rw (items-reserved c.self.inside.entries.items c.args.hart c.index_mut.result.now c.reserve.new.self c.index_mut.ensures.value c.reserve.ensures.items, c.reserve-2.ensures.items, c.reserve-3.ensures.items, ← c.self.view_is) refl

pub returns-clause-history : goal.returns-clause-history
returns-clause-history c =
    rw (items-reserved c.self.inside.entries.items c.args.hart c.index_mut.result.now c.reserve.new.self c.index_mut.ensures.value c.reserve.ensures.items, c.reserve-2.ensures.items, c.reserve-3.ensures.items, ← c.self.view_is) refl

pub returns-clause-entries : goal.returns-clause-entries
returns-clause-entries c =
    let h : c.args.hart < length c.self.inside.entries.items = grind (arith, common_steps, length-map) in
    let e = room-reserved c.self.inside.entries.items c.args.hart c.reserve.new.self h in
    rw e (omega (arith, c.in_ok-reserve.ensures.ok))

pub index_mut-requires : goal.index_mut-requires
index_mut-requires c = grind (arith, common_steps)
