use Rattle.machine_types.specs.declared.limits.TheConstants.{TRACKERS}
use Rattle.client_cache.specs.Shape.{set_of}
use Rattle.std.proofs.Common.{sym, ap, ◌∙◌, arith, subst, ◌<◌}
use Rattle.std.specs.FinSet.{insert, len}
use Rattle.client_cache.specs.declared.answers.Want.{Want}
use Rattle.client_cache.specs.declared.answers.Want.TheVariants.{Missed}
use Rattle.client_cache.specs.Cache.{Cache}
use Rattle.client_cache.proofs.Fields.{rewritten-room, kept-room, wanted-full, wanted-room}
use Rattle.client_cache.proofs.cache.ClientCache.want_counted.Goals as goal

pub returns-in_default-room_for-clause-meaning : goal.returns-in_default-room_for-clause-meaning
returns-in_default-room_for-clause-meaning g c =
    sym (wanted-full c.self.inside c.self.invariant c.args.self.now c.self.view_is c.args.line c.args.grow c.in_default.ensures.released c.in_default.ensures.granted c.in_default.ensures.tracker c.in_default-room_for.ensures.full)

pub invariant_of-self : goal.invariant_of-self
invariant_of-self g c =
    let done = rewritten-room c.self.inside c.self.invariant c.args.line c.in-Some-room_for.way c.in-Some-room_for.copy c.in-Some-room_for.ensures.room c.put.new.self c.put.ensures.shape c.put.ensures.slots in
    rw c.insert.ensures done.placed

abbrev pair : Want → Cache → Want × Cache
pair a x = (a, x)

pub returns-clause-meaning : goal.returns-clause-meaning
returns-clause-meaning g c =
    let s = c.self.inside in
    let room = c.in-Some-room_for.ensures.room in
    let done = rewritten-room s c.self.invariant c.args.line c.in-Some-room_for.way c.in-Some-room_for.copy room c.put.new.self c.put.ensures.shape c.put.ensures.slots in
    let kept = kept-room s c.self.invariant c.args.line c.in-Some-room_for.way c.in-Some-room_for.copy room in
    rw c.insert.ensures
    (ap (λ (x : Cache). pair (Missed c.args.grow) x)
    (done.seen_as s.releasing
    ∙ (λ i. record { shape = s.array.shape; copies = kept i; acquiring = insert s.acquiring c.args.line; releasing = s.releasing })
    ∙ ap (λ (x : Cache). record x { acquiring = insert x.acquiring c.args.line }) c.self.view_is)
    ∙ sym (wanted-room s c.self.invariant c.args.self.now c.self.view_is c.args.line c.args.grow c.in_default.ensures.released c.in_default.ensures.granted c.in_default.ensures.tracker c.in-Some-room_for.way c.in-Some-room_for.copy room))

pub returns-clause-looks : goal.returns-clause-looks
returns-clause-looks g c = omega (arith, c.room_for.ensures.looks, ap (λ (x : Cache). x.shape.ways) c.self.view_is)

pub returns-in_default-room_for-clause-looks : goal.returns-in_default-room_for-clause-looks
returns-in_default-room_for-clause-looks g c = omega (arith, c.room_for.ensures.looks, ap (λ (x : Cache). x.shape.ways) c.self.view_is)

pub returns-in-Some-clause-meaning : goal.returns-in-Some-clause-meaning
returns-in-Some-clause-meaning g c = sym (c.in-Some.ensures.stalls c.args.grow)

pub room_for-requires : goal.room_for-requires
room_for-requires g c =
    let low = c.self.invariant.sets_low in
    c.self.invariant.rows (set_of c.self.inside.array.shape c.args.line) (omega arith)

pub put-requires : goal.put-requires
put-requires g c = c.in-Some-room_for.ensures.room.within

pub insert-requires : goal.insert-requires
insert-requires g c = subst (λ (x : Cache). len x.acquiring < TRACKERS) (sym c.self.view_is) c.in_default.ensures.tracker
