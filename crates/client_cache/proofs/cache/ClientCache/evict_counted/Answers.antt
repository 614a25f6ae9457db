use Rattle.std.proofs.lemmas.Bool.{leb-false}
use Rattle.std.proofs.Common.{None, sym, ap, ◌∙◌, false, nat_le, arith}
use Rattle.std.specs.FinSet.{insert, len}
use Rattle.machine_types.specs.declared.limits.TheConstants.{TRACKERS}
use Rattle.client_cache.specs.declared.answers.Evict.{Evict}
use Rattle.client_cache.specs.Array.{copy_in}
use Rattle.client_cache.specs.Held.{eviction_of}
use Rattle.client_cache.specs.Cache.{Cache, put}
use Rattle.client_cache.proofs.Calls.{evicted_none, evicted_pending, evicted_full, evicted_held}
use Rattle.client_cache.proofs.Fields.{copy_at-seen, copy_at-found, acquiring-found, rewritten-copy, way-found}
use Rattle.client_cache.proofs.cache.ClientCache.evict_counted.Goals as goal

abbrev pair : Evict → Cache → Evict × Cache
pair a x = (a, x)

pub returns-in_default-clause-meaning : goal.returns-in_default-clause-meaning
returns-in_default-clause-meaning g c =
    sym (evicted_none c.args.self.now c.args.line (copy_at-seen c.self.inside c.self.invariant c.args.self.now c.self.view_is c.args.line ∙ ap copy_in c.in_default.ensures.missing))

pub returns-in_default-copy-clause-meaning : goal.returns-in_default-copy-clause-meaning
returns-in_default-copy-clause-meaning g c =
    sym (evicted_none c.args.self.now c.args.line (copy_at-found c.self.inside c.self.invariant c.args.self.now c.self.view_is c.args.line c.in-Some.way c.in-Some.place c.in-Some.ensures.found ∙ c.in_default-copy.is))

pub returns-then-place-clause-meaning : goal.returns-then-place-clause-meaning
returns-then-place-clause-meaning g c =
    let copy = copy_at-found c.self.inside c.self.invariant c.args.self.now c.self.view_is c.args.line c.in-Some.way c.in-Some.place c.in-Some.ensures.found in
    let mark = acquiring-found c.self.inside c.self.invariant c.args.self.now c.self.view_is c.args.line c.in-Some.way c.in-Some.place c.in-Some.ensures.found in
    sym (evicted_pending c.args.self.now c.args.line c.in-Some-copy.held (copy ∙ c.in-Some-copy.is) (mark ∙ c.if-place.true))

pub returns-then-is_full-clause-meaning : goal.returns-then-is_full-clause-meaning
returns-then-is_full-clause-meaning g c =
    let copy = copy_at-found c.self.inside c.self.invariant c.args.self.now c.self.view_is c.args.line c.in-Some.way c.in-Some.place c.in-Some.ensures.found in
    let mark = acquiring-found c.self.inside c.self.invariant c.args.self.now c.self.view_is c.args.line c.in-Some.way c.in-Some.place c.in-Some.ensures.found in
    let full = ap (λ (x : Cache). nat_le TRACKERS (len x.releasing)) (sym c.self.view_is) ∙ sym c.is_full.ensures.full ∙ c.if-is_full.true in
    sym (evicted_full c.args.self.now c.args.line c.in-Some-copy.held (copy ∙ c.in-Some-copy.is) (mark ∙ c.if-place.false) full)

pub invariant_of-self : goal.invariant_of-self
invariant_of-self g c =
    let done = rewritten-copy c.self.inside c.self.invariant c.args.line c.in-Some.way c.in-Some.place c.in-Some.ensures.found None false c.if-place.false c.put.new.self c.put.ensures.shape c.put.ensures.slots in
    done.placed

pub returns-clause-meaning : goal.returns-clause-meaning
returns-clause-meaning g c =
    let s = c.self.inside in
    let held = c.in-Some-copy.held in
    let done = rewritten-copy s c.self.invariant c.args.line c.in-Some.way c.in-Some.place c.in-Some.ensures.found None false c.if-place.false c.put.new.self c.put.ensures.shape c.put.ensures.slots in
    let copy = copy_at-found s c.self.invariant c.args.self.now c.self.view_is c.args.line c.in-Some.way c.in-Some.place c.in-Some.ensures.found in
    let mark = acquiring-found s c.self.invariant c.args.self.now c.self.view_is c.args.line c.in-Some.way c.in-Some.place c.in-Some.ensures.found in
    let room = ap (λ (x : Cache). nat_le TRACKERS (len x.releasing)) (sym c.self.view_is) ∙ sym c.is_full.ensures.full ∙ c.if-is_full.false in
    rw (c.insert.ensures, c.evicted.ensures)
    (ap (pair (eviction_of held))
    (done.seen_as (insert s.releasing c.args.line)
    ∙ ap (λ (x : Cache). record x { copies = put x.copies c.args.line None; releasing = insert x.releasing c.args.line }) c.self.view_is)
    ∙ sym (evicted_held c.args.self.now c.args.line held (copy ∙ c.in-Some-copy.is) (mark ∙ c.if-place.false) room))

pub put-requires : goal.put-requires
put-requires g c = way-found c.self.inside c.self.invariant c.args.line c.in-Some.way c.in-Some.place c.in-Some.ensures.found

pub returns-clause-looks : goal.returns-clause-looks
returns-clause-looks g c = omega (arith, c.find.ensures.looks, ap (λ (x : Cache). x.shape.ways) c.self.view_is)

pub returns-in_default-clause-looks : goal.returns-in_default-clause-looks
returns-in_default-clause-looks g c = omega (arith, c.find.ensures.looks, ap (λ (x : Cache). x.shape.ways) c.self.view_is)

pub returns-in_default-copy-clause-looks : goal.returns-in_default-copy-clause-looks
returns-in_default-copy-clause-looks g c = omega (arith, c.find.ensures.looks, ap (λ (x : Cache). x.shape.ways) c.self.view_is)

pub returns-then-place-clause-looks : goal.returns-then-place-clause-looks
returns-then-place-clause-looks g c = omega (arith, c.find.ensures.looks, ap (λ (x : Cache). x.shape.ways) c.self.view_is)

pub returns-then-is_full-clause-looks : goal.returns-then-is_full-clause-looks
returns-then-is_full-clause-looks g c = omega (arith, c.find.ensures.looks, ap (λ (x : Cache). x.shape.ways) c.self.view_is)

pub insert-requires : goal.insert-requires
insert-requires g c = leb-false TRACKERS (len c.self.inside.releasing) (sym c.is_full.ensures.full ∙ c.if-is_full.false)
