use Rattle.std.proofs.Common.{◌≡◌, Option, sym, ap, ◌∙◌, refl, false, arith}
use Rattle.std.specs.FinSet.{remove}
use Rattle.client_cache.specs.declared.held.Held.{Held}
use Rattle.client_cache.specs.Held.{granted_copy}
use Rattle.client_cache.specs.Cache.{Cache, copy_at, put}
use Rattle.client_cache.proofs.Rooms.{tells_remove}
use Rattle.client_cache.proofs.Fields.{copy_at-found, rewritten-found, way-found}
use Rattle.client_cache.proofs.cache.ClientCache.on_grant_counted.Goals as goal

pub invariant_of-self : goal.invariant_of-self
invariant_of-self g c =
    let s = c.self.inside in
    let done = rewritten-found s c.self.invariant c.args.line c.in-Some.way c.in-Some.place (record { line = c.args.line; copy = c.granted.result; acquiring = false }) c.in-Some.ensures.found refl (remove s.acquiring c.args.line) (tells_remove s.acquiring c.args.line) c.put.new.self c.put.ensures.shape c.put.ensures.slots in
    rw c.remove.ensures done.placed

pub returns-clause-meaning : goal.returns-clause-meaning
returns-clause-meaning g c =
    let s = c.self.inside in
    let done = rewritten-found s c.self.invariant c.args.line c.in-Some.way c.in-Some.place (record { line = c.args.line; copy = c.granted.result; acquiring = false }) c.in-Some.ensures.found refl (remove s.acquiring c.args.line) (tells_remove s.acquiring c.args.line) c.put.new.self c.put.ensures.shape c.put.ensures.slots in
    let before = copy_at-found s c.self.invariant c.args.self.now c.self.view_is c.args.line c.in-Some.way c.in-Some.place c.in-Some.ensures.found in
    let copy : c.granted.result ≡ granted_copy c.args.cap c.args.bytes (copy_at c.args.self.now c.args.line) = c.granted.ensures ∙ ap (granted_copy c.args.cap c.args.bytes) (sym before) in
    rw c.remove.ensures
    (done.seen_as s.releasing
    ∙ ap (λ (x : Cache). record x { copies = put x.copies c.args.line c.granted.result; acquiring = remove x.acquiring c.args.line }) c.self.view_is
    ∙ ap (λ (o : Option Held). record c.args.self.now { copies = put c.args.self.now.copies c.args.line o; acquiring = remove c.args.self.now.acquiring c.args.line }) copy)

pub put-requires : goal.put-requires
put-requires g c = way-found c.self.inside c.self.invariant c.args.line c.in-Some.way c.in-Some.place c.in-Some.ensures.found

pub returns-clause-looks : goal.returns-clause-looks
returns-clause-looks g c = omega (arith, c.find.ensures.looks, ap (λ (x : Cache). x.shape.ways) c.self.view_is)
