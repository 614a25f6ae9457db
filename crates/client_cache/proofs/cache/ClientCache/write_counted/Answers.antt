use Rattle.std.proofs.Common.{◌≡◌, true, Some, None, sym, ap, ◌∙◌, refl, arith}
use Rattle.tl_types.specs.declared.permission.Perm.TheVariants.{Nothing, Trunk as TrunkPerm}
use Rattle.client_cache.specs.declared.held.Held.TheVariants.{Trunk}
use Rattle.client_cache.specs.Held.{perm_of}
use Rattle.client_cache.specs.Array.{copy_in}
use Rattle.client_cache.specs.Cache.{Cache, copy_at, written}
use Rattle.client_cache.proofs.Fields.{copy_at-seen, rewritten-copy, way-found}
use Rattle.client_cache.proofs.cache.ClientCache.write_counted.Goals as goal

pub unreachable-requires : goal.unreachable-requires
unreachable-requires g c =
    let none : copy_at c.args.self.now c.args.line ≡ None = copy_at-seen c.self.inside c.self.invariant c.args.self.now c.self.view_is c.args.line ∙ ap copy_in c.in_default.ensures.missing in
    let bad : Nothing ≡ TrunkPerm = sym (ap perm_of none) ∙ c.requires in
    cc

pub invariant_of-self : goal.invariant_of-self
invariant_of-self g c =
    let done = rewritten-copy c.self.inside c.self.invariant c.args.line c.in-Some.way c.in-Some.place c.in-Some.ensures.found (Some (Trunk true c.args.bytes)) c.in-Some.place.acquiring refl c.put.new.self c.put.ensures.shape c.put.ensures.slots in
    done.placed

pub returns-clause-meaning : goal.returns-clause-meaning
returns-clause-meaning g c =
    let done = rewritten-copy c.self.inside c.self.invariant c.args.line c.in-Some.way c.in-Some.place c.in-Some.ensures.found (Some (Trunk true c.args.bytes)) c.in-Some.place.acquiring refl c.put.new.self c.put.ensures.shape c.put.ensures.slots in
    done.seen_as c.self.inside.releasing ∙ ap (λ (x : Cache). written x c.args.line c.args.bytes) c.self.view_is

pub put-requires : goal.put-requires
put-requires g c = way-found c.self.inside c.self.invariant c.args.line c.in-Some.way c.in-Some.place c.in-Some.ensures.found

pub returns-clause-looks : goal.returns-clause-looks
returns-clause-looks g c = omega (arith, c.find.ensures.looks, ap (λ (x : Cache). x.shape.ways) c.self.view_is)
