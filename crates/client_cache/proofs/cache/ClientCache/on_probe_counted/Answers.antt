use Rattle.std.proofs.Common.{sym, ap, ◌∙◌, refl, arith}
use Rattle.std.specs.FinSet.{contains}
use Rattle.client_cache.specs.declared.answers.Probed.{Probed}
use Rattle.client_cache.specs.Array.{copy_in}
use Rattle.client_cache.specs.Held.{answer_of}
use Rattle.client_cache.specs.Cache.{Cache, put}
use Rattle.client_cache.proofs.Calls.{probed_none, probed_held, probed_releasing}
use Rattle.client_cache.proofs.Fields.{copy_at-seen, copy_at-found, rewritten-copy, way-found}
use Rattle.client_cache.proofs.cache.ClientCache.on_probe_counted.Goals as goal

abbrev pair : Probed → Cache → Probed × Cache
pair a x = (a, x)

pub returns-in_default-clause-meaning : goal.returns-in_default-clause-meaning
returns-in_default-clause-meaning g c =
    let released = ap (λ (x : Cache). contains x.releasing c.args.line) (sym c.self.view_is) ∙ sym c.contains.ensures ∙ c.if-contains.false in
    sym (probed_none c.args.self.now c.args.line c.args.cap released (copy_at-seen c.self.inside c.self.invariant c.args.self.now c.self.view_is c.args.line ∙ ap copy_in c.in_default.ensures.missing))

pub returns-in_default-copy-clause-meaning : goal.returns-in_default-copy-clause-meaning
returns-in_default-copy-clause-meaning g c =
    let released = ap (λ (x : Cache). contains x.releasing c.args.line) (sym c.self.view_is) ∙ sym c.contains.ensures ∙ c.if-contains.false in
    sym (probed_none c.args.self.now c.args.line c.args.cap released (copy_at-found c.self.inside c.self.invariant c.args.self.now c.self.view_is c.args.line c.in-Some.way c.in-Some.before c.in-Some.ensures.found ∙ c.in_default-copy.is))

pub invariant_of-self : goal.invariant_of-self
invariant_of-self g c =
    let done = rewritten-copy c.self.inside c.self.invariant c.args.line c.in-Some.way c.in-Some.before c.in-Some.ensures.found c.shrunk.result c.in-Some.before.acquiring refl c.put.new.self c.put.ensures.shape c.put.ensures.slots in
    done.placed

pub returns-clause-meaning : goal.returns-clause-meaning
returns-clause-meaning g c =
    let s = c.self.inside in
    let held = c.in-Some-copy.held in
    let done = rewritten-copy s c.self.invariant c.args.line c.in-Some.way c.in-Some.before c.in-Some.ensures.found c.shrunk.result c.in-Some.before.acquiring refl c.put.new.self c.put.ensures.shape c.put.ensures.slots in
    let released = ap (λ (x : Cache). contains x.releasing c.args.line) (sym c.self.view_is) ∙ sym c.contains.ensures ∙ c.if-contains.false in
    let copy = copy_at-found s c.self.invariant c.args.self.now c.self.view_is c.args.line c.in-Some.way c.in-Some.before c.in-Some.ensures.found in
    rw c.probed.ensures
    (ap (pair (answer_of c.args.cap held))
    (done.seen_as s.releasing
    ∙ ap (λ (x : Cache). record x { copies = put x.copies c.args.line c.shrunk.result }) c.self.view_is
    ∙ (λ i. record c.args.self.now { copies = put c.args.self.now.copies c.args.line (c.shrunk.ensures i) }))
    ∙ sym (probed_held c.args.self.now c.args.line c.args.cap held released (copy ∙ c.in-Some-copy.is)))

pub put-requires : goal.put-requires
put-requires g c = way-found c.self.inside c.self.invariant c.args.line c.in-Some.way c.in-Some.before c.in-Some.ensures.found

pub returns-clause-looks : goal.returns-clause-looks
returns-clause-looks g c = omega (arith, c.find.ensures.looks, ap (λ (x : Cache). x.shape.ways) c.self.view_is)

pub returns-in_default-clause-looks : goal.returns-in_default-clause-looks
returns-in_default-clause-looks g c = omega (arith, c.find.ensures.looks, ap (λ (x : Cache). x.shape.ways) c.self.view_is)

pub returns-in_default-copy-clause-looks : goal.returns-in_default-copy-clause-looks
returns-in_default-copy-clause-looks g c = omega (arith, c.find.ensures.looks, ap (λ (x : Cache). x.shape.ways) c.self.view_is)

pub returns-then-contains-clause-meaning : goal.returns-then-contains-clause-meaning
returns-then-contains-clause-meaning g c =
    let released = ap (λ (x : Cache). contains x.releasing c.args.line) (sym c.self.view_is) ∙ sym c.contains.ensures ∙ c.if-contains.true in
    sym (probed_releasing c.args.self.now c.args.line c.args.cap released)
