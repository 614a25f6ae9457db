use Rattle.std.proofs.Common.{◌≡◌, ◌∙◌, ℕ, [], ap, arith, length, refl, sym}
use Rattle.std.specs.Prelude.{filter}
use Rattle.std.specs.Option.{option_copied, option_map}
use Rattle.memory_model.specs.declared.operation.Operation.{Operation}
use Rattle.memory_model.specs.Operations.{stores_to}
use Rattle.memory_model.specs.Order.{position_in, source}
use Rattle.trace_operations.specs.Indexed.{stored_from}
use Rattle.trace_operations.proofs.Indexed.{bucket_missing, bucket_there, length-stored_from, source_seen, stores_only}
use Rattle.trace_operations.proofs.index.Index.find.Goals as goal

pub returns-in-Some-clause-source : goal.returns-in-Some-clause-source
returns-in-Some-clause-source g c = λ a e.
    let stores : c.deref-in-Some.result.now ≡ stored_from 0 c.args.x c.self.inside.order.items = c.deref-in-Some.ensures.value ∙ bucket_there _ _ _ _ (c.self.invariant.1 c.args.x) (sym c.get.ensures.value ∙ ap option_copied c.in-Some.is) in
    c.store_of.ensures
    ∙ (ap (option_map (λ (p : ℕ × Operation). p.1)) c.last_seen.ensures.seen
    ∙ (stores_only _
    ∙ (source_seen c.self.inside.order.items a c.args.x c.args.load c.position-position.result c.deref-in-Some.result.now e (c.position-position.ensures a e ∙ ap (λ o. position_in o a) c.deref.ensures.value) stores
    ∙ ap (λ o. source o a c.args.x) c.self.view_is)))

pub returns-in-Some-clause-looks : goal.returns-in-Some-clause-looks
returns-in-Some-clause-looks g c =
    let stores : c.deref-in-Some.result.now ≡ stored_from 0 c.args.x c.self.inside.order.items = c.deref-in-Some.ensures.value ∙ bucket_there _ _ _ _ (c.self.invariant.1 c.args.x) (sym c.get.ensures.value ∙ ap option_copied c.in-Some.is) in
    let count = ap length stores ∙ (length-stored_from 0 c.args.x c.self.inside.order.items ∙ ap (λ o. length (filter (stores_to c.args.x) o)) c.self.view_is) in
    let looks = c.last_seen.ensures.looks in omega (arith, count, looks)

pub returns-in-None-clause-source : goal.returns-in-None-clause-source
returns-in-None-clause-source g c = λ a e.
    source_seen c.self.inside.order.items a c.args.x c.args.load (position_in c.self.inside.order.items a) [] e refl (bucket_missing _ _ _ (c.self.invariant.1 c.args.x) (sym c.get.ensures.value ∙ ap option_copied c.in-None.is))
    ∙ ap (λ o. source o a c.args.x) c.self.view_is
