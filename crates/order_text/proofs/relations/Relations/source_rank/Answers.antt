use Rattle.std.proofs.Common.{◌∙◌, ◌||◌, ℕ, List, sym, subst}
use Rattle.std.specs.Prelude.{nat_lt}
use Rattle.std.proofs.lemmas.Option.{slice_get-get_or}
use Rattle.memory_model.specs.declared.operation.Operation.{Operation}
use Rattle.memory_model.specs.Operations.{precedes}
use Rattle.rvwmo_order.specs.Sourcing.{IsLast}
use Rattle.rvwmo_order.proofs.LastStores.{found_all, found_before, found_here, found_none, source_last}
use Rattle.order_text.proofs.relations.Relations.source_rank.Goals as goal
use Rattle.order_text.proofs.relations.Relations.source_rank.Goals.{then-may_see, else-may_see}

pub loop-place-init : goal.loop-place-init
loop-place-init c = found_none _ c.args.x (λ (j : ℕ) (s : Operation). nat_lt j c.position_of-position.result || precedes s c.args.load.now)

pub loop-place-preserved : goal.loop-place-preserved
loop-place-preserved c =
    let order = c.deref-store-items.result.now in
    let p = c.loop-place.place in
    let seen = λ (j : ℕ) (s : Operation). nat_lt j c.position_of-position.result || precedes s c.args.load.now in
    let there = slice_get-get_or order p _ c.loop-place-test.true in
    elim c.if-may_see.branch [
      | then-may_see w ↦ found_here order c.args.x p c.if-may_see.rank seen _ there (sym c.may_see.ensures ∙ w.if-may_see.true) w.rank-is
      | else-may_see w ↦ found_before order c.args.x p c.loop-place.rank c.if-may_see.rank seen _ there (sym c.may_see.ensures ∙ w.if-may_see.false) w.rank-is c.loop-place.invariant
    ]

pub returns : goal.returns
returns c =
    let order = c.deref-store-items.result.now in
    let seen = λ (j : ℕ) (s : Operation). nat_lt j c.position_of-position.result || precedes s c.args.load.now in
    let same = c.deref-store-items.ensures.value ∙ c.self.view_is in
    let last = found_all order c.args.x c.loop-place.place c.loop-place.rank seen c.loop-place-test.false c.loop-place.invariant in
    source_last c.args.self.now c.args.load.now c.args.x c.position_of-position.result c.loop-place.rank c.position_of-position.ensures (subst (λ (xs : List Operation). IsLast xs c.args.x seen c.loop-place.rank) same last)
