use Rattle.std.proofs.Common.{◌∙◌, List, ap, arith, sym}
use Rattle.std.specs.Prelude.{slice_get}
use Rattle.std.proofs.lemmas.Option.{slice_get-get_or}
use Rattle.memory_model.specs.declared.operation.Operation.{Operation}
use Rattle.memory_model.specs.Rules.{asked_by}
use Rattle.rvwmo_order.specs.Rules.{rule_of}
use Rattle.rvwmo_order.proofs.Clear.{beyond_bound, clear_there, found_there}
use Rattle.rvwmo_order.proofs.searching.first_broken_by.Goals as goal

pub loop-place-preserved-then-bound-place : goal.loop-place-preserved-then-bound-place
loop-place-preserved-then-bound-place c = c.loop-place.invariant ∙ clear_there c.args.model c.args.harts.now c.args.ranking.now c.args.rows.now c.args.rule c.loop-place.place c.requires.distinct c.requires.ranked (omega (arith, c.bound_at-bound.ensures, c.if-bound-place.true))

pub first_behind-requires-clause-there : goal.first_behind-requires-clause-there
first_behind-requires-clause-there c = ap (λ (xs : List Operation). slice_get xs c.loop-place.place) (sym c.order-order.ensures.order) ∙ slice_get-get_or c.order-order.result.now c.loop-place.place _ c.loop-place-test.true

pub first_behind-requires-clause-bounded : goal.first_behind-requires-clause-bounded
first_behind-requires-clause-bounded c = λ k a l e.
    let there = ap (λ (xs : List Operation). slice_get xs c.loop-place.place) (sym c.order-order.ensures.order) ∙ slice_get-get_or c.order-order.result.now c.loop-place.place _ c.loop-place-test.true in
    beyond_bound c.args.model c.args.harts.now c.args.ranking.now c.args.rows.now c.args.rule c.loop-place.place k _ a c.requires.distinct c.requires.ranked there (omega (arith, c.bound_at-bound.ensures, l)) e

pub returns-in-Some : goal.returns-in-Some
returns-in-Some c = found_there (asked_by c.args.model c.args.harts.now c.args.ranking.now (rule_of c.args.rule)) c.args.ranking.now c.order-order.result.now c.loop-place.place c.in-Some.a _ c.order-order.ensures.order c.loop-place-test.true (sym c.in-Some.is ∙ c.in_ok-a.ensures) c.loop-place.invariant
