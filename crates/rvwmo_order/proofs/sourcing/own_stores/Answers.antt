use Rattle.std.proofs.Common.{◌≡◌, ◌+◌, ◌∙◌, ℕ, List, Some, ap, arith, length, replicate, subst, sym}
use Rattle.std.specs.Prelude.{slice_get, slice_index_or}
use Rattle.std.proofs.lemmas.List.{length-replicate, take_at}
use Rattle.trace_operations.specs.Indexed.{number_in, number_at}
use Rattle.rvwmo_order.specs.Sourcing.{GivesOwn, is_come}
use Rattle.rvwmo_order.proofs.LastStores.{nothing_yet, number_placed, numbers_of, own_found}
use Rattle.rvwmo_order.proofs.Kept.{zeros_only}
use Rattle.trace_operations.proofs.Tables.{hart_listed, number_listed}
use Rattle.rvwmo_order.proofs.sourcing.own_stores.Goals as goal

pub loop-hart-init : goal.loop-hart-init
loop-hart-init c = nothing_yet c.args.order.now c.in_ok-own.own.items (ap length c.in_ok-own.ensures ∙ length-replicate (length c.args.order.now) (replicate 4 0)) (zeros_only c.in_ok-own.own.items (length c.args.order.now) c.in_ok-own.ensures)

pub note_hart-requires-clause-numbers : goal.note_hart-requires-clause-numbers
note_hart-requires-clause-numbers c =
    let lists = c.lists-lists.result.now in
    numbers_of c.args.order.now (λ (h p : ℕ). number_in h p c.args.places.now) c.loop-hart.hart c.as_slice.result.now c.requires.distinct c.requires.placed
    (λ place. ap (λ (ns : List ℕ). slice_index_or ns place 0) c.as_slice.ensures ∙ (number_listed lists c.loop-hart.hart place c.index-lists-hart.result c.loop-hart-test.true c.index-lists-hart.is ∙ ap (number_at c.loop-hart.hart place) c.lists-lists.ensures))

pub note_hart-requires-clause-before : goal.note_hart-requires-clause-before
note_hart-requires-clause-before c = subst (λ (own : List (List ℕ)). GivesOwn c.args.order.now own (is_come c.loop-hart.hart 0)) (sym c.deref_mut.ensures.value) c.loop-hart.invariant

pub loop-hart-preserved : goal.loop-hart-preserved
loop-hart-preserved c =
    subst (λ (own : List (List ℕ)). GivesOwn c.args.order.now own (is_come (c.loop-hart.hart + 1) 0))
    (sym (take_at c.note_hart.new.own _ c.loop-hart.own.len (c.note_hart.auto.own ∙ (ap length c.deref_mut.ensures.value ∙ sym c.loop-hart.own.ok.0)))) c.in_ok-note_hart.ensures

pub returns : goal.returns
returns c = own_found c.args.order.now c.loop-hart.own.items c.loop-hart.hart c.loop-hart.invariant (λ j a e.
    let placed = number_placed c.args.order.now j (number_in a.hart a.place c.args.places.now) a c.requires.distinct e (c.requires.placed a) in
    let long = ap length c.lists-lists.ensures in
    let inside = hart_listed c.args.places.now.lists.items a.hart a.place (omega (arith, placed)) in
    omega (arith, inside, long, c.loop-hart-test.false))
