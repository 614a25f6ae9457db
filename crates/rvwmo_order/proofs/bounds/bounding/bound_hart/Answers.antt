use Rattle.std.proofs.Common.{◌≡◌, ◌∙◌, List, Some, ap, subst, sym}
use Rattle.std.specs.Prelude.{slice_get}
use Rattle.rvwmo_order.specs.Bounds.{own_weight}
use Rattle.memory_model.specs.Items.{Item}
use Rattle.memory_model.specs.Rules.{items_of}
use Rattle.trace_operations.specs.Placed.{IsPlaced}
use Rattle.rvwmo_order.proofs.Filled.{bound_as, come_further, come_there, placed_there}
use Rattle.rvwmo_order.proofs.bounds.bounding.bound_hart.Goals as goal

pub loop-place-init : goal.loop-place-init
loop-place-init c = record { bound = c.requires.bound; come = c.new-walk.ensures.come _ _ _ }

pub bound_item-own-requires-clause-bound : goal.bound_item-own-requires-clause-bound
bound_item-own-requires-clause-bound c = bound_as c.args.model c.loop-place.walk.model c.args.harts.now c.args.ranking.now c.args.weights.now _ c.loop-place.invariant.come.model_is c.loop-place.invariant.bound

pub bound_item-own-requires-clause-placed : goal.bound_item-own-requires-clause-placed
bound_item-own-requires-clause-placed c = subst (λ (xs : List Item). IsPlaced 0 xs) c.items_of-items.ensures.list c.count-count.ensures.placed

pub bound_item-own-requires-clause-there : goal.bound_item-own-requires-clause-there
bound_item-own-requires-clause-there c =
    let items = items_of c.args.harts.now c.args.hart in
    let placed : IsPlaced 0 items = subst (λ (xs : List Item). IsPlaced 0 xs) c.items_of-items.ensures.list c.count-count.ensures.placed in
    let there : slice_get items c.loop-place.place ≡ Some c.item-item.result = ap (λ (xs : List Item). slice_get xs c.loop-place.place) (sym c.items_of-items.ensures.list) ∙ c.item-item.ensures in
    ap (slice_get items) (placed_there items c.loop-place.place c.item-item.result placed there) ∙ there

pub bound_item-own-requires-clause-come : goal.bound_item-own-requires-clause-come
bound_item-own-requires-clause-come c =
    let items = items_of c.args.harts.now c.args.hart in
    let placed : IsPlaced 0 items = subst (λ (xs : List Item). IsPlaced 0 xs) c.items_of-items.ensures.list c.count-count.ensures.placed in
    let there : slice_get items c.loop-place.place ≡ Some c.item-item.result = ap (λ (xs : List Item). slice_get xs c.loop-place.place) (sym c.items_of-items.ensures.list) ∙ c.item-item.ensures in
    come_there c.args.model c.loop-place.walk.model _ _ _ c.loop-place.place c.item-item.result c.loop-place.walk placed there c.loop-place.invariant.come.model_is c.loop-place.invariant.come

pub loop-place-preserved : goal.loop-place-preserved
loop-place-preserved c =
    let items = items_of c.args.harts.now c.args.hart in
    let there : slice_get items c.loop-place.place ≡ Some c.item-item.result = ap (λ (xs : List Item). slice_get xs c.loop-place.place) (sym c.items_of-items.ensures.list) ∙ c.item-item.ensures in
    record {
      bound = bound_as c.loop-place.walk.model c.args.model c.args.harts.now c.args.ranking.now c.args.weights.now _ (sym c.loop-place.invariant.come.model_is) c.bound_item-own.ensures.bound;
      come = come_further c.args.model (own_weight c.args.weights.now c.args.ranking.now) c.args.ranking.now items c.loop-place.place c.bound_item-own.result.weight c.item-item.result c.loop-place.walk _ c.loop-place.invariant.come there (sym c.bound_item-own.ensures.weight) c.in_ok-pass.ensures.model c.in_ok-pass.ensures.carried c.in_ok-pass.ensures.passed c.in_ok-pass.ensures.touched;
    }
