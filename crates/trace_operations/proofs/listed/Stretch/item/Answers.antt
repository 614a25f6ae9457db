use Rattle.std.proofs.Common.{ap, arith, length}
use Rattle.std.proofs.lemmas.Option.{slice_get-get_or}
use Rattle.trace_operations.proofs.Listing.{kept_there, length-listed}
use Rattle.trace_operations.proofs.listed.Stretch.item.Goals as goal

pub overflow_cast-index : goal.overflow_cast-index
overflow_cast-index c =
    let long = length-listed c.self.inside.first c.self.inside.operations.now c.self.inside.slots.now in
    let seen = ap length c.self.view_is in
    omega (arith, long, seen, c.requires, c.self.invariant)

pub overflow_add-self-inside : goal.overflow_add-self-inside
overflow_add-self-inside c =
    let long = length-listed c.self.inside.first c.self.inside.operations.now c.self.inside.slots.now in
    let seen = ap length c.self.view_is in
    omega (arith, long, seen, c.requires, c.self.invariant)

pub offset_bounds-self-inside-index : goal.offset_bounds-self-inside-index
offset_bounds-self-inside-index c =
    let long = length-listed c.self.inside.first c.self.inside.operations.now c.self.inside.slots.now in
    let seen = ap length c.self.view_is in
    omega (arith, long, seen, c.requires, c.self.invariant)

pub bounds-self-inside-index : goal.bounds-self-inside-index
bounds-self-inside-index c =
    let long = length-listed c.self.inside.first c.self.inside.operations.now c.self.inside.slots.now in
    let seen = ap length c.self.view_is in
    omega (arith, long, seen, c.requires)

pub returns : goal.returns
returns c =
    let long = length-listed c.self.inside.first c.self.inside.operations.now c.self.inside.slots.now in
    let seen = ap length c.self.view_is in
    kept_there c.self.inside.first c.args.index c.self.inside.operations.now c.self.inside.slots.now _ c.args.self.now c.item_of.result c.self.view_is (slice_get-get_or c.self.inside.slots.now c.args.index _ (omega (arith, long, seen, c.requires))) c.item_of.ensures
