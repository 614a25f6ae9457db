use Rattle.std.proofs.Common.{List, ap, arith, length, subst}
use Rattle.memory_model.specs.Items.{Item}
use Rattle.trace_operations.specs.Placed.{IsPlaced}
use Rattle.trace_operations.proofs.Listing.{length-listed, placed_listed}
use Rattle.trace_operations.proofs.listed.Items.count.Goals as goal

pub returns-clause-count : goal.returns-clause-count
returns-clause-count c =
    let long = length-listed 0 c.self.inside.operations.items c.self.inside.slots.items in
    let seen = ap length c.self.view_is in
    omega (arith, long, seen, c.len.ensures, c.self.inside.slots.ok.0)

pub returns-clause-placed : goal.returns-clause-placed
returns-clause-placed c = subst (λ (ms : List Item). IsPlaced 0 ms) c.self.view_is (placed_listed 0 c.self.inside.operations.items c.self.inside.slots.items)
