use Rattle.std.proofs.Common.{ap}
use Rattle.std.specs.FinMap.{FinMap}
use Rattle.std.specs.FinSet.{empty}
use Rattle.std.specs.Ordering.{nat_cmp}
use Rattle.client_cache.specs.declared.held.Held.{Held}
use Rattle.client_cache.specs.declared.shape.Shape.{Shape}
use Rattle.client_cache.specs.Cache.{Cache}
use Rattle.client_cache.proofs.Rooms.{IsPlaced-free, copies_of-free}
use Rattle.client_cache.proofs.cache.ClientCache.new.Goals as goal

abbrev with_copies : Shape → FinMap nat_cmp Held → Cache
with_copies shape copies = record { shape = shape; copies = copies; acquiring = empty; releasing = empty }

pub invariant_of-result : goal.invariant_of-result
invariant_of-result c =
    rw (c.in_ok-new.ensures.shape, c.in_ok-new.ensures.slots, c.new-2.ensures)
    (IsPlaced-free _ c.requires.some_sets c.requires.few_sets c.requires.some_ways c.requires.few_ways)

pub returns : goal.returns
returns c =
    let shape : Shape = record { sets = c.args.sets; ways = c.args.ways; size = c.args.size } in
    rw (c.in_ok-new.ensures.shape, c.in_ok-new.ensures.slots, c.new-2.ensures, c.new-3.ensures)
    (ap (with_copies shape) (copies_of-free shape c.requires.some_sets c.requires.few_sets c.requires.some_ways c.requires.few_ways))
