use Rattle.std.proofs.Common.{◌≡◌, ◌+◌, ◌-◌, ◌++◌, map}
use Rattle.std.specs.List.{range_with_len}
use Rattle.memory_model.specs.Operations.{addresses_of}
use Rattle.memory_model.specs.Order.{source}
use Rattle.rvwmo_order.proofs.sweeping.find_sources.Given as goal

abbrev pub invariant-loop-x : goal.invariant-loop-x
invariant-loop-x l = map (λ x. source l.ranking l.b x) (addresses_of l.b) ≡ l.sources.items ++ map (λ x. source l.ranking l.b x) (range_with_len l.x (l.b.address + l.b.size - l.x))
