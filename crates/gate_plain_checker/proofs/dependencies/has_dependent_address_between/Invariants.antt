use Rattle.std.proofs.Common.{◌≡◌, length, true}
use Rattle.memory_model.specs.Dependencies.{any_addresses, between, held_first, uses_at}
use Rattle.memory_model.specs.Operations.{precedes}
use Rattle.gate_plain_checker.proofs.dependencies.has_dependent_address_between.Given as goal

abbrev pub invariant-loop-item : goal.invariant-loop-item
invariant-loop-item l = (precedes l.a l.b ≡ true) × (any_addresses (held_first (uses_at l.items l.a)) (between l.items l.a l.b) ≡ any_addresses l.held l.rest)

abbrev pub decreases-loop-item : goal.decreases-loop-item
decreases-loop-item l = length l.rest
