use Rattle.std.proofs.Common.{◌≡◌, length}
use Rattle.memory_model.specs.Dependencies.{held_at, held_behind}
use Rattle.gate_plain_checker.proofs.dependencies.held_at.Given as goal

abbrev pub invariant-loop-item : goal.invariant-loop-item
invariant-loop-item l = held_at l.items l.a l.b ≡ held_behind l.held l.rest

abbrev pub decreases-loop-item : goal.decreases-loop-item
decreases-loop-item l = length l.rest
