use Rattle.std.proofs.Common.{◌≡◌, ℕ, ◌+◌, ◌-◌, length}
use Rattle.trace_operations.specs.Indexed.{number_in}
use Rattle.trace_operations.proofs.places.Places.reach.Given as goal

abbrev pub invariant-loop-alloc : goal.invariant-loop-alloc
invariant-loop-alloc l = (h place : ℕ) → number_in h place l.self ≡ number_in h place l.fn.self

abbrev pub decreases-loop-alloc : goal.decreases-loop-alloc
decreases-loop-alloc l = l.hart + 1 - length l.self.lists.items
