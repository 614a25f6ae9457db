use Rattle.std.proofs.Common.{◌≡◌, length}
use Rattle.std.specs.List.{list_any}
use Rattle.memory_model.specs.Dependencies.{between}
use Rattle.memory_model.specs.Rules.{has_store_to}
use Rattle.order_text.proofs.rules.has_store_between.Given as goal

abbrev pub invariant-loop-item : goal.invariant-loop-item
invariant-loop-item l = list_any (λ m. has_store_to l.x m.operation) (between l.items l.a l.b) ≡ list_any (λ m. has_store_to l.x m.operation) l.rest

abbrev pub decreases-loop-item : goal.decreases-loop-item
decreases-loop-item l = length l.rest
