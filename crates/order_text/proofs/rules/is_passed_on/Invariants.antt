use Rattle.std.proofs.Common.{◌≡◌, length}
use Rattle.std.specs.List.{list_any}
use Rattle.memory_model.specs.Dependencies.{between}
use Rattle.memory_model.specs.Rules.{passes_on}
use Rattle.order_text.proofs.rules.is_passed_on.Given as goal

abbrev pub invariant-loop-item : goal.invariant-loop-item
invariant-loop-item l =
    list_any (λ m. passes_on l.items l.relations l.a l.b m.operation) (between l.items l.a l.b) ≡ list_any (λ m. passes_on l.items l.relations l.a l.b m.operation) l.rest

abbrev pub decreases-loop-item : goal.decreases-loop-item
decreases-loop-item l = length l.rest
