use Rattle.std.proofs.Common.{◌≡◌, ℕ, [], ◌++◌, drop}
use Rattle.std.specs.Prelude.{nat_eq}
use Rattle.std.specs.Option.{option_map_or}
use Rattle.std.specs.HashMap as hash
use Rattle.trace_operations.specs.Indexed.{stored_from}
use Rattle.trace_operations.proofs.index.stores_in.Given as goal

-- the stores to a byte are those that the map has and those still to come
abbrev pub invariant-loop-position : goal.invariant-loop-position
invariant-loop-position l = (x : ℕ) → option_map_or (λ v. v.items) (hash.get nat_eq l.stores x) [] ++ stored_from l.position x (drop l.position l.order) ≡ stored_from 0 x l.order
