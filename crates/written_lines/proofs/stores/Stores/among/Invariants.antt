use Rattle.std.proofs.Common.{◌≡◌, ℕ, ◌++◌, drop}
use Rattle.std.specs.Prelude.{filter}
use Rattle.memory_model.specs.Operations.{stores_to}
use Rattle.written_lines.specs.Stores.{stored_in}
use Rattle.written_lines.proofs.stores.Stores.among.Given as goal

-- the stores to a byte are those that the map has and those still to come
abbrev pub invariant-loop-operation : goal.invariant-loop-operation
invariant-loop-operation l = (x : ℕ) → stored_in l.by_byte x ++ filter (stores_to x) (drop l.operation-index l.performed) ≡ filter (stores_to x) l.performed
