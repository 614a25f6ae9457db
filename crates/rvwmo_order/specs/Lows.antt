-- The least places in their harts' lists of the operations that stand no further to the front of an order than another.
use Rattle.std.specs.Prelude.{◌≡◌, ◌≤◌, ℕ, List, Some, length, slice_get, slice_index_or}
use Rattle.memory_model.specs.declared.operation.Operation.{Operation}

-- of each operation, and of those of its hart behind it, none has a lesser place than the number that is kept of it
pub record AreLows (order : List Operation) (lows : List ℕ) : Type 0 where
  pub many : length lows ≡ length order
  pub each : (p k : ℕ) (b a : Operation) → slice_get order p ≡ Some b → slice_get order k ≡ Some a → p ≤ k → a.hart ≡ b.hart → slice_index_or lows p 0 ≤ a.place
