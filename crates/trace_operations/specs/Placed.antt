-- Where a hart's instructions stand, and whose operations they give.
use Rattle.std.specs.Prelude.{◌≡◌, ℕ, ◌+◌, List, [], ◌∷◌, Some, slice_get}
use Rattle.memory_model.specs.declared.operation.Operation.{Operation}
use Rattle.memory_model.specs.Items.{Item}

-- each stands at the place that it names, counted from a number
abbrev pub IsPlaced : ℕ → List Item → Type 0
IsPlaced place [] = Unit {0}
IsPlaced place (m ∷ rest) = (m.place ≡ place) × IsPlaced (place + 1) rest

-- the operation of each, where it has one, is of this hart and bears the place at which the instruction stands
pub record GivesOwn (hart : ℕ) (items : List Item) : Type 0 where
  pub at_place : (k : ℕ) (m : Item) (s : Operation) → slice_get items k ≡ Some m → m.operation ≡ Some s → s.place ≡ k
  pub of_hart : (k : ℕ) (m : Item) (s : Operation) → slice_get items k ≡ Some m → m.operation ≡ Some s → s.hart ≡ hart
