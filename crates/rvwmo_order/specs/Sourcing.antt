-- The last stores to bytes, as walks along an order and along a hart's list find them: each by its rank in the order.
use Rattle.std.specs.Prelude.{◌≡◌, ◌<◌, ◌-◌, ◌+◌, ◌/◌, ◌%◌, ◌==◌, ◌&&◌, ◌||◌, if◌then◌else◌, max, ℕ, Bool, true, false, List, [], Some, length, nat_eq, nat_lt, slice_get, slice_index_or, unwrap_or}
use Rattle.std.specs.HashMap as hash
use Rattle.std.specs.HashMap.{HashMap}
use Rattle.memory_model.specs.declared.operation.Operation.{Operation}
use Rattle.memory_model.specs.Operations.{precedes, stores_to}

-- the rank that is kept of a byte in a map of words
abbrev pub latest_at : {S : Type 0} → HashMap ℕ (List ℕ) S → ℕ → ℕ
latest_at words x = slice_index_or (unwrap_or (hash.get nat_eq words (x / 4)) []) (x % 4) 0

-- at a place of an order stands a store to x that a test lets pass
pub record Stands (order : List Operation) (x : ℕ) (test : ℕ → Operation → Bool) (j : ℕ) : Type 0 where
  pub store : Operation
  pub there : slice_get order j ≡ Some store
  pub stores : stores_to x store ≡ true
  pub passes : test j store ≡ true

-- the rank is that of the last of these stores, 0 where there is none
pub record IsLast (order : List Operation) (x : ℕ) (test : ℕ → Operation → Bool) (rank : ℕ) : Type 0 where
  pub there : 0 < rank → Stands order x test (rank - 1)
  pub last : (j : ℕ) → Stands order x test j → j < rank

-- those that precede an operation in program order, if it has come
abbrev pub is_known : (Operation → Bool) → Operation → ℕ → Operation → Bool
is_known come a j s = come a && precedes s a

-- of each operation and each of its first bytes the rank is that of the last such store
pub record GivesOwn (order : List Operation) (own : List (List ℕ)) (come : Operation → Bool) : Type 0 where
  pub many : length own ≡ length order
  pub each : (p i : ℕ) (a : Operation) (ranks : List ℕ) → slice_get order p ≡ Some a → slice_get own p ≡ Some ranks → i < 4 → i < a.size → IsLast order (a.address + i) (is_known come a) (slice_index_or ranks i 0)

abbrev pub all_come : Operation → Bool
all_come a = true

-- it is of a hart before this, or of this one and stands before a place of its list
abbrev pub is_come : ℕ → ℕ → Operation → Bool
is_come hart place a = nat_lt a.hart hart || (a.hart == hart && nat_lt a.place place)

-- it is of this hart and stands before a place of its list
abbrev pub is_own_before : ℕ → ℕ → ℕ → Operation → Bool
is_own_before hart place j a = a.hart == hart && nat_lt a.place place

-- an operation of this hart, and place, stands at a place of the order
pub record StandsAt (order : List Operation) (hart place j : ℕ) : Type 0 where
  pub op : Operation
  pub there : slice_get order j ≡ Some op
  pub of_hart : op.hart ≡ hart
  pub of_place : op.place ≡ place

-- by place, the ranks of a hart's operations; 0 where there is none
pub record AreNumbers (order : List Operation) (hart : ℕ) (list : List ℕ) : Type 0 where
  pub there : (place : ℕ) → 0 < slice_index_or list place 0 → StandsAt order hart place (slice_index_or list place 0 - 1)
  pub each : (j : ℕ) (a : Operation) → slice_get order j ≡ Some a → a.hart ≡ hart → slice_index_or list a.place 0 ≡ j + 1

-- the stores of this rank have raised what is kept of their bytes
abbrev pub raised : ℕ → ℕ → Operation → ℕ → ℕ
raised rank x a before = if stores_to x a then max before rank else before

-- of the operation of a rank what was kept of its bytes is noted, and its bytes are then raised to the rank
pub record IsNoted {S T : Type 0} (order : List Operation) (before : HashMap ℕ (List ℕ) S) (behind : HashMap ℕ (List ℕ) T) (old new : List (List ℕ)) (rank : ℕ) : Type 0 where
  pub many : length new ≡ length old
  pub kept : (a : Operation) → slice_get order (rank - 1) ≡ Some a → (x : ℕ) → latest_at behind x ≡ raised rank x a (latest_at before x)
  pub own : (a : Operation) (now : List ℕ) (i : ℕ) → slice_get order (rank - 1) ≡ Some a → slice_get new (rank - 1) ≡ Some now → i < 4 → i < a.size → slice_index_or now i 0 ≡ latest_at before (a.address + i)
  pub others : (p : ℕ) → (p ≡ rank - 1 → ⊥) → slice_get new p ≡ slice_get old p
