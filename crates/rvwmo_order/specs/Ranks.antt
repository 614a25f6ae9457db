-- Ranks in an order without doubles: one more than a place, and 0 where there is no operation.
use Rattle.std.specs.Prelude.{◌≡◌, ◌≤◌, ◌<◌, ◌-◌, ℕ, ◌+◌, true, slice_get, slice_index_or, ◌==◌, if◌then◌else◌, List, [], ◌∷◌, Option, Some, None, false, length}
use Rattle.std.specs.List.{AllByRecursion}
use Rattle.memory_model.specs.declared.operation.Operation.{Operation}
use Rattle.memory_model.specs.Operations.{reads, same}
use Rattle.memory_model.specs.Order.{position_in, source}

-- no operation is there twice
abbrev pub AreDistinctOperations : List Operation → Type 0
AreDistinctOperations [] = Unit {0}
AreDistinctOperations (a ∷ rest) = AllByRecursion (λ (b : Operation). same a b ≡ false) rest × AreDistinctOperations rest

abbrev pub ranked : List Operation → ℕ → Option Operation
ranked order rank = if rank == 0 then None else slice_get order (rank - 1)

abbrev pub rank_of : List Operation → Option Operation → ℕ
rank_of order None = 0
rank_of order (Some a) = position_in order a + 1

-- an operation, where there is one, stands at the place that the rank names
pub record HasRank (order : List Operation) (o : Option Operation) (rank : ℕ) : Type 0 where
  pub within : rank ≤ length order
  pub there : ranked order rank ≡ o

-- an order has an operation, at the place of its name
abbrev pub IsIn : List Operation → Operation → Type 0
IsIn order a = slice_get order (position_in order a) ≡ Some a

-- it has each of these
abbrev pub AreIn : List Operation → List Operation → Type 0
AreIn order among = AllByRecursion (IsIn order) among

-- none has more than four bytes
abbrev pub AreSmall : List Operation → Type 0
AreSmall order = AllByRecursion (λ (a : Operation). a.size ≤ 4) order

-- these are the ranks of the stores that a load's bytes come from
pub record GivesRanks (order : List Operation) (a : Operation) (ranks : List ℕ) : Type 0 where
  pub each : (i : ℕ) → i < a.size → HasRank order (source order a (a.address + i)) (slice_index_or ranks i 0)

-- what is kept of each load are those
pub record GivesSources (order : List Operation) (kept : List (List ℕ)) : Type 0 where
  pub many : length kept ≡ length order
  pub each : (p : ℕ) (a : Operation) (ranks : List ℕ) → slice_get kept p ≡ Some ranks → slice_get order p ≡ Some a → reads a.kind ≡ true → GivesRanks order a ranks
