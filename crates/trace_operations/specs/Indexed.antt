-- What an index keeps of an order: where each operation stands, and the stores to each byte.
use Rattle.std.specs.Prelude.{◌-◌, ℕ, ◌+◌, Bool, slice_get, slice_index_or, ◌&&◌, ◌||◌, ◌==◌, nat_lt, if◌then◌else◌, List, [], ◌∷◌, Option, Some, None, filter, length}
use Rattle.std.specs.Option.{option_map_or}
use Rattle.memory_model.specs.declared.operation.Operation.{Operation}
use Rattle.memory_model.specs.Operations.{same, stores_to}
use Rattle.trace_recorder.specs.History.{History, entries_of}
use Rattle.trace_recorder.specs.declared.operation.OpId.{OpId}
use Rattle.trace_operations.specs.declared.places.Numbers.{Numbers}
use Rattle.trace_operations.specs.declared.places.Places.{Places}
use Rattle.trace_operations.specs.declared.stored.Stored.{Stored}

-- the number of a name, by hart and by place; 0 where it has none
abbrev pub number_at : ℕ → ℕ → List Numbers → ℕ
number_at hart place lists = option_map_or (λ (l : Numbers). slice_index_or l.numbers.items place 0) (slice_get lists hart) 0

abbrev pub number_in : ℕ → ℕ → Places → ℕ
number_in hart place p = number_at hart place p.lists.items

-- the place that is one less than a number, where that isn't 0
abbrev pub known : ℕ → Option ℕ
known number = if number == 0 then None else Some (number - 1)

abbrev pub has_name : Places → OpId → Bool
has_name names n = nat_lt 0 (number_in n.hart n.place names)

-- the hart has retired an instruction at this place
abbrev pub is_listed : History → OpId → Bool
is_listed t n = nat_lt n.place (length (entries_of t n.hart))

-- the place of the first of these operations that is a, counted from a number
abbrev pub place_from : ℕ → Operation → List Operation → Option ℕ
place_from position a [] = None
place_from position a (b ∷ rest) = if same a b then Some position else place_from (position + 1) a rest

-- operations with their places, counted from a number
abbrev pub numbered : ℕ → List Operation → List Stored
numbered position [] = []
numbered position (a ∷ rest) = record { position = position; store = a } ∷ numbered (position + 1) rest

-- those of them that store to x
abbrev pub stored_from : ℕ → ℕ → List Operation → List Stored
stored_from position x order = filter (λ (s : Stored). stores_to x s.store) (numbered position order)

-- a store stands before a load's place in the order, or precedes it in program order
abbrev pub is_seen : ℕ → OpId → Stored → Bool
is_seen position load s = nat_lt s.position position || (s.store.hart == load.hart && nat_lt s.store.place load.place)
