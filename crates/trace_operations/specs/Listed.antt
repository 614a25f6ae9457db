-- A hart's list as it is kept: the words, how many operations stand before each, and the operations.
use Rattle.std.specs.Prelude.{ℕ, ◌+◌, ◌==◌, if◌then◌else◌, List, [], ◌∷◌, Option, Some, None, slice_get}
use Rattle.rv32_decode.specs.Rows.{decoded}
use Rattle.memory_model.specs.declared.operation.Operation.{Operation}
use Rattle.memory_model.specs.Items.{Item}
use Rattle.trace_operations.specs.declared.listed.Slot.{Slot}

-- an operation, where there is one and it stands at this place
abbrev pub standing_at : ℕ → Option Operation → Option Operation
standing_at place None = None
standing_at place (Some a) = if a.place == place then Some a else None

abbrev pub item_kept : List Operation → ℕ → Slot → Item
item_kept operations place s =
    record { place = place; instr = decoded s.word; operation = standing_at place (slice_get operations s.before) }

-- the instructions from a place on
abbrev pub listed : ℕ → List Operation → List Slot → List Item
listed place operations [] = []
listed place operations (s ∷ rest) = item_kept operations place s ∷ listed (place + 1) operations rest
