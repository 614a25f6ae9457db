-- A hart where it fetches next, with its window: the operations that it has fetched and that have no place in the global memory order yet.
use Rattle.std.specs.Prelude.{ℕ, List, [], Option, Some, None}
use Rattle.std.specs.Option.{option_map}
use Rattle.elf_loader.specs.Image.{Initial}
use Rattle.hart.specs.declared.state.Hart.{Hart}
use Rattle.hart.specs.Run.{at_reset}
use Rattle.window_model.specs.Waiting.{Waiting}
use Rattle.window_model.specs.Waits.{Waits, none}

-- what the last LR reserved
pub record Reserved : Type 0 where
  -- the LR's address
  pub address : ℕ
  -- the LR, while it waits
  pub lr : Waits
  -- the own stores to the word that waited before the LR, while they wait: the LR reads their bytes
  pub own : Waits

pub record Node : Type 0 where
  -- behind all that it fetched
  pub hart : Hart
  -- the numbers that it has put out
  pub output : List ℕ
  -- of each register the operations that its number came from (14.1, "Syntactic Dependencies")
  pub registers : ℕ → Waits
  -- those that each later load is behind in preserved program order (rules 4, 5)
  pub loads : Waits
  -- those that each later store is (rules 4, 5, 11, 13)
  pub stores : Waits
  -- the reservation, from its LR to the next SC, or until another hart's store ends it (8.2)
  pub reserved : Option Reserved
  -- in program order
  pub window : List Waiting

abbrev pub lr_of : Option Reserved → Waits
lr_of None = none
lr_of (Some r) = r.lr

abbrev pub own_of : Option Reserved → Waits
own_of None = none
own_of (Some r) = r.own

abbrev pub address_of : Option Reserved → Option ℕ
address_of = option_map (λ (r : Reserved). r.address)

-- a hart at reset: nothing waits
abbrev pub node_at_reset : Initial → (harts id : ℕ) → Node
node_at_reset image harts id = record { hart = at_reset image id harts; output = []; registers = λ r. none; loads = none; stores = none; reserved = None; window = [] }
