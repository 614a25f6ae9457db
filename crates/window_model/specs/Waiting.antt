-- Operations that a hart has fetched and that have no place in the global memory order yet: their bytes, and what they wait for.
use Rattle.std.specs.Prelude.{ℕ, ◌+◌, Bool, true, false, ◌&&◌, nat_lt, nat_le, List, Option, None, filter}
use Rattle.std.specs.List.{last_or}
use Rattle.memory_model.specs.declared.operation.Kind.{Kind}
use Rattle.memory_model.specs.declared.operation.Kind.TheVariants.{Store}
use Rattle.memory_model.specs.Operations.{byte_of_number, writes}
use Rattle.window_model.specs.Waits.{Waits, without}

pub record Waiting : Type 0 where
  -- as memory_model's Operation has them: its kind, the first of its bytes and how many they are, and the numbers that it reads and writes, of which the first is a guess until it is placed
  pub kind : Kind
  pub address : ℕ
  pub size : ℕ
  pub read : ℕ
  pub written : ℕ
  -- it has an RCsc annotation (rule 7)
  pub rcsc : Bool
  -- the operations that come before it in preserved program order whatever the order is (rules 1, 4 to 11, 13)
  pub needs : Waits
  -- of a store those that its address and its number depend on (rule 12)
  pub source : Waits
  -- the addresses of the bytes that a later load of its hart has read already (rule 2)
  pub pinned : ℕ → Bool
  -- of an SC the LR that it is paired with (rule 8, atomicity axiom)
  pub pair : Waits
  -- of an SC the own stores to its word before that LR, which the LR reads as long as they wait (atomicity axiom)
  pub own : Waits

-- ---- its bytes

abbrev pub touches : ℕ → Waiting → Bool
touches x w = nat_le w.address x && nat_lt x (w.address + w.size)

abbrev pub stores_to : ℕ → Waiting → Bool
stores_to x w = writes w.kind && touches x w

-- it has a byte in common with so many bytes from an address on
abbrev pub overlaps : (address size : ℕ) → Waiting → Bool
overlaps address size w = nat_lt w.address (address + size) && nat_lt address (w.address + w.size)

abbrev pub read_at : Waiting → ℕ → ℕ
read_at w x = byte_of_number w.address w.read x

abbrev pub written_at : Waiting → ℕ → ℕ
written_at w x = byte_of_number w.address w.written x

-- neither of an SC nor of an AMO
abbrev pub is_store : Kind → Bool
is_store Store = true
is_store _ = false

-- the last of these that stores to a byte
abbrev pub last_store : ℕ → List Waiting → Option Waiting
last_store x window = last_or None (filter (stores_to x) window)

-- ---- another operation of its window leaves

abbrev pub closed_up : (p : ℕ) → Waiting → Waiting
closed_up p w = record w { needs = without p w.needs; source = without p w.source; pair = without p w.pair; own = without p w.own }
