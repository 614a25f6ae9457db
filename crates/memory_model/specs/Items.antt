-- A hart's retired instructions with their memory operations (RISC-V Unprivileged ISA 20191213, chapter 14.1, "Memory Model Primitives").
use Rattle.std.specs.Prelude.{ℕ, ◌+◌, Bool, true, false, if◌then◌else◌, List, [], ◌∷◌, Option, Some, None, unwrap_or}
use Rattle.std.specs.Option.{option_map_or}
use Rattle.hart.specs.Rows.{decoded}
use Rattle.hart.specs.Annotations.{Annotations}
use Rattle.hart.specs.Instr.{Instr}
use Rattle.hart.specs.InstrVariants as instr
use Rattle.hart.specs.Meaning.{Access, Private, Loads, Stores, DoesLr, DoesSc, DoesAmo, Fences, Calls, access_of, value_written}
use Rattle.hart.specs.Image.{Initial}
use Rattle.hart.specs.declared.retired.Retired.{Retired}
use Rattle.hart.specs.declared.state.Hart.{Hart}
use Rattle.hart.specs.Run.{number_read, after, at_reset}
use Rattle.memory_model.specs.declared.operation.Kind.{Kind}
use Rattle.memory_model.specs.declared.operation.Kind.TheVariants.{Load, Store, Lr, Sc, Amo}
use Rattle.memory_model.specs.declared.operation.Operation.{Operation}
use Rattle.memory_model.specs.Operations.{reads}

-- an instruction of a hart's list: its place, what it is, and its memory operation, where it has one
pub record Item : Type 0 where
  pub place : ℕ
  pub instr : Option Instr
  pub operation : Option Operation

-- the bits aq and rl; only LR, SC and AMOs have them (chapter 8.1)
abbrev pub annotations_of : Instr → Annotations
annotations_of (instr.Lr rd rs1 bits) = bits
annotations_of (instr.Sc rd rs1 rs2 bits) = bits
annotations_of (instr.Amo op rd rs1 rs2 bits) = bits
annotations_of _ = record { acquire = false; release = false }

abbrev pub succeeded : Option Bool → Bool
succeeded None = false
succeeded (Some ok) = ok

-- what an access reads and writes, as an operation of this kind on so many bytes
abbrev pub operation_with : ℕ → ℕ → Annotations → Retired → Access → Kind → (address size : ℕ) → Operation
operation_with hart place bits entry access kind address size = record {
  hart = hart;
  place = place;
  kind = kind;
  address = address;
  size = size;
  read = if reads kind then number_read entry else 0;
  written = unwrap_or (value_written access (number_read entry)) 0;
  aq = bits.acquire;
  rl = bits.release;
}

-- the operation of an access: of a load, an LR, a store, an AMO and an SC that succeeded; an SC that failed has none
abbrev pub operation_of_access : ℕ → ℕ → Annotations → Retired → Access → Option Operation
operation_of_access hart place bits entry (Loads address bytes) =
    Some (operation_with hart place bits entry (Loads address bytes) Load address bytes)
operation_of_access hart place bits entry (Stores address bytes value) =
    Some (operation_with hart place bits entry (Stores address bytes value) Store address bytes)
operation_of_access hart place bits entry (DoesLr address) =
    Some (operation_with hart place bits entry (DoesLr address) Lr address 4)
operation_of_access hart place bits entry (DoesSc address value) =
    if succeeded entry.sc_ok then Some (operation_with hart place bits entry (DoesSc address value) Sc address 4) else None
operation_of_access hart place bits entry (DoesAmo address op operand) =
    Some (operation_with hart place bits entry (DoesAmo address op operand) Amo address 4)
operation_of_access hart place bits entry Private = None
operation_of_access hart place bits entry Fences = None
operation_of_access hart place bits entry (Calls number argument) = None

-- the operation of the entry at this place of a hart's list, its hart standing here
abbrev pub operation_of_entry : ℕ → Hart → Retired → Option Instr → Option Operation
operation_of_entry place hart entry None = None
operation_of_entry place hart entry (Some i) = operation_of_access hart.id place (annotations_of i) entry (access_of i hart.regs)

abbrev pub item_of : ℕ → Hart → Retired → Item
item_of place hart entry =
    record { place = place; instr = decoded entry.word; operation = operation_of_entry place hart entry (decoded entry.word) }

-- the items of a hart's list from a place on, its hart standing here
abbrev pub items_from : ℕ → Hart → List Retired → List Item
items_from place hart [] = []
items_from place hart (entry ∷ rest) = item_of place hart entry ∷ items_from (place + 1) (after hart entry) rest

-- the items of each hart's list, from hart `id` on
abbrev pub items_of_harts : Initial → ℕ → ℕ → List (List Retired) → List (List Item)
items_of_harts image harts id [] = []
items_of_harts image harts id (entries ∷ rest) = items_from 0 (at_reset image id harts) entries ∷ items_of_harts image harts (id + 1) rest

-- ---- which entries have an operation, told by their word and their SC answer alone

-- loads, stores, LRs and AMOs access memory, and SCs that succeeded
abbrev pub accesses_memory : Option Bool → Instr → Bool
accesses_memory sc_ok (instr.Load op rd rs1 offset) = true
accesses_memory sc_ok (instr.Store op rs1 rs2 offset) = true
accesses_memory sc_ok (instr.Lr rd rs1 bits) = true
accesses_memory sc_ok (instr.Sc rd rs1 rs2 bits) = succeeded sc_ok
accesses_memory sc_ok (instr.Amo op rd rs1 rs2 bits) = true
accesses_memory sc_ok _ = false

abbrev pub has_operation : Retired → Bool
has_operation entry = option_map_or (accesses_memory entry.sc_ok) (decoded entry.word) false
