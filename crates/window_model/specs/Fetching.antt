-- A hart fetches its next instruction. The entry tells which of the three small steps that is:
--   Pass   the instruction accesses no memory, and retires
--   Wait v an access goes to the end of the window; where it reads, `loaded` is v, of which nothing is known yet; an SC succeeds, and only where its word is reserved
--   Fail   an SC fails: `sc_ok` is false; it has no operation
-- What each field of the node becomes has its rules beside it (RISC-V Unprivileged ISA 20191213, chapter 14.1, "Preserved Program Order").
use Rattle.std.specs.Prelude.{ℕ, ◌≡◌, Bool, true, false, ◌&&◌, ◌||◌, nat_eq, if◌then◌else◌, List, ◌++◌, Option, Some, None, length}
use Rattle.std.specs.List.{list_any}
use Rattle.std.specs.Option.{option_map, option_to_list}
use Rattle.elf_loader.specs.Image.{Initial}
use Rattle.hart.specs.declared.retired.Retired.{Retired}
use Rattle.hart.specs.declared.state.Hart.{Hart}
use Rattle.hart.specs.Ends.{access_at}
use Rattle.hart.specs.Run.{after, is_step}
use Rattle.machine_types.specs.declared.model.MemoryModel.{MemoryModel}
use Rattle.memory_model.specs.declared.operation.Kind.TheVariants.{Load, Store}
use Rattle.memory_model.specs.declared.operation.Operation.{Operation}
use Rattle.memory_model.specs.Dependencies.{sources, steers, uses_in}
use Rattle.memory_model.specs.Items.{operation_of_entry}
use Rattle.memory_model.specs.Operations.{has_acquire, has_rcsc, has_release, is_lr, is_sc, reads, writes}
use Rattle.memory_model.specs.Rules.{fences, is_lr_or_sc}
use Rattle.rv32_decode.specs.Rows.{decoded}
use Rattle.rv32_decode.specs.declared.instruction.Instr.{Instr}
use Rattle.rv32_exec.specs.Uses.{Uses}
use Rattle.witnesses.specs.Outcomes.{number_out}
use Rattle.window_model.specs.Nodes.{Node, Reserved, address_of, lr_of, own_of}
use Rattle.window_model.specs.Reserving.{may_do}
use Rattle.window_model.specs.Waiting.{Waiting, is_store, overlaps}
use Rattle.window_model.specs.Waits.{Waits, none, only, those, of_registers, when, ◌∪◌}

-- ---- an access, as it begins to wait

-- what waits must be placed before it for what both are: it stores to a byte of the other (rule 1), it has a release annotation (rule 6), both are RCsc (rule 7)
abbrev pub must_precede : MemoryModel → Operation → Waiting → Bool
must_precede model b w = (writes b.kind && overlaps b.address b.size w) || (has_release model b || (w.rcsc && has_rcsc model b))

-- all that must be placed before it
abbrev pub needs_of : MemoryModel → Node → Uses → Operation → Waits
needs_of model n uses b =
    those (must_precede model b) n.window  -- rules 1, 6, 7
    ∪ when (is_sc b.kind) (lr_of n.reserved)  -- rule 8
    ∪ of_registers n.registers uses.address  -- rule 9
    ∪ of_registers n.registers uses.stored  -- rule 10
    ∪ when (reads b.kind) n.loads  -- rules 4, 5
    ∪ when (writes b.kind) n.stores  -- rules 4, 5, 11, 13

-- its operation b, where the instruction uses these registers
abbrev pub waiting_with : MemoryModel → Node → Uses → Operation → Waiting
waiting_with model n uses b = record {
  kind = b.kind;
  address = b.address;
  size = b.size;
  read = b.read;
  written = b.written;
  rcsc = has_rcsc model b;
  needs = needs_of model n uses b;
  source = when (is_store b.kind) (of_registers n.registers uses.address ∪ of_registers n.registers uses.stored);
  pinned = λ x. false;
  pair = when (is_sc b.kind) (lr_of n.reserved);
  own = when (is_sc b.kind) (own_of n.reserved);
}

-- ---- what an instruction i with an operation o, where it has one, leaves; the operation waits at p

-- the operation itself, where the instruction has one
abbrev pub itself : (p : ℕ) → Option Operation → Waits
itself p None = none
itself p (Some b) = only p

-- and where it has an acquire annotation: all later operations are behind it (rule 5)
abbrev pub acquired : MemoryModel → (p : ℕ) → Option Operation → Waits
acquired model p None = none
acquired model p (Some b) = when (has_acquire model b) (only p)

-- its destination holds what came from its operation and from its sources (14.1, "Syntactic Dependencies")
abbrev pub registers_behind : Node → Option Instr → Option Operation → ℕ → Waits
registers_behind n i o r =
    if list_any (nat_eq r) (uses_in i).written
    then of_registers n.registers (sources (uses_in i)) ∪ itself (length n.window) o
    else n.registers r

-- later loads are behind what a fence orders before loads (rule 4), and behind an acquire (rule 5)
abbrev pub loads_behind : MemoryModel → Node → Option Instr → Option Operation → Waits
loads_behind model n i o =
    n.loads
    ∪ those (λ (w : Waiting). fences i w.kind Load) n.window  -- rule 4
    ∪ acquired model (length n.window) o  -- rule 5

-- later stores besides behind what a branch or a JALR depends on (rule 11), and an address (rule 13)
abbrev pub stores_behind : MemoryModel → Node → Option Instr → Option Operation → Waits
stores_behind model n i o =
    n.stores
    ∪ those (λ (w : Waiting). fences i w.kind Store) n.window  -- rule 4
    ∪ acquired model (length n.window) o  -- rule 5
    ∪ when (steers i) (of_registers n.registers (sources (uses_in i)))  -- rule 11
    ∪ of_registers n.registers (uses_in i).address  -- rule 13

-- what an LR at the end of a window reserves: its word; the LR waits, and the own stores to the word do that it reads
abbrev pub reserves : List Waiting → Option Operation → Option Reserved
reserves window None = None
reserves window (Some b) =
    if is_lr b.kind
    then Some (record { address = b.address; lr = only (length window); own = those (λ (w : Waiting). writes w.kind && overlaps b.address b.size w) window })
    else None

-- an LR reserves, and an SC ends the reservation (8.2)
abbrev pub reservation_behind : Node → Option Instr → Option Operation → Option Reserved
reservation_behind n i o = if is_lr_or_sc i then reserves n.window o else n.reserved

-- an access waits at the end of the window
abbrev pub window_behind : MemoryModel → Node → Option Instr → Option Operation → List Waiting
window_behind model n i o = n.window ++ option_to_list (option_map (waiting_with model n (uses_in i)) o)

-- ---- the step

-- the operation of an entry; its place in the hart's list matters to nothing here
abbrev pub operation_of : Hart → Retired → Option Operation
operation_of hart entry = operation_of_entry 0 hart entry (decoded entry.word)

-- the node behind an entry of instruction i with operation o
abbrev pub fetched_as : MemoryModel → Node → Retired → Option Instr → Option Operation → Node
fetched_as model n entry i o = record {
  hart = after n.hart entry;
  output = n.output ++ number_out (access_at n.hart i);
  registers = registers_behind n i o;
  loads = loads_behind model n i o;
  stores = stores_behind model n i o;
  reserved = reservation_behind n i o;
  window = window_behind model n i o;
}

abbrev pub fetched : MemoryModel → Node → Retired → Node
fetched model n entry = fetched_as model n entry (decoded entry.word) (operation_of n.hart entry)

-- a running hart can retire this entry next, whatever it reads, and an SC succeeds only where its word is reserved
pub record CanFetch (image : Initial) (n : Node) (entry : Retired) : Type 0 where
  pub step : is_step image n.hart entry ≡ true
  pub reserved : may_do (address_of n.reserved) (operation_of n.hart entry) ≡ true
