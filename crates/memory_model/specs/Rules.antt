-- Preserved program order: the thirteen rules, each a test of two operations a and b of one hart, a before b in program
-- order (RISC-V Unprivileged ISA 20191213, chapter 14.1, "Preserved Program Order").
-- `items` is the list of their hart. "Returns a value written by" is the source in the order.
use Rattle.std.specs.Prelude.{ℕ, Bool, true, false, ◌&&◌, ◌||◌, not, ◌==◌, List, [], ◌∷◌, Option, Some, None, slice_index_or}
use Rattle.std.specs.List.{list_any}
use Rattle.hart.specs.Fields.{bits_of}
use Rattle.hart.specs.Instr.{Instr}
use Rattle.hart.specs.InstrVariants as instr
use Rattle.hart.specs.MemoryModel.{MemoryModel}
use Rattle.memory_model.specs.declared.operation.Kind.{Kind}
use Rattle.memory_model.specs.declared.operation.Operation.{Operation}
use Rattle.memory_model.specs.Operations.{reads, writes, is_lr, is_sc, is_amo, precedes, addresses_of, touches, stores_to, overlap, has_acquire, has_release, has_rcsc}
use Rattle.memory_model.specs.Order.{source, same_source}
use Rattle.memory_model.specs.Items.{Item}
use Rattle.memory_model.specs.Dependencies.{between, has_address_dependency, has_data_dependency, has_control_dependency, has_dependent_address_between}

-- ---- fences (chapter 2.7)

-- R is in a set of a FENCE, and W is
abbrev pub has_read : ℕ → Bool
has_read set = bits_of set 1 1 == 1

abbrev pub has_write : ℕ → Bool
has_write set = bits_of set 0 1 == 1

-- an operation of this kind is in a set; an AMO is in it as a load or as a store
abbrev pub is_in_set : ℕ → Kind → Bool
is_in_set set kind = (reads kind && has_read set) || (writes kind && has_write set)

-- an instruction orders an operation of the first kind before one of the second: a FENCE by its two sets; FENCE.TSO
-- loads before all and stores before stores
abbrev pub fences : Option Instr → Kind → Kind → Bool
fences (Some (instr.Fence sets)) a b = is_in_set sets.before a && is_in_set sets.after b
fences (Some instr.FenceTso) a b = reads a || (writes a && writes b)
fences _ a b = false

-- ---- pairs (chapter 14.1, "Memory Model Primitives"; chapter 8.2)

abbrev pub is_lr_or_sc : Option Instr → Bool
is_lr_or_sc (Some (instr.Lr rd rs1 bits)) = true
is_lr_or_sc (Some (instr.Sc rd rs1 rs2 bits)) = true
is_lr_or_sc _ = false

-- an LR and a later SC of its hart with no LR or SC between, whether it succeeded or not
abbrev pub paired : List Item → Operation → Operation → Bool
paired items a b =
    precedes a b && is_lr a.kind && is_sc b.kind
    && not (list_any (λ (m : Item). is_lr_or_sc m.instr) (between items a b))

-- ---- values

-- the operation of an instruction, where it has one, stores to x
abbrev pub has_store_to : ℕ → Option Operation → Bool
has_store_to x None = false
has_store_to x (Some m) = stores_to x m

-- b returns a value written by a
abbrev pub returns_from : List Operation → Operation → Operation → Bool
returns_from order b a = list_any (λ x. same_source (source order b x) (Some a)) (addresses_of b)

-- ---- the rules, of the instructions of their hart and the order, as far as they ask for these

-- 1: b is a store, and they overlap
abbrev pub rule_1 : (a b : Operation) → Bool
rule_1 a b = writes b.kind && overlap a b

-- 2: both are loads, and x is a byte of both that they return from different writes, with no store to x between them in program order
abbrev pub are_from_different_writes : List Item → List Operation → (a b : Operation) → (x : ℕ) → Bool
are_from_different_writes items order a b x =
    touches x b
    && not (list_any (λ (m : Item). has_store_to x m.operation) (between items a b))
    && not (same_source (source order a x) (source order b x))

abbrev pub rule_2 : List Item → List Operation → (a b : Operation) → Bool
rule_2 items order a b = reads a.kind && reads b.kind && list_any (are_from_different_writes items order a b) (addresses_of a)

-- 3: a is of an AMO or an SC, and b is a load that returns a value written by a
abbrev pub rule_3 : List Operation → (a b : Operation) → Bool
rule_3 order a b = (is_amo a.kind || is_sc a.kind) && reads b.kind && returns_from order b a

-- 4: a FENCE between them orders a before b
abbrev pub rule_4 : List Item → (a b : Operation) → Bool
rule_4 items a b = list_any (λ (m : Item). fences m.instr a.kind b.kind) (between items a b)

-- 5: a has an acquire annotation
abbrev pub rule_5 : MemoryModel → (a : Operation) → Bool
rule_5 model a = has_acquire model a

-- 6: b has a release annotation
abbrev pub rule_6 : MemoryModel → (b : Operation) → Bool
rule_6 model b = has_release model b

-- 7: both have RCsc annotations
abbrev pub rule_7 : MemoryModel → (a b : Operation) → Bool
rule_7 model a b = has_rcsc model a && has_rcsc model b

-- 8: a is paired with b
abbrev pub rule_8 : List Item → (a b : Operation) → Bool
rule_8 items a b = paired items a b

-- 9: b has an address dependency on a
abbrev pub rule_9 : List Item → (a b : Operation) → Bool
rule_9 items a b = has_address_dependency items a b

-- 10: b has a data dependency on a
abbrev pub rule_10 : List Item → (a b : Operation) → Bool
rule_10 items a b = has_data_dependency items a b

-- 11: b is a store with a control dependency on a
abbrev pub rule_11 : List Item → (a b : Operation) → Bool
rule_11 items a b = writes b.kind && has_control_dependency items a b

-- the operation of an instruction is a store m that has an address or a data dependency on a, and b returns a value written by m
abbrev pub passes_on : List Item → List Operation → (a b : Operation) → Option Operation → Bool
passes_on items order a b None = false
passes_on items order a b (Some m) =
    writes m.kind && (has_address_dependency items a m || has_data_dependency items a m) && returns_from order b m

-- 12: b is a load, a store m between has an address or data dependency on a, and b returns a value written by m
abbrev pub rule_12 : List Item → List Operation → (a b : Operation) → Bool
rule_12 items order a b = reads b.kind && list_any (λ (m : Item). passes_on items order a b m.operation) (between items a b)

-- 13: b is a store, and an instruction between them has an address dependency on a
abbrev pub rule_13 : List Item → (a b : Operation) → Bool
rule_13 items a b = writes b.kind && has_dependent_address_between items a b

-- ---- all of them

-- a rule with its number
pub record Rule : Type 0 where
  pub number : ℕ
  pub asks : MemoryModel → List Item → List Operation → (a b : Operation) → Bool

abbrev pub overlapping_store : Rule
overlapping_store = record { number = 1; asks = λ model items order a b. rule_1 a b }

abbrev pub same_byte_loads : Rule
same_byte_loads = record { number = 2; asks = λ model items order a b. rule_2 items order a b }

abbrev pub atomic_source : Rule
atomic_source = record { number = 3; asks = λ model items order a b. rule_3 order a b }

abbrev pub fence : Rule
fence = record { number = 4; asks = λ model items order a b. rule_4 items a b }

abbrev pub acquire : Rule
acquire = record { number = 5; asks = λ model items order a b. rule_5 model a }

abbrev pub release : Rule
release = record { number = 6; asks = λ model items order a b. rule_6 model b }

abbrev pub annotations : Rule
annotations = record { number = 7; asks = λ model items order a b. rule_7 model a b }

abbrev pub pair : Rule
pair = record { number = 8; asks = λ model items order a b. rule_8 items a b }

abbrev pub address : Rule
address = record { number = 9; asks = λ model items order a b. rule_9 items a b }

abbrev pub data_stored : Rule
data_stored = record { number = 10; asks = λ model items order a b. rule_10 items a b }

abbrev pub control : Rule
control = record { number = 11; asks = λ model items order a b. rule_11 items a b }

abbrev pub dependent_store : Rule
dependent_store = record { number = 12; asks = λ model items order a b. rule_12 items order a b }

abbrev pub dependent_address : Rule
dependent_address = record { number = 13; asks = λ model items order a b. rule_13 items a b }

abbrev pub rules : List Rule
rules =
    overlapping_store ∷ same_byte_loads ∷ atomic_source ∷ fence ∷ acquire ∷ release ∷ annotations
    ∷ pair ∷ address ∷ data_stored ∷ control ∷ dependent_store ∷ dependent_address ∷ []

-- the list of a hart
abbrev pub items_of : List (List Item) → ℕ → List Item
items_of harts hart = slice_index_or harts hart []

-- a precedes b in program order, and this rule holds
abbrev pub asked_by : MemoryModel → List (List Item) → List Operation → Rule → Operation → Operation → Bool
asked_by model harts order r a b = precedes a b && r.asks model (items_of harts a.hart) order a b

-- a precedes b in preserved program order: in program order, and one of the rules holds
abbrev pub preserved : MemoryModel → List (List Item) → List Operation → Operation → Operation → Bool
preserved model harts order a b = precedes a b && list_any (λ (r : Rule). r.asks model (items_of harts a.hart) order a b) rules
