-- What a sweep back keeps: a flag for each register that is wanted, and a mark for each instruction that it passed. Flags and marks of the lists of `Sweeps`.
use Rattle.std.specs.Prelude.{◌≡◌, ℕ, ◌-◌, ◌≤◌, Bool, true, false, ◌&&◌, if◌then◌else◌, List, [], ◌∷◌, ◌++◌, Option, Some, None, map, slice_index_or}
use Rattle.std.specs.List.{All, list_any}
use Rattle.hart.specs.Uses.{Uses}
use Rattle.machine_types.specs.declared.model.MemoryModel.{MemoryModel}
use Rattle.memory_model.specs.declared.operation.Operation.{Operation}
use Rattle.memory_model.specs.Dependencies.{holds, sources, uses_in, with_flags}
use Rattle.memory_model.specs.Items.{Item}
use Rattle.memory_model.specs.Operations.{addresses_of, precedes, reads, writes}
use Rattle.memory_model.specs.Order.{same_source, source}
use Rattle.rvwmo_order.specs.Rules.{rule_of}
use Rattle.rvwmo_order.specs.Sweeps.{addressing, steering}
use Rattle.rvwmo_order.specs.declared.rule.Rule.{Rule}
use Rattle.rvwmo_order.specs.declared.rule.Rule.TheVariants.{Address, Data, Control, DependentStore, DependentAddress}

-- the rules that a sweep tells
abbrev pub is_told : Rule → Bool
is_told Address = true
is_told Data = true
is_told Control = true
is_told DependentStore = true
is_told DependentAddress = true
is_told _ = false

-- those of them that may ask for an operation before b
abbrev pub is_swept : Rule → Operation → Bool
is_swept Address b = true
is_swept Data b = true
is_swept Control b = writes b.kind
is_swept DependentStore b = reads b.kind
is_swept DependentAddress b = writes b.kind
is_swept _ b = false

-- the registers that b itself asks for, by the rule
abbrev pub asked_at : Rule → Uses → List ℕ
asked_at Address u = u.address
asked_at Data u = u.stored
asked_at _ u = []

-- the stores that the bytes of b come from, where the rule asks for them
abbrev pub sources_of : Rule → List Operation → Operation → List (Option Operation)
sources_of DependentStore order b = map (λ x. source order b x) (addresses_of b)
sources_of _ order b = []

-- one of these sources is the operation, and it is a store
abbrev pub is_source_among : List (Option Operation) → Option Operation → Bool
is_source_among stores None = false
is_source_among stores (Some s) = writes s.kind && list_any (λ store. same_source store (Some s)) stores

-- the registers that an instruction before b asks for, where b's bytes come from these sources
abbrev pub asked_before : Rule → List (Option Operation) → Item → List ℕ
asked_before Control stores m = steering m
asked_before DependentStore stores m = if is_source_among stores m.operation then (uses_in m.instr).address ++ (uses_in m.instr).stored else []
asked_before DependentAddress stores m = addressing m
asked_before _ stores m = []

-- the flags just before an instruction, where these are those just behind it: its sources in place of what it writes
abbrev pub flags_before : List Bool → Uses → List Bool
flags_before wanted u = if holds wanted u.written then with_flags (with_flags wanted false u.written) true (sources u) else wanted

-- those just before a list of instructions
abbrev pub flags_from : Rule → List (Option Operation) → List Bool → List Item → List Bool
flags_from rule stores last [] = last
flags_from rule stores last (m ∷ rest) = with_flags (flags_before (flags_from rule stores last rest) (uses_in m.instr)) true (asked_before rule stores m)

-- of each of these instructions: whether it writes a register that is flagged just behind it
abbrev pub flagged : Rule → List (Option Operation) → List Bool → List Item → List Bool
flagged rule stores last [] = []
flagged rule stores last (m ∷ rest) = holds (flags_from rule stores last rest) (uses_in m.instr).written ∷ flagged rule stores last rest

-- the marks from place `low` on tell whether the rule holds of a and b, where it is one that a sweep tells
pub record Tells (rule : Rule) (items : List Item) (order : List Operation) (b : Operation) (low : ℕ) (marks : List Bool) (a : Operation) : Type 0 where
  pub within : low ≤ a.place
  pub told : (model : MemoryModel) → is_told rule ≡ true → slice_index_or marks (a.place - low) false ≡ (rule_of rule).asks model items order a b

-- they do so of each of these operations that precedes b
abbrev pub TellsEach : Rule → List Item → List Operation → Operation → ℕ → List Bool → List Operation → Type 0
TellsEach rule items order b low marks among = All (λ a. precedes a b ≡ true → Tells rule items order b low marks a) among

-- `low` is no more than the place of any of these that precedes b
abbrev pub IsBelow : ℕ → Operation → List Operation → Type 0
IsBelow low b among = All (λ a. precedes a b ≡ true → low ≤ a.place) among
