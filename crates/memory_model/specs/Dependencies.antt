-- Dependencies through registers (RISC-V Unprivileged ISA 20191213, chapter 14.1, "Syntactic Dependencies", and 14.3).
-- Every instruction carries from each of its sources to its destination, which asks at least what the standard asks, but in one
-- place: an SC that failed writes its destination too (chapter 8.2), so a dependency through that register ends there, where the
-- table of 14.3 has that destination of an SC that succeeded alone.
use Rattle.std.specs.Prelude.{ℕ, Bool, true, false, ◌&&◌, ◌||◌, nat_lt, List, [], ◌∷◌, ◌++◌, Option, Some, None, filter, replicate, slice_get, slice_index_or, slice_set}
use Rattle.std.specs.List.{list_any}
use Rattle.hart.specs.Instr.{Instr}
use Rattle.hart.specs.Uses.{Uses, is_steering, uses_of}
use Rattle.memory_model.specs.declared.operation.Operation.{Operation}
use Rattle.memory_model.specs.Operations.{precedes}
use Rattle.memory_model.specs.Items.{Item}

-- the instructions of a hart that stand between two of its operations in program order
abbrev pub between : List Item → Operation → Operation → List Item
between items a b = filter (λ (m : Item). nat_lt a.place m.place && nat_lt m.place b.place) items

-- the registers that an instruction reads and writes
abbrev pub uses_in : Option Instr → Uses
uses_in None = record { address = []; stored = []; other = []; written = [] }
uses_in (Some i) = uses_of i

abbrev pub instr_in : Option Item → Option Instr
instr_in None = None
instr_in (Some m) = m.instr

-- those of the instruction of an operation
abbrev pub uses_at : List Item → Operation → Uses
uses_at items a = uses_in (instr_in (slice_get items a.place))

abbrev pub sources : Uses → List ℕ
sources u = u.address ++ u.stored ++ u.other

-- ---- which registers hold what came from an operation: one flag for each of x0 to x31

-- one of these registers holds it
abbrev pub holds : List Bool → List ℕ → Bool
holds held registers = list_any (λ r. slice_index_or held r false) registers

abbrev pub with_flags : List Bool → Bool → List ℕ → List Bool
with_flags held flag [] = held
with_flags held flag (r ∷ rest) = with_flags (slice_set held r flag) flag rest

-- just behind the operation its destination alone holds it
abbrev pub held_first : Uses → List Bool
held_first u = with_flags (replicate 32 false) true u.written

-- behind an instruction its destination holds it exactly where one of its sources did
abbrev pub held_after : List Bool → Uses → List Bool
held_after held u = with_flags held (holds held (sources u)) u.written

-- behind a list of instructions
abbrev pub held_behind : List Bool → List Item → List Bool
held_behind held [] = held
held_behind held (m ∷ rest) = held_behind (held_after held (uses_in m.instr)) rest

-- just before b, what came from a
abbrev pub held_at : List Item → Operation → Operation → List Bool
held_at items a b = held_behind (held_first (uses_at items a)) (between items a b)

-- ---- the three dependencies

-- b has an address dependency on a: what came from a is in its address
abbrev pub has_address_dependency : List Item → Operation → Operation → Bool
has_address_dependency items a b = precedes a b && holds (held_at items a b) (uses_at items b).address

-- b has a data dependency on a: what came from a is in the number that it stores
abbrev pub has_data_dependency : List Item → Operation → Operation → Bool
has_data_dependency items a b = precedes a b && holds (held_at items a b) (uses_at items b).stored

-- conditional branches and JALR
abbrev pub steers : Option Instr → Bool
steers None = false
steers (Some i) = is_steering i

-- one of these is a branch or a JALR that depends on what the flags say
abbrev pub any_steers : List Bool → List Item → Bool
any_steers held [] = false
any_steers held (m ∷ rest) =
    (steers m.instr && holds held (sources (uses_in m.instr))) || any_steers (held_after held (uses_in m.instr)) rest

-- b has a control dependency on a: a branch or a JALR between them depends on a
abbrev pub has_control_dependency : List Item → Operation → Operation → Bool
has_control_dependency items a b = precedes a b && any_steers (held_first (uses_at items a)) (between items a b)

-- one of these has an address dependency on what the flags say; it may be an SC that failed
abbrev pub any_addresses : List Bool → List Item → Bool
any_addresses held [] = false
any_addresses held (m ∷ rest) = holds held (uses_in m.instr).address || any_addresses (held_after held (uses_in m.instr)) rest

-- an instruction between them has an address dependency on a
abbrev pub has_dependent_address_between : List Item → Operation → Operation → Bool
has_dependent_address_between items a b = precedes a b && any_addresses (held_first (uses_at items a)) (between items a b)
