-- Dependencies as a reader expects them (RISC-V Unprivileged ISA 20191213, chapter 14.1, "Syntactic Dependencies"): an
-- instruction writes a register, and others pass on what they read.
use Rattle.std.specs.Prelude.{ℕ, ◌≡◌, ◌<◌, ◌↔◌, List, [], ◌∷◌, ◌++◌, IsTrue, Contains}
use Rattle.std.specs.List.{AllByRecursion as Each}
use Rattle.hart.specs.Uses.{Uses}
use Rattle.memory_model.specs.declared.operation.Operation.{Operation}
use Rattle.memory_model.specs.Operations.{precedes}
use Rattle.memory_model.specs.Items.{Item}
use Rattle.memory_model.specs.Dependencies as computed
use Rattle.memory_model.specs.Dependencies.{between, sources, steers, uses_at, uses_in}

-- none of these instructions writes the register
abbrev pub NoneWrites : ℕ → List Item → Type 0
NoneWrites r items = Each (λ (m : Item). Contains (uses_in m.instr).written r → ⊥) items

-- what an instruction writes is in register r, one of x0 to x31, behind the instructions that follow it
pub data Reaches (first : Uses) : List Item → ℕ → Type 0 where
  -- it writes r, and none of them does
  directly : (behind : List Item) (r : ℕ) → r < 32 → Contains first.written r → NoneWrites r behind → Reaches first behind r
  -- one of them, m, reads a register that it reaches there, and writes r, and none behind m does
  through : (before : List Item) (m : Item) (behind : List Item) (q r : ℕ)
      → Reaches first before q → Contains (sources (uses_in m.instr)) q
      → r < 32 → Contains (uses_in m.instr).written r → NoneWrites r behind
      → Reaches first (before ++ m ∷ behind) r

-- it reaches one of these registers
pub record ReachesOne (first : Uses) (behind : List Item) (registers : List ℕ) : Type 0 where
  pub register : ℕ
  pub read : Contains registers register
  pub reaches : Reaches first behind register

-- one of these instructions is such a one, and reads a register among those that count which the first reaches there
pub record Meets (first : Uses) (items : List Item) (Counts : Item → Type 0) (read : Uses → List ℕ) : Type 0 where
  pub before : List Item
  pub met : Item
  pub behind : List Item
  pub split : items ≡ before ++ met ∷ behind
  pub counts : Counts met
  pub reaches : ReachesOne first before (read (uses_in met.instr))

-- ---- the dependencies of b on a, which precedes it in program order

-- a reaches a register of b's address
abbrev pub HasAddressDependency : List Item → Operation → Operation → Type 0
HasAddressDependency items a b = IsTrue (precedes a b) × ReachesOne (uses_at items a) (between items a b) (uses_at items b).address

-- a reaches the register that b stores
abbrev pub HasDataDependency : List Item → Operation → Operation → Type 0
HasDataDependency items a b = IsTrue (precedes a b) × ReachesOne (uses_at items a) (between items a b) (uses_at items b).stored

-- between them stands a branch or a JALR, and a reaches a register that it reads
abbrev pub HasControlDependency : List Item → Operation → Operation → Type 0
HasControlDependency items a b = IsTrue (precedes a b) × Meets (uses_at items a) (between items a b) (λ m. IsTrue (steers m.instr)) sources

-- between them stands an instruction with an address dependency on a
abbrev pub HasDependentAddressBetween : List Item → Operation → Operation → Type 0
HasDependentAddressBetween items a b = IsTrue (precedes a b) × Meets (uses_at items a) (between items a b) (λ m. Unit {0}) (λ u. u.address)

-- ---- the tests say so

pub record DependsAsRead (items : List Item) (a b : Operation) : Type 0 where
  pub address : IsTrue (computed.has_address_dependency items a b) ↔ HasAddressDependency items a b
  pub data_stored : IsTrue (computed.has_data_dependency items a b) ↔ HasDataDependency items a b
  pub control : IsTrue (computed.has_control_dependency items a b) ↔ HasControlDependency items a b
  pub address_between : IsTrue (computed.has_dependent_address_between items a b) ↔ HasDependentAddressBetween items a b

abbrev pub DependencyFormsAgree : Type 0
DependencyFormsAgree = (items : List Item) (a b : Operation) → DependsAsRead items a b
