-- What a planned access says of its instruction.
use Rattle.std.specs.Prelude.{ℕ, ◌≡◌, List, Option, Some, None, refl}
use Rattle.std.proofs.Common.{sym, ◌∙◌, ap, subst}
use Rattle.hart.specs.declared.state.Hart.{Hart}
use Rattle.flat_model.specs.Flat.{FlatNode}
use Rattle.flat_model.specs.Steps.{plan_access, plan_unless}
use Rattle.word_accesses.specs.Steps.{Fetched}
use Rattle.machine_types.specs.declared.model.MemoryModel.{MemoryModel}
use Rattle.rv32_decode.specs.declared.instruction.Instr.{Instr}
use Rattle.rv32_decode.specs.declared.instruction.Instr.TheVariants as instr
use Rattle.rv32_decode.specs.declared.instruction.LoadOp.TheVariants as load
use Rattle.rv32_decode.specs.declared.instruction.StoreOp.TheVariants as store
use Rattle.rv32_decode.specs.declared.instruction.SystemOp.TheVariants.{Ecall, Ebreak}
use Rattle.rv32_exec.specs.Meaning.{Access, Private, Loads, Stores, DoesLr, DoesSc, DoesAmo, Fences, Calls, access_of, stop_of}
use Rattle.rv32_exec.specs.Actions.{action_of_access, planned, stop_or, width_of}
use Rattle.rv32_exec.specs.Width.{byte_count}
use Rattle.rv32_exec.specs.declared.actions.Action.{Action}
use Rattle.rv32_exec.specs.declared.actions.Action.TheVariants as action

-- the access of an instruction that doesn't stop is this one
abbrev Goes : (stop : Option ℕ) (found wanted : Access) → Type 0
Goes stop found wanted = (stop ≡ None) × (found ≡ wanted)

abbrev pub Found : (stop : Option ℕ) → Access → Action → Type 0
Found stop a action.Private = Goes stop a Private
Found stop a (action.Load address width) = Goes stop a (Loads address (byte_count width))
Found stop a (action.Store address width value) = Goes stop a (Stores address (byte_count width) value)
Found stop a (action.Lr address) = Goes stop a (DoesLr address)
Found stop a (action.Sc address value) = Goes stop a (DoesSc address value)
Found stop a (action.Amo address op operand) = Goes stop a (DoesAmo address op operand)
Found stop a action.Fence = Goes stop a Fences
Found stop a action.Call = stop ≡ None
Found stop a (action.Stop code) = stop ≡ Some code

-- loads and stores are of 1, 2 or 4 bytes
abbrev IsOfWidth : Access → Type 0
IsOfWidth (Loads address bytes) = byte_count (width_of bytes) ≡ bytes
IsOfWidth (Stores address bytes value) = byte_count (width_of bytes) ≡ bytes
IsOfWidth Private = Unit {0}
IsOfWidth (DoesLr address) = Unit {0}
IsOfWidth (DoesSc address value) = Unit {0}
IsOfWidth (DoesAmo address op operand) = Unit {0}
IsOfWidth Fences = Unit {0}
IsOfWidth (Calls number argument) = Unit {0}

has_width : (i : Instr) (x : List ℕ) → IsOfWidth (access_of i x)
has_width (instr.Upper op rd imm) x = tt
has_width (instr.Jal rd offset) x = tt
has_width (instr.Jalr rd rs1 offset) x = tt
has_width (instr.Branch op rs1 rs2 offset) x = tt
has_width (instr.Load load.Lb rd rs1 offset) x = refl
has_width (instr.Load load.Lh rd rs1 offset) x = refl
has_width (instr.Load load.Lw rd rs1 offset) x = refl
has_width (instr.Load load.Lbu rd rs1 offset) x = refl
has_width (instr.Load load.Lhu rd rs1 offset) x = refl
has_width (instr.Store store.Sb rs1 rs2 offset) x = refl
has_width (instr.Store store.Sh rs1 rs2 offset) x = refl
has_width (instr.Store store.Sw rs1 rs2 offset) x = refl
has_width (instr.Immediate op rd rs1 imm) x = tt
has_width (instr.Shift op rd rs1 amount) x = tt
has_width (instr.Register op rd rs1 rs2) x = tt
has_width (instr.Fence sets) x = tt
has_width instr.FenceTso x = tt
has_width (instr.System Ecall) x = tt
has_width (instr.System Ebreak) x = tt
has_width (instr.Lr rd rs1 bits) x = tt
has_width (instr.Sc rd rs1 rs2 bits) x = tt
has_width (instr.Amo op rd rs1 rs2 bits) x = tt

found_by : (stop : Option ℕ) (a : Access) → IsOfWidth a → Found stop a (stop_or stop (action_of_access a))
found_by (Some code) a w = refl
found_by None Private w = (refl, refl)
found_by None (Loads address bytes) w = (refl, ap (Loads address) (sym w))
found_by None (Stores address bytes value) w = (refl, ap (λ n. Stores address n value) (sym w))
found_by None (DoesLr address) w = (refl, refl)
found_by None (DoesSc address value) w = (refl, refl)
found_by None (DoesAmo address op operand) w = (refl, refl)
found_by None Fences w = (refl, refl)
found_by None (Calls number argument) w = refl

pub found : (i : Instr) (pc : ℕ) (x : List ℕ) (size : ℕ) (p q : Action) → p ≡ planned i pc x size → p ≡ q → Found (stop_of i pc x size) (access_of i x) q
found i pc x size p q e f = subst (Found (stop_of i pc x size) (access_of i x)) (sym e ∙ f) (found_by (stop_of i pc x size) (access_of i x) (has_width i x))

-- the plan of a hart that is this one
pub seen : (p : Action) (i : Instr) (size : ℕ) (one other : Hart) → one ≡ other → p ≡ planned i one.pc one.regs size → p ≡ planned i other.pc other.regs size
seen p i size one other e is = is ∙ ap (λ (h : Hart). planned i h.pc h.regs size) e

pub goes_on : (model : MemoryModel) (memory : List ℕ) (n : FlatNode) (f : Fetched) (stop : Option ℕ) (a b : Access) → Goes stop a b → plan_access model memory n f b ≡ plan_unless stop (plan_access model memory n f a)
goes_on model memory n f stop a b g = sym (ap (λ (s : Option ℕ). plan_unless s (plan_access model memory n f a)) g.0 ∙ ap (plan_access model memory n f) g.1)
