-- What a planned access says of its instruction.
use Rattle.std.specs.Prelude.{ℕ, ◌≡◌, ◌<◌, ◌*◌, ◌%◌, ◌^◌, Bool, true, false, cond, nat_eq, List, Option, Some, None, refl, slice_index}
use Rattle.std.proofs.Common.{arith, sym, ◌∙◌, ap, subst}
use Rattle.std.proofs.lemmas.Bool.{eqb-true}
use Rattle.hart.specs.declared.state.Hart.{Hart}
use Rattle.machine_model.specs.declared.act.Act.TheVariants as act
use Rattle.machine_model.specs.declared.act.Plan.TheVariants.{Changes}
use Rattle.machine_model.specs.Steps.{Fetched, plan_access, plan_unless}
use Rattle.machine_model.specs.Views.{Node}
use Rattle.machine_types.specs.declared.model.MemoryModel.{MemoryModel}
use Rattle.rv32_decode.specs.declared.instruction.Instr.{Instr}
use Rattle.rv32_decode.specs.declared.instruction.Instr.TheVariants as instr
use Rattle.rv32_decode.specs.declared.instruction.LoadOp.TheVariants as load
use Rattle.rv32_decode.specs.declared.instruction.StoreOp.{StoreOp}
use Rattle.rv32_decode.specs.declared.instruction.StoreOp.TheVariants as store
use Rattle.rv32_decode.specs.declared.instruction.SystemOp.TheVariants.{Ecall, Ebreak}
use Rattle.hart.specs.Meaning.{Access, Private, Loads, Stores, DoesLr, DoesSc, DoesAmo, Fences, Calls, access_of, access_stop, is_outside, stop_of}
use Rattle.hart.specs.Actions.{action_of_access, planned, stop_or, width_of}
use Rattle.hart.specs.Arithmetic.{bytes_stored}
use Rattle.hart.specs.Width.{byte_count}
use Rattle.hart.specs.Action.{Action}
use Rattle.hart.specs.ActionVariants as action

-- the access of an instruction that doesn't stop is this one
abbrev Goes : (stop : Option ℕ) (found wanted : Access) → Type 0
Goes stop found wanted = (stop ≡ None) × (found ≡ wanted)

abbrev pub Found : (x : List ℕ) (stop : Option ℕ) → Access → Action → Type 0
Found x stop a action.Private = Goes stop a Private
Found x stop a (action.Load address width) = Goes stop a (Loads address (byte_count width))
Found x stop a (action.Store address width value) = Goes stop a (Stores address (byte_count width) value)
Found x stop a (action.Lr address) = Goes stop a (DoesLr address)
Found x stop a (action.Sc address value) = Goes stop a (DoesSc address value)
Found x stop a (action.Amo address op operand) = Goes stop a (DoesAmo address op operand)
Found x stop a action.Fence = Goes stop a Fences
Found x stop a action.Call = Goes stop a (Calls (slice_index x 17) (slice_index x 10))
Found x stop a (action.Stop code) = stop ≡ Some code

-- loads and stores are of 1, 2 or 4 bytes, and a call has its numbers in a7 and a0
abbrev IsKnown : List ℕ → Access → Type 0
IsKnown x (Loads address bytes) = byte_count (width_of bytes) ≡ bytes
IsKnown x (Stores address bytes value) = byte_count (width_of bytes) ≡ bytes
IsKnown x Private = Unit {0}
IsKnown x (DoesLr address) = Unit {0}
IsKnown x (DoesSc address value) = Unit {0}
IsKnown x (DoesAmo address op operand) = Unit {0}
IsKnown x Fences = Unit {0}
IsKnown x (Calls number argument) = (number ≡ slice_index x 17) × (argument ≡ slice_index x 10)

is_known : (i : Instr) (x : List ℕ) → IsKnown x (access_of i x)
is_known (instr.Upper op rd imm) x = tt
is_known (instr.Jal rd offset) x = tt
is_known (instr.Jalr rd rs1 offset) x = tt
is_known (instr.Branch op rs1 rs2 offset) x = tt
is_known (instr.Load load.Lb rd rs1 offset) x = refl
is_known (instr.Load load.Lh rd rs1 offset) x = refl
is_known (instr.Load load.Lw rd rs1 offset) x = refl
is_known (instr.Load load.Lbu rd rs1 offset) x = refl
is_known (instr.Load load.Lhu rd rs1 offset) x = refl
is_known (instr.Store store.Sb rs1 rs2 offset) x = refl
is_known (instr.Store store.Sh rs1 rs2 offset) x = refl
is_known (instr.Store store.Sw rs1 rs2 offset) x = refl
is_known (instr.Immediate op rd rs1 imm) x = tt
is_known (instr.Shift op rd rs1 amount) x = tt
is_known (instr.Register op rd rs1 rs2) x = tt
is_known (instr.Fence sets) x = tt
is_known instr.FenceTso x = tt
is_known (instr.System Ecall) x = (refl, refl)
is_known (instr.System Ebreak) x = tt
is_known (instr.Lr rd rs1 bits) x = tt
is_known (instr.Sc rd rs1 rs2 bits) x = tt
is_known (instr.Amo op rd rs1 rs2 bits) x = tt

found_by : (x : List ℕ) (stop : Option ℕ) (a : Access) → IsKnown x a → Found x stop a (stop_or stop (action_of_access a))
found_by x (Some code) a w = refl
found_by x None Private w = (refl, refl)
found_by x None (Loads address bytes) w = (refl, ap (Loads address) (sym w))
found_by x None (Stores address bytes value) w = (refl, ap (λ n. Stores address n value) (sym w))
found_by x None (DoesLr address) w = (refl, refl)
found_by x None (DoesSc address value) w = (refl, refl)
found_by x None (DoesAmo address op operand) w = (refl, refl)
found_by x None Fences w = (refl, refl)
found_by x None (Calls number argument) w = (refl, ap (λ n. Calls n argument) w.0 ∙ ap (Calls (slice_index x 17)) w.1)

pub found : (i : Instr) (pc : ℕ) (x : List ℕ) (size : ℕ) (p q : Action) → p ≡ planned i pc x size → p ≡ q → Found x (stop_of i pc x size) (access_of i x) q
found i pc x size p q e f = subst (Found x (stop_of i pc x size) (access_of i x)) (sym e ∙ f) (found_by x (stop_of i pc x size) (access_of i x) (is_known i x))

-- an access that doesn't stop is aligned, and a store's value has as many bytes
abbrev IsFit : Access → Type 0
IsFit (Loads address bytes) = address % bytes ≡ 0
IsFit (Stores address bytes value) = (address % bytes ≡ 0) × (value < 2 ^ (8 * bytes))
IsFit (DoesLr address) = address % 4 ≡ 0
IsFit (DoesSc address value) = address % 4 ≡ 0
IsFit (DoesAmo address op operand) = address % 4 ≡ 0
IsFit Private = Unit {0}
IsFit Fences = Unit {0}
IsFit (Calls number argument) = Unit {0}

abbrev pub FitFound : Action → Type 0
FitFound (action.Load address width) = address % byte_count width ≡ 0
FitFound (action.Store address width value) = (address % byte_count width ≡ 0) × (value < 2 ^ (8 * byte_count width))
FitFound (action.Lr address) = address % 4 ≡ 0
FitFound (action.Sc address value) = address % 4 ≡ 0
FitFound (action.Amo address op operand) = address % 4 ≡ 0
FitFound action.Private = Unit {0}
FitFound action.Fence = Unit {0}
FitFound action.Call = Unit {0}
FitFound (action.Stop code) = Unit {0}

aligned : (misaligned outside size address bytes : ℕ) → access_stop misaligned outside size address bytes ≡ None → address % bytes ≡ 0
aligned misaligned outside size address bytes e = go (nat_eq (address % bytes) 0) refl e
  where
    go : (b : Bool) → nat_eq (address % bytes) 0 ≡ b → cond b (cond (is_outside size address bytes) (Some outside) None) (Some misaligned) ≡ None → address % bytes ≡ 0
    go true f e = eqb-true (address % bytes) 0 f
    go false f e = absurd cc

few_stored : (op : StoreOp) (n : ℕ) → n % 2 ^ (8 * bytes_stored op) < 2 ^ (8 * bytes_stored op)
few_stored store.Sb n = omega arith
few_stored store.Sh n = omega arith
few_stored store.Sw n = omega arith

is_fit : (i : Instr) (pc : ℕ) (x : List ℕ) (size : ℕ) → stop_of i pc x size ≡ None → IsFit (access_of i x)
is_fit (instr.Upper op rd imm) pc x size e = tt
is_fit (instr.Jal rd offset) pc x size e = tt
is_fit (instr.Jalr rd rs1 offset) pc x size e = tt
is_fit (instr.Branch op rs1 rs2 offset) pc x size e = tt
is_fit (instr.Load op rd rs1 offset) pc x size e = aligned 4 5 size _ _ e
is_fit (instr.Store op rs1 rs2 offset) pc x size e = (aligned 6 7 size _ _ e, few_stored op (slice_index x rs2))
is_fit (instr.Immediate op rd rs1 imm) pc x size e = tt
is_fit (instr.Shift op rd rs1 amount) pc x size e = tt
is_fit (instr.Register op rd rs1 rs2) pc x size e = tt
is_fit (instr.Fence sets) pc x size e = tt
is_fit instr.FenceTso pc x size e = tt
is_fit (instr.System Ecall) pc x size e = tt
is_fit (instr.System Ebreak) pc x size e = tt
is_fit (instr.Lr rd rs1 bits) pc x size e = aligned 6 7 size _ _ e
is_fit (instr.Sc rd rs1 rs2 bits) pc x size e = aligned 6 7 size _ _ e
is_fit (instr.Amo op rd rs1 rs2 bits) pc x size e = aligned 6 7 size _ _ e

fit_by : (x : List ℕ) (stop : Option ℕ) (a : Access) → IsKnown x a → (stop ≡ None → IsFit a) → FitFound (stop_or stop (action_of_access a))
fit_by x (Some code) a w fit = tt
fit_by x None Private w fit = tt
fit_by x None (Loads address bytes) w fit = subst (λ n. address % n ≡ 0) (sym w) (fit refl)
fit_by x None (Stores address bytes value) w fit = subst (λ n. (address % n ≡ 0) × (value < 2 ^ (8 * n))) (sym w) (fit refl)
fit_by x None (DoesLr address) w fit = fit refl
fit_by x None (DoesSc address value) w fit = fit refl
fit_by x None (DoesAmo address op operand) w fit = fit refl
fit_by x None Fences w fit = tt
fit_by x None (Calls number argument) w fit = tt

pub fit_found : (i : Instr) (pc : ℕ) (x : List ℕ) (size : ℕ) (p q : Action) → p ≡ planned i pc x size → p ≡ q → FitFound q
fit_found i pc x size p q e f = subst FitFound (sym e ∙ f) (fit_by x (stop_of i pc x size) (access_of i x) (is_known i x) (is_fit i pc x size))

-- the plan of a hart that is this one
pub seen : (p : Action) (i : Instr) (size : ℕ) (one other : Hart) → one ≡ other → p ≡ planned i one.pc one.regs size → p ≡ planned i other.pc other.regs size
seen p i size one other e is = is ∙ ap (λ (h : Hart). planned i h.pc h.regs size) e

pub goes_on : (model : MemoryModel) (n : Node) (f : Fetched) (stop : Option ℕ) (a b : Access) → Goes stop a b → plan_access model n f b ≡ plan_unless stop (plan_access model n f a)
goes_on model n f stop a b g = sym (ap (λ (s : Option ℕ). plan_unless s (plan_access model n f a)) g.0 ∙ ap (plan_access model n f) g.1)

pub stops : (model : MemoryModel) (n : Node) (f : Fetched) (stop : Option ℕ) (a : Access) (code : ℕ) → stop ≡ Some code → Changes (act.Stop code) ≡ plan_unless stop (plan_access model n f a)
stops model n f stop a code e = sym (ap (λ (s : Option ℕ). plan_unless s (plan_access model n f a)) e)
