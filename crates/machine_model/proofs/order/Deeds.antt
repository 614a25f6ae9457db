-- What a step that retires has found: what its access reads, and what its deed may pass.
use Rattle.std.proofs.Common.{◌≡◌, ℕ, ◌+◌, ◌%◌, ◌≤◌, List, [], Bool, true, false, Some, None, refl, cond, not, ◌&&◌, ◌⊎◌, arith}
use Rattle.std.specs.Prelude.{nat_eq}
use Rattle.std.proofs.lemmas.Bool.{eqb-true}
use Rattle.client_cache.specs.Cache.{copy_at}
use Rattle.client_cache.specs.Held.{bytes_in}
use Rattle.client_cache.specs.declared.held.Held.{Held}
use Rattle.client_cache.specs.declared.held.Held.TheVariants.{Trunk}
use Rattle.hart.specs.declared.retired.Retired.{Retired}
use Rattle.machine_model.specs.declared.act.Deed.{Deed}
use Rattle.machine_model.specs.declared.act.Deed.TheVariants as deed
use Rattle.machine_model.specs.Steps.{Fetched, waits_for_stores, write_waits}
use Rattle.machine_model.specs.Views.{Node}
use Rattle.machine_model.specs.Words.{word_of, word_in, read_from, store_of}
use Rattle.machine_types.specs.declared.model.MemoryModel.{MemoryModel}
use Rattle.memory_model.specs.declared.operation.Kind.{Kind}
use Rattle.memory_model.specs.declared.operation.Kind.TheVariants as kind
use Rattle.memory_model.specs.Items.{annotations_of}
use Rattle.memory_model.specs.Rules.{fences}
use Rattle.reservations.specs.Reservation.{is_valid}
use Rattle.rv32_exec.specs.Amo.{combined}
use Rattle.rv32_decode.specs.declared.instruction.Instr.{Instr}
use Rattle.rv32_decode.specs.declared.instruction.Instr.TheVariants as instr
use Rattle.rv32_decode.specs.declared.instruction.LoadOp.{LoadOp}
use Rattle.rv32_decode.specs.declared.instruction.LoadOp.TheVariants as load
use Rattle.rv32_decode.specs.declared.instruction.StoreOp.{StoreOp}
use Rattle.rv32_decode.specs.declared.instruction.StoreOp.TheVariants as store
use Rattle.rv32_decode.specs.declared.instruction.SystemOp.TheVariants as system
use Rattle.rv32_exec.specs.Arithmetic.{bytes_loaded, bytes_stored}
use Rattle.rv32_exec.specs.Meaning.{Access, Private, Loads, Stores, DoesLr, DoesSc, DoesAmo, Fences, Calls, access_of, stop_of, access_stop, is_outside}
use Rattle.rv32_exec.specs.Uses.{uses_of}
use Rattle.store_buffer.specs.ByteMask.{covers, laid_over, marks_of_access}
use Rattle.store_buffer.specs.Groups.{forwarded, is_empty}
use Rattle.tl_types.specs.Line.{line_of}
use Rattle.tl_types.specs.declared.line.LineData.{LineData}

-- ---- what a deed has found

-- a load's bytes: all from the buffer, or those that don't wait there from a copy
abbrev pub ReadsBoth : Node → (address bytes : ℕ) → Retired → Type 0
ReadsBoth n address bytes e =
    let waiting = forwarded (word_of address) n.buffer in
    ((covers waiting.0 (marks_of_access (address % 4) bytes) ≡ true) × (e.loaded ≡ Some (read_from waiting.1 address bytes)))
    ⊎ ((held : Held) × (copy_at n.cache (line_of n.cache.shape.size address) ≡ Some held) × (e.loaded ≡ Some (read_from (laid_over waiting.0 waiting.1 (word_in (bytes_in held) (word_of address))) address bytes)))

-- the word is read from a copy that may be written
abbrev pub ReadsTrunk : Node → (address old : ℕ) → Type 0
ReadsTrunk n address old = (dirty : Bool) × (line : LineData) × (copy_at n.cache (line_of n.cache.shape.size address) ≡ Some (Trunk dirty line)) × (old ≡ read_from (word_in line address) address 4)

abbrev pub FitsDeed : MemoryModel → Node → Fetched → Access → Retired → Deed → Type 0
FitsDeed model n f Private e deed.Private = Unit {0}
FitsDeed model n f (Calls number argument) e deed.Private = Unit {0}
FitsDeed model n f (Calls number argument) e (deed.Output k) = Unit {0}
FitsDeed model n f (Loads address bytes) e deed.Load = (e.sc_ok ≡ None) × ReadsBoth n address bytes e
FitsDeed model n f (Stores address bytes value) e (deed.Store s) = s ≡ store_of address bytes value f.place
FitsDeed model n f (DoesLr address) e (deed.Lr word) = (word ≡ address) × (waits_for_stores n.buffer f.instr address ≡ false) × (e.sc_ok ≡ None) × (old : ℕ) × (e.loaded ≡ Some old) × ReadsTrunk n address old
FitsDeed model n f (DoesSc address value) e deed.Fail = e.sc_ok ≡ Some false
FitsDeed model n f (DoesSc address value) e (deed.Sc word v) = (word ≡ address) × (v ≡ value) × (e.sc_ok ≡ Some true) × (is_valid address n.reserved ≡ true) × (write_waits model n.buffer f.instr address ≡ false)
FitsDeed model n f (DoesAmo address op operand) e (deed.Amo word v) = (word ≡ address) × (write_waits model n.buffer f.instr address ≡ false) × (e.sc_ok ≡ None) × (old : ℕ) × (e.loaded ≡ Some old) × (v ≡ combined op old operand) × ReadsTrunk n address old
FitsDeed model n f Fences e deed.Private = ((fences (Some f.instr) kind.Store kind.Load && not (is_empty n.buffer)) ≡ false) × (fences (Some f.instr) kind.Store kind.Store ≡ false)
FitsDeed model n f Fences e deed.Seal = (fences (Some f.instr) kind.Store kind.Load && not (is_empty n.buffer)) ≡ false
FitsDeed model n f _ e _ = ⊥

-- ---- what an instruction that doesn't stop says of its access

abbrev pub NoFence : Instr → Type 0
NoFence i = (j : Kind) → fences (Some i) kind.Store j ≡ false

pub record IsPlain (i : Instr) : Type 0 where
  pub no_acquire : (annotations_of i).acquire ≡ false
  pub no_release : (annotations_of i).release ≡ false
  pub no_fence : NoFence i

-- of a word: aligned
abbrev pub Facts : Instr → Access → Type 0
Facts i Private = NoFence i
Facts i (Calls number argument) = NoFence i
Facts i (Loads address bytes) = IsPlain i × (address % 4 + bytes ≤ 4)
Facts i (Stores address bytes value) = IsPlain i × (address % 4 + bytes ≤ 4) × ((uses_of i).written ≡ [])
Facts i (DoesLr address) = NoFence i × (address % 4 ≡ 0)
Facts i (DoesSc address value) = NoFence i × (address % 4 ≡ 0)
Facts i (DoesAmo address op operand) = NoFence i × (address % 4 ≡ 0)
Facts i Fences = Unit {0}

aligned : (misaligned outside size address bytes : ℕ) → access_stop misaligned outside size address bytes ≡ None → address % bytes ≡ 0
aligned misaligned outside size address bytes e = go (nat_eq (address % bytes) 0) refl e
  where
    go : (b : Bool) → nat_eq (address % bytes) 0 ≡ b → cond b (cond (is_outside size address bytes) (Some outside) None) (Some misaligned) ≡ None → address % bytes ≡ 0
    go true f e = eqb-true (address % bytes) 0 f
    go false f e = absurd cc

load_in_word : (op : LoadOp) (address : ℕ) → address % bytes_loaded op ≡ 0 → address % 4 + bytes_loaded op ≤ 4
load_in_word load.Lb address e = omega arith
load_in_word load.Lh address e = omega (arith, e)
load_in_word load.Lw address e = omega (arith, e)
load_in_word load.Lbu address e = omega arith
load_in_word load.Lhu address e = omega (arith, e)

store_in_word : (op : StoreOp) (address : ℕ) → address % bytes_stored op ≡ 0 → address % 4 + bytes_stored op ≤ 4
store_in_word store.Sb address e = omega arith
store_in_word store.Sh address e = omega (arith, e)
store_in_word store.Sw address e = omega (arith, e)

pub facts : (i : Instr) (pc : ℕ) (regs : List ℕ) (size : ℕ) → stop_of i pc regs size ≡ None → Facts i (access_of i regs)
facts (instr.Load op rd rs1 offset) pc regs size e = (record { no_acquire = refl; no_release = refl; no_fence = λ j. refl }, load_in_word op _ (aligned 4 5 size _ (bytes_loaded op) e))
facts (instr.Store op rs1 rs2 offset) pc regs size e = (record { no_acquire = refl; no_release = refl; no_fence = λ j. refl }, store_in_word op _ (aligned 6 7 size _ (bytes_stored op) e), refl)
facts (instr.Lr rd rs1 bits) pc regs size e = ((λ j. refl), aligned 6 7 size _ 4 e)
facts (instr.Sc rd rs1 rs2 bits) pc regs size e = ((λ j. refl), aligned 6 7 size _ 4 e)
facts (instr.Amo op rd rs1 rs2 bits) pc regs size e = ((λ j. refl), aligned 6 7 size _ 4 e)
facts (instr.Fence sets) pc regs size e = tt
facts instr.FenceTso pc regs size e = tt
facts (instr.System system.Ecall) pc regs size e = λ j. refl
facts (instr.System system.Ebreak) pc regs size e = λ j. refl
facts (instr.Upper op rd imm) pc regs size e = λ j. refl
facts (instr.Jal rd offset) pc regs size e = λ j. refl
facts (instr.Jalr rd rs1 offset) pc regs size e = λ j. refl
facts (instr.Branch op rs1 rs2 offset) pc regs size e = λ j. refl
facts (instr.Immediate op rd rs1 imm) pc regs size e = λ j. refl
facts (instr.Shift op rd rs1 amount) pc regs size e = λ j. refl
facts (instr.Register op rd rs1 rs2) pc regs size e = λ j. refl
