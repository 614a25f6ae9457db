-- What a hart's next instruction comes to: each check in its order, and then the act.
-- RISC-V Unprivileged ISA 20191213: FENCE 2.7, ECALL 2.8, the ordering bits 8.1, LR and SC 8.2, AMOs 8.4, Ztso 23. The rules of the store buffer are this machine's own: what RVWMO asks of them is chapter 14.1.
use Rattle.std.specs.Prelude.{ℕ, ◌%◌, Bool, true, false, ◌&&◌, ◌||◌, not, ◌==◌, if◌then◌else◌, Option, Some, None}
use Rattle.elf_loader.specs.Image.{Initial, word_at}
use Rattle.hart.specs.Run.{is_running, next_stop}
use Rattle.machine_model.specs.declared.act.Act.TheVariants as act
use Rattle.machine_model.specs.declared.act.Deed.{Deed}
use Rattle.machine_model.specs.declared.act.Deed.TheVariants as deed
use Rattle.machine_model.specs.declared.act.Plan.{Plan}
use Rattle.machine_model.specs.declared.act.Plan.TheVariants.{Stays, Changes}
use Rattle.machine_types.specs.declared.outcome.Outcome.TheVariants as outcome
use Rattle.machine_model.specs.Deciding.{reading, writing}
use Rattle.machine_model.specs.Views.{Node}
use Rattle.machine_model.specs.Words.{word_of, word_in, read_from, store_of}
use Rattle.machine_types.specs.declared.model.MemoryModel.{MemoryModel}
use Rattle.machine_types.specs.declared.model.MemoryModel.TheVariants.{Rvwmo, Ztso}
use Rattle.memory_model.specs.declared.operation.Kind.TheVariants.{Load, Store}
use Rattle.memory_model.specs.Items.{annotations_of}
use Rattle.memory_model.specs.Rules.{fences}
use Rattle.reservations.specs.Reservation.{is_valid}
use Rattle.rv32_exec.specs.Amo.{combined}
use Rattle.rv32_decode.specs.Rows.{decoded}
use Rattle.rv32_decode.specs.declared.instruction.AmoOp.{AmoOp}
use Rattle.rv32_decode.specs.declared.instruction.Instr.{Instr}
use Rattle.rv32_exec.specs.Meaning.{Access, Private, Loads, Stores, DoesLr, DoesSc, DoesAmo, Fences, Calls, access_of}
use Rattle.store_buffer.specs.ByteMask.{covers, laid_over, marks_of_access}
use Rattle.store_buffer.specs.Groups.{Groups, fits, forwarded, has, has_sealed, is_empty}
use Rattle.tl_types.specs.Line.{line_of}

-- an instruction that a hart is about to retire: its word, and how many instructions stand before it in the hart's list
pub record Fetched : Type 0 where
  pub word : ℕ
  pub instr : Instr
  pub place : ℕ

abbrev pub retires : Node → Fetched → Option ℕ → Option Bool → Deed → Plan
retires n f loaded sc_ok d = Changes (act.Retire (record { pc = n.hart.pc; word = f.word; loaded = loaded; sc_ok = sc_ok }) f.instr d)

-- ---- loads

-- a byte that waits in the buffer wins over the copy's; where all wait there, no copy is needed
abbrev pub plan_load : Node → Fetched → (address bytes : ℕ) → Plan
plan_load n f address bytes =
    let waiting = forwarded (word_of address) n.buffer in
    if covers waiting.0 (marks_of_access (address % 4) bytes)
    then retires n f (Some (read_from waiting.1 address bytes)) None deed.Load
    else reading (λ line. retires n f (Some (read_from (laid_over waiting.0 waiting.1 (word_in line (word_of address))) address bytes)) None deed.Load) n.cache (line_of n.cache.shape.size address)

-- ---- stores

abbrev pub plan_store : Node → Fetched → (address bytes value : ℕ) → Plan
plan_store n f address bytes value =
    if fits (word_of address) n.buffer
    then retires n f None None (deed.Store (store_of address bytes value f.place))
    else Stays outcome.BufferFull

-- ---- LR, SC and AMOs, which the stores that wait may hold up

-- a release bit waits for all of them, and each access for those to its own word
abbrev pub waits_for_stores : Groups → Instr → ℕ → Bool
waits_for_stores b i word = ((annotations_of i).release && not (is_empty b)) || has word b

-- a write that is performed at once passes no sealed group, and under Ztso no store
abbrev pub write_waits : MemoryModel → Groups → Instr → ℕ → Bool
write_waits Rvwmo b i word = waits_for_stores b i word || has_sealed b
write_waits Ztso b i word = not (is_empty b)

abbrev pub plan_lr : Node → Fetched → (address : ℕ) → Plan
plan_lr n f address =
    if waits_for_stores n.buffer f.instr address
    then Stays outcome.MustDrain
    else writing (λ line. retires n f (Some (read_from (word_in line address) address 4)) None (deed.Lr address)) n.cache (line_of n.cache.shape.size address)

-- without its reservation a store conditional fails at once
abbrev pub plan_sc : MemoryModel → Node → Fetched → (address value : ℕ) → Plan
plan_sc model n f address value =
    if not (is_valid address n.reserved)
    then retires n f None (Some false) deed.Fail
    else if write_waits model n.buffer f.instr address
    then Stays outcome.MustDrain
    else retires n f None (Some true) (deed.Sc address value)

abbrev pub update : Node → Fetched → (address : ℕ) → AmoOp → (operand old : ℕ) → Plan
update n f address op operand old = retires n f (Some old) None (deed.Amo address (combined op old operand))

abbrev pub plan_amo : MemoryModel → Node → Fetched → (address : ℕ) → AmoOp → (operand : ℕ) → Plan
plan_amo model n f address op operand =
    if write_waits model n.buffer f.instr address
    then Stays outcome.MustDrain
    else writing (λ line. update n f address op operand (read_from (word_in line address) address 4)) n.cache (line_of n.cache.shape.size address)

-- ---- fences

-- one that orders stores before loads waits until no store waits; one that orders stores before stores closes the open group (of an empty buffer that changes nothing)
abbrev pub plan_fence : Node → Fetched → Plan
plan_fence n f =
    if fences (Some f.instr) Store Load && not (is_empty n.buffer)
    then Stays outcome.MustDrain
    else retires n f None None (if fences (Some f.instr) Store Store then deed.Seal else deed.Private)

-- ---- environment calls: 0 ends the hart, 1 puts a number out

abbrev pub plan_call : Node → Fetched → (number argument : ℕ) → Plan
plan_call n f number argument = retires n f None None (if number == 0 then deed.Private else deed.Output argument)

-- ---- a step

abbrev pub plan_access : MemoryModel → Node → Fetched → Access → Plan
plan_access model n f Private = retires n f None None deed.Private
plan_access model n f (Loads address bytes) = plan_load n f address bytes
plan_access model n f (Stores address bytes value) = plan_store n f address bytes value
plan_access model n f (DoesLr address) = plan_lr n f address
plan_access model n f (DoesSc address value) = plan_sc model n f address value
plan_access model n f (DoesAmo address op operand) = plan_amo model n f address op operand
plan_access model n f Fences = plan_fence n f
plan_access model n f (Calls number argument) = plan_call n f number argument

-- next_stop has judged a word that is no instruction already; 2 is its answer
abbrev pub plan_instr : MemoryModel → Node → (word place : ℕ) → Option Instr → Plan
plan_instr model n word place None = Changes (act.Stop 2)
plan_instr model n word place (Some i) = plan_access model n (record { word = word; instr = i; place = place }) (access_of i n.hart.regs)

abbrev pub plan_unless : Option ℕ → Plan → Plan
plan_unless (Some code) go = Changes (act.Stop code)
plan_unless None go = go

-- the hart has to run; then come the stops
abbrev pub plan_step : MemoryModel → Initial → Node → (place : ℕ) → Plan
plan_step model image n place =
    if not (is_running n.hart.status)
    then Stays outcome.Halted
    else plan_unless (next_stop image n.hart) (plan_instr model n (word_at image n.hart.pc) place (decoded (word_at image n.hart.pc)))
