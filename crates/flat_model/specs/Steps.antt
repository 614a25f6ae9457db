-- What a hart's next instruction comes to over one memory: each check in its order, and then what retires.
-- RISC-V Unprivileged ISA 20191213: FENCE 2.7, ECALL 2.8, the ordering bits 8.1, LR and SC 8.2, AMOs 8.4, Ztso 23. The rules of the store buffer are this machine's own: what RVWMO asks of them is chapter 14.1.
use Rattle.std.specs.Prelude.{ℕ, ◌%◌, Bool, true, false, ◌&&◌, not, ◌==◌, if◌then◌else◌, List, Option, Some, None, is_some}
use Rattle.machine_model.specs.Image.{Initial, word_at}
use Rattle.flat_model.specs.Flat.{FlatNode, word_in}
use Rattle.hart.specs.declared.retired.Retired.{Retired}
use Rattle.hart.specs.Run.{is_running, next_stop}
use Rattle.machine_model.specs.declared.act.Deed.{Deed}
use Rattle.machine_model.specs.declared.act.Deed.TheVariants as deed
use Rattle.machine_types.specs.declared.outcome.Outcome.{Outcome}
use Rattle.machine_types.specs.declared.outcome.Outcome.TheVariants as outcome
use Rattle.machine_model.specs.Steps.{Fetched, waits_for_stores, write_waits}
use Rattle.machine_model.specs.Words.{word_of, read_from, store_of}
use Rattle.machine_types.specs.declared.model.MemoryModel.{MemoryModel}
use Rattle.machine_model.specs.TheVariants.{Load, Store}
use Rattle.machine_model.specs.Rules.{fences}
use Rattle.machine_model.specs.Reservation.{is_valid}
use Rattle.machine_model.specs.Amo.{combined}
use Rattle.rv32_decode.specs.Rows.{decoded}
use Rattle.rv32_decode.specs.declared.instruction.AmoOp.{AmoOp}
use Rattle.rv32_decode.specs.declared.instruction.Instr.{Instr}
use Rattle.hart.specs.Meaning.{Access, Private, Loads, Stores, DoesLr, DoesSc, DoesAmo, Fences, Calls, access_of}
use Rattle.store_buffer.specs.ByteMask.{covers, laid_over, marks_of_access}
use Rattle.store_buffer.specs.Groups.{drainable, fits, forwarded, has, is_empty}

-- what an event comes to, before anything changes
pub data FlatPlan : Type 0 where
  -- there is no such event
  Refused : FlatPlan
  -- nothing changes; the outcome says why
  Stays : (outcome : Outcome) → FlatPlan
  -- the hart halts with this code; nothing retires
  Stops : (code : ℕ) → FlatPlan
  -- the instruction retires with this entry and does this; it accesses memory at this address, or nowhere
  Retires : (entry : Retired) (instr : Instr) (deed : Deed) (accessed : Option ℕ) → FlatPlan
  -- the word's entry leaves the oldest group of the store buffer
  Drains : (word : ℕ) → FlatPlan

abbrev pub retires : FlatNode → Fetched → Option ℕ → Option Bool → Deed → Option ℕ → FlatPlan
retires n f loaded sc_ok d accessed = Retires (record { pc = n.hart.pc; word = f.word; loaded = loaded; sc_ok = sc_ok }) f.instr d accessed

-- ---- loads

-- a byte that waits in the buffer wins over memory's; where all wait there, memory isn't accessed
abbrev pub plan_load : List ℕ → FlatNode → Fetched → (address bytes : ℕ) → FlatPlan
plan_load memory n f address bytes =
    let waiting = forwarded (word_of address) n.buffer in
    if covers waiting.0 (marks_of_access (address % 4) bytes)
    then retires n f (Some (read_from waiting.1 address bytes)) None deed.Load None
    else retires n f (Some (read_from (laid_over waiting.0 waiting.1 (word_in memory (word_of address))) address bytes)) None deed.Load (Some address)

-- ---- stores

abbrev pub plan_store : FlatNode → Fetched → (address bytes value : ℕ) → FlatPlan
plan_store n f address bytes value =
    if fits (word_of address) n.buffer
    then retires n f None None (deed.Store (store_of address bytes value f.place)) None
    else Stays outcome.BufferFull

-- ---- LR, SC and AMOs, which the stores that wait may hold up

abbrev pub plan_lr : List ℕ → FlatNode → Fetched → (address : ℕ) → FlatPlan
plan_lr memory n f address =
    if waits_for_stores n.buffer f.instr address
    then Stays outcome.MustDrain
    else retires n f (Some (read_from (word_in memory address) address 4)) None (deed.Lr address) (Some address)

abbrev pub fails : FlatNode → Fetched → FlatPlan
fails n f = retires n f None (Some false) deed.Fail None

-- without its reservation a store conditional fails at once
abbrev pub plan_sc : MemoryModel → FlatNode → Fetched → (address value : ℕ) → FlatPlan
plan_sc model n f address value =
    if not (is_valid address n.reserved)
    then fails n f
    else if write_waits model n.buffer f.instr address
    then Stays outcome.MustDrain
    else retires n f None (Some true) (deed.Sc address value) (Some address)

abbrev pub update : FlatNode → Fetched → (address : ℕ) → AmoOp → (operand old : ℕ) → FlatPlan
update n f address op operand old = retires n f (Some old) None (deed.Amo address (combined op old operand)) (Some address)

abbrev pub plan_amo : MemoryModel → List ℕ → FlatNode → Fetched → (address : ℕ) → AmoOp → (operand : ℕ) → FlatPlan
plan_amo model memory n f address op operand =
    if write_waits model n.buffer f.instr address
    then Stays outcome.MustDrain
    else update n f address op operand (read_from (word_in memory address) address 4)

-- ---- fences

-- one that orders stores before loads waits until no store waits; one that orders stores before stores closes the open group (of an empty buffer that changes nothing)
abbrev pub plan_fence : FlatNode → Fetched → FlatPlan
plan_fence n f =
    if fences (Some f.instr) Store Load && not (is_empty n.buffer)
    then Stays outcome.MustDrain
    else retires n f None None (if fences (Some f.instr) Store Store then deed.Seal else deed.Private) None

-- ---- environment calls: 0 ends the hart, 1 puts a number out

abbrev pub plan_call : FlatNode → Fetched → (number argument : ℕ) → FlatPlan
plan_call n f number argument = retires n f None None (if number == 0 then deed.Private else deed.Output argument) None

-- ---- a step

abbrev pub plan_access : MemoryModel → List ℕ → FlatNode → Fetched → Access → FlatPlan
plan_access model memory n f Private = retires n f None None deed.Private None
plan_access model memory n f (Loads address bytes) = plan_load memory n f address bytes
plan_access model memory n f (Stores address bytes value) = plan_store n f address bytes value
plan_access model memory n f (DoesLr address) = plan_lr memory n f address
plan_access model memory n f (DoesSc address value) = plan_sc model n f address value
plan_access model memory n f (DoesAmo address op operand) = plan_amo model memory n f address op operand
plan_access model memory n f Fences = plan_fence n f
plan_access model memory n f (Calls number argument) = plan_call n f number argument

-- next_stop has judged a word that is no instruction already; 2 is its answer
abbrev pub plan_instr : MemoryModel → List ℕ → FlatNode → (word place : ℕ) → Option Instr → FlatPlan
plan_instr model memory n word place None = Stops 2
plan_instr model memory n word place (Some i) = plan_access model memory n (record { word = word; instr = i; place = place }) (access_of i n.hart.regs)

abbrev pub plan_unless : Option ℕ → FlatPlan → FlatPlan
plan_unless (Some code) go = Stops code
plan_unless None go = go

-- the hart has to run; then come the stops
abbrev pub plan_step : MemoryModel → Initial → List ℕ → FlatNode → (place : ℕ) → FlatPlan
plan_step model image memory n place =
    if not (is_running n.hart.status)
    then Stays outcome.Halted
    else plan_unless (next_stop image n.hart) (plan_instr model memory n (word_at image n.hart.pc) place (decoded (word_at image n.hart.pc)))

-- ---- a store conditional that fails, whatever the reservation and the buffer are (chapter 8.2 lets it fail at any time)

abbrev pub plan_fail_access : FlatNode → Fetched → Access → FlatPlan
plan_fail_access n f (DoesSc address value) = fails n f
plan_fail_access n f _ = Refused

abbrev pub plan_fail_instr : FlatNode → (word place : ℕ) → Option Instr → FlatPlan
plan_fail_instr n word place None = Refused
plan_fail_instr n word place (Some i) = plan_fail_access n (record { word = word; instr = i; place = place }) (access_of i n.hart.regs)

-- an instruction that stops is refused
abbrev pub refused_if : Bool → FlatPlan → FlatPlan
refused_if stops go = if stops then Refused else go

abbrev pub plan_fail : Initial → FlatNode → (place : ℕ) → FlatPlan
plan_fail image n place =
    if not (is_running n.hart.status)
    then Stays outcome.Halted
    else refused_if (is_some (next_stop image n.hart)) (plan_fail_instr n (word_at image n.hart.pc) place (decoded (word_at image n.hart.pc)))

-- ---- drains

abbrev pub plan_drain : FlatNode → ℕ → FlatPlan
plan_drain n word =
    if not (has word n.buffer)
    then Stays outcome.NoEntry
    else if not (drainable word n.buffer)
    then Stays outcome.NotOldest
    else Drains word
