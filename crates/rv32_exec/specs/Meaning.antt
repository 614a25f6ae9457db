-- The instruction meaning: what an instruction does, at a pc, with given registers (RISC-V Unprivileged ISA 20191213, chapters 2, 7 and 8), over whole numbers modulo 2^32.
-- What calls mean, and the codes of stops, the manual leaves to the machine (chapter 2.8 and "Exceptions, Traps, and Interrupts", 1.6): those here are its own.
use Rattle.std.specs.Prelude.{ℕ, ◌+◌, ◌-◌, ◌*◌, ◌%◌, ◌^◌, Bool, ◌||◌, ◌==◌, nat_lt, if◌then◌else◌, List, Option, Some, None, slice_index}
use Rattle.elf_loader.specs.TheConstants.{BASE}
use Rattle.amo_unit.specs.Amo.{combined}
use Rattle.rv32_decode.specs.Rows.{decoded}
use Rattle.rv32_decode.specs.declared.instruction.AmoOp.{AmoOp}
use Rattle.rv32_decode.specs.declared.instruction.Instr.{Instr}
use Rattle.rv32_decode.specs.declared.instruction.Instr.TheVariants.{Upper, Jal, Jalr, Branch, Load, Store, Immediate, Shift, Register, Fence, FenceTso, System, Lr, Sc, Amo}
use Rattle.rv32_decode.specs.declared.instruction.UpperOp.TheVariants.{Lui, Auipc}
use Rattle.rv32_decode.specs.declared.instruction.SystemOp.TheVariants.{Ecall, Ebreak}
use Rattle.rv32_exec.specs.Arithmetic.{sum32, computed, computed_immediate, shifted, is_taken, bytes_loaded, loaded, bytes_stored}

-- what an instruction does beside its hart's pc and registers: nothing, an access to memory, a fence, or an environment call
pub data Access : Type 0 where
  Private : Access
  Loads : (address bytes : ℕ) → Access
  Stores : (address bytes value : ℕ) → Access
  DoesLr : (address : ℕ) → Access
  DoesSc : (address value : ℕ) → Access
  DoesAmo : (address : ℕ) (op : AmoOp) (operand : ℕ) → Access
  Fences : Access
  Calls : (number argument : ℕ) → Access

-- the number that an access writes to memory, given the number that it reads (for a store conditional, where it succeeds)
abbrev pub value_written : Access → ℕ → Option ℕ
value_written Private read = None
value_written (Loads address bytes) read = None
value_written (Stores address bytes value) read = Some value
value_written (DoesLr address) read = None
value_written (DoesSc address value) read = Some value
value_written (DoesAmo address op operand) read = Some (combined op read operand)
value_written Fences read = None
value_written (Calls number argument) read = None

-- the address that a jump or a taken branch goes to; JALR clears bit 0
abbrev pub target_of : Instr → ℕ → List ℕ → Option ℕ
target_of (Upper op rd imm) pc x = None
target_of (Jal rd offset) pc x = Some (sum32 pc offset)
target_of (Jalr rd rs1 offset) pc x = let sum = sum32 (slice_index x rs1) offset in Some (sum - sum % 2)
target_of (Branch op rs1 rs2 offset) pc x = if is_taken op (slice_index x rs1) (slice_index x rs2) then Some (sum32 pc offset) else None
target_of (Load op rd rs1 offset) pc x = None
target_of (Store op rs1 rs2 offset) pc x = None
target_of (Immediate op rd rs1 imm) pc x = None
target_of (Shift op rd rs1 amount) pc x = None
target_of (Register op rd rs1 rs2) pc x = None
target_of (Fence sets) pc x = None
target_of FenceTso pc x = None
target_of (System op) pc x = None
target_of (Lr rd rs1 bits) pc x = None
target_of (Sc rd rs1 rs2 bits) pc x = None
target_of (Amo op rd rs1 rs2 bits) pc x = None

-- the pc after an instruction
abbrev pub next_of : Instr → ℕ → List ℕ → ℕ
next_of i pc x = elim (target_of i pc x) [ Some target ↦ target | None ↦ sum32 pc 4 ]

-- the register that an instruction names as its destination, with what it writes there; `read` is the number read from memory, for a store conditional 0 where it succeeds and 1 where it fails
abbrev pub written_of : Instr → ℕ → List ℕ → ℕ → Option (ℕ × ℕ)
written_of (Upper Lui rd imm) pc x read = Some (rd, imm)
written_of (Upper Auipc rd imm) pc x read = Some (rd, sum32 pc imm)
written_of (Jal rd offset) pc x read = Some (rd, sum32 pc 4)
written_of (Jalr rd rs1 offset) pc x read = Some (rd, sum32 pc 4)
written_of (Branch op rs1 rs2 offset) pc x read = None
written_of (Load op rd rs1 offset) pc x read = Some (rd, loaded op read)
written_of (Store op rs1 rs2 offset) pc x read = None
written_of (Immediate op rd rs1 imm) pc x read = Some (rd, computed_immediate op (slice_index x rs1) imm)
written_of (Shift op rd rs1 amount) pc x read = Some (rd, shifted op (slice_index x rs1) amount)
written_of (Register op rd rs1 rs2) pc x read = Some (rd, computed op (slice_index x rs1) (slice_index x rs2))
written_of (Fence sets) pc x read = None
written_of FenceTso pc x read = None
written_of (System op) pc x read = None
written_of (Lr rd rs1 bits) pc x read = Some (rd, read)
written_of (Sc rd rs1 rs2 bits) pc x read = Some (rd, read)
written_of (Amo op rd rs1 rs2 bits) pc x read = Some (rd, read)

-- the access; an environment call has its number in x17 and its argument in x10
abbrev pub access_of : Instr → List ℕ → Access
access_of (Upper op rd imm) x = Private
access_of (Jal rd offset) x = Private
access_of (Jalr rd rs1 offset) x = Private
access_of (Branch op rs1 rs2 offset) x = Private
access_of (Load op rd rs1 offset) x = Loads (sum32 (slice_index x rs1) offset) (bytes_loaded op)
access_of (Store op rs1 rs2 offset) x = Stores (sum32 (slice_index x rs1) offset) (bytes_stored op) (slice_index x rs2 % 2 ^ (8 * bytes_stored op))
access_of (Immediate op rd rs1 imm) x = Private
access_of (Shift op rd rs1 amount) x = Private
access_of (Register op rd rs1 rs2) x = Private
access_of (Fence sets) x = Fences
access_of FenceTso x = Fences
access_of (System Ecall) x = Calls (slice_index x 17) (slice_index x 10)
access_of (System Ebreak) x = Private
access_of (Lr rd rs1 bits) x = DoesLr (slice_index x rs1)
access_of (Sc rd rs1 rs2 bits) x = DoesSc (slice_index x rs1) (slice_index x rs2)
access_of (Amo op rd rs1 rs2 bits) x = DoesAmo (slice_index x rs1) op (slice_index x rs2)

-- memory has `size` bytes from 0x80000000 on
abbrev pub is_outside : (size address bytes : ℕ) → Bool
is_outside size address bytes = nat_lt address BASE || nat_lt (BASE + size) (address + bytes)

-- the first code where the address isn't a multiple of the bytes, else the second where a byte is outside memory
abbrev pub access_stop : (misaligned outside size address bytes : ℕ) → Option ℕ
access_stop misaligned outside size address bytes =
    if address % bytes == 0 then (if is_outside size address bytes then Some outside else None) else Some misaligned

abbrev pub stop_of_access : Access → ℕ → Option ℕ
stop_of_access Private size = None
stop_of_access (Loads address bytes) size = access_stop 4 5 size address bytes
stop_of_access (Stores address bytes value) size = access_stop 6 7 size address bytes
stop_of_access (DoesLr address) size = access_stop 6 7 size address 4
stop_of_access (DoesSc address value) size = access_stop 6 7 size address 4
stop_of_access (DoesAmo address op operand) size = access_stop 6 7 size address 4
stop_of_access Fences size = None
stop_of_access (Calls number argument) size = if nat_lt number 2 then None else Some 8

abbrev pub stop_of_target : Option ℕ → Option ℕ
stop_of_target None = None
stop_of_target (Some target) = if target % 4 == 0 then None else Some 0

-- the code that the hart stops with, if the instruction can't be done: 0 a jump's target isn't a multiple of 4, 3 EBREAK, 4 and 5 a load is misaligned or outside memory, 6 and 7 the same of a store, LR, SC or AMO, 8 an environment call of another number than 0 and 1
abbrev pub stop_of : Instr → ℕ → List ℕ → ℕ → Option ℕ
stop_of (System Ebreak) pc x size = Some 3
stop_of (System Ecall) pc x size = stop_of_access (access_of (System Ecall) x) size
stop_of (Upper op rd imm) pc x size = None
stop_of (Jal rd offset) pc x size = stop_of_target (target_of (Jal rd offset) pc x)
stop_of (Jalr rd rs1 offset) pc x size = stop_of_target (target_of (Jalr rd rs1 offset) pc x)
stop_of (Branch op rs1 rs2 offset) pc x size = stop_of_target (target_of (Branch op rs1 rs2 offset) pc x)
stop_of (Load op rd rs1 offset) pc x size = stop_of_access (access_of (Load op rd rs1 offset) x) size
stop_of (Store op rs1 rs2 offset) pc x size = stop_of_access (access_of (Store op rs1 rs2 offset) x) size
stop_of (Immediate op rd rs1 imm) pc x size = None
stop_of (Shift op rd rs1 amount) pc x size = None
stop_of (Register op rd rs1 rs2) pc x size = None
stop_of (Fence sets) pc x size = None
stop_of FenceTso pc x size = None
stop_of (Lr rd rs1 bits) pc x size = stop_of_access (access_of (Lr rd rs1 bits) x) size
stop_of (Sc rd rs1 rs2 bits) pc x size = stop_of_access (access_of (Sc rd rs1 rs2 bits) x) size
stop_of (Amo op rd rs1 rs2 bits) pc x size = stop_of_access (access_of (Amo op rd rs1 rs2 bits) x) size

-- what an instruction that is done does: the next pc, the register written with its number, and the access
pub record Effect : Type 0 where
  pub next : ℕ
  pub written : Option (ℕ × ℕ)
  pub access : Access

abbrev pub effect_of : Instr → ℕ → List ℕ → ℕ → Effect
effect_of i pc x read = record { next = next_of i pc x; written = written_of i pc x read; access = access_of i x }

-- an instruction stops its hart, or has its effect
pub data Meaning : Type 0 where
  Stops : (code : ℕ) → Meaning
  Does : (effect : Effect) → Meaning

-- the meaning of an instruction, given its pc, the registers, the size of memory, and the number read
abbrev pub meaning : Instr → ℕ → List ℕ → ℕ → ℕ → Meaning
meaning i pc x size read = elim (stop_of i pc x size) [ Some code ↦ Stops code | None ↦ Does (effect_of i pc x read) ]

-- the meaning of a word: one that is no instruction stops with 2
abbrev pub meaning_of_word : ℕ → ℕ → List ℕ → ℕ → ℕ → Meaning
meaning_of_word word pc x size read = elim (decoded word) [ Some i ↦ meaning i pc x size read | None ↦ Stops 2 ]
