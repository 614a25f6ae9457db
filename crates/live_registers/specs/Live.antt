-- Which registers an instruction may still read when a hart stands before it, as a number in binary: digit r is register r's. x0 has no digit; digit 0 is the reservation's, which an SC asks for (RISC-V Unprivileged ISA 20191213, chapters 2, 7 and 8).
use Rattle.std.specs.Prelude.{ℕ, suc, zero, ◌+◌, ◌-◌, ◌*◌, ◌/◌, ◌%◌, ◌^◌, Bool, true, ◌&&◌, ◌==◌, if◌then◌else◌, List, length, Option, Some, None, bit_and, bit_or, slice_index, slice_set, replicate}
use Rattle.std.specs.Int.{bit_at, bit_not, w32}
use Rattle.rv32_exec.specs.Image.{Initial, word_at}
use Rattle.rv32_exec.specs.Size.{base}
use Rattle.rv32_decode.specs.Rows.{decoded}
use Rattle.rv32_decode.specs.declared.instruction.Instr.{Instr}
use Rattle.rv32_decode.specs.declared.instruction.Instr.TheVariants.{Upper, Jal, Jalr, Branch, Load, Store, Immediate, Shift, Register, Fence, FenceTso, System, Lr, Sc, Amo}
use Rattle.rv32_decode.specs.declared.instruction.SystemOp.TheVariants.{Ecall, Ebreak}
use Rattle.rv32_exec.specs.Arithmetic.{sum32}
use Rattle.rv32_exec.specs.Registers.{with_register}

-- ---- an instruction

abbrev pub one : ℕ → ℕ
one register = if register == 0 then 0 else 1 * 2 ^ register % 2 ^ 32

abbrev pub two : ℕ → ℕ → ℕ
two r s = bit_or (one r) (one s)

-- what an instruction reads; an environment call has its number in x17 and its argument in x10
abbrev pub reads : Instr → ℕ
reads (Upper op rd imm) = 0
reads (Jal rd offset) = 0
reads (Jalr rd rs1 offset) = one rs1
reads (Branch op rs1 rs2 offset) = two rs1 rs2
reads (Load op rd rs1 offset) = one rs1
reads (Store op rs1 rs2 offset) = two rs1 rs2
reads (Immediate op rd rs1 imm) = one rs1
reads (Shift op rd rs1 amount) = one rs1
reads (Register op rd rs1 rs2) = two rs1 rs2
reads (Fence sets) = 0
reads FenceTso = 0
reads (System Ecall) = two 10 17
reads (System Ebreak) = 0
reads (Lr rd rs1 bits) = one rs1
reads (Sc rd rs1 rs2 bits) = bit_or 1 (two rs1 rs2)
reads (Amo op rd rs1 rs2 bits) = two rs1 rs2

-- what it sets, whatever was there: an LR sets the reservation, and an SC ends it
abbrev pub writes : Instr → ℕ
writes (Upper op rd imm) = one rd
writes (Jal rd offset) = one rd
writes (Jalr rd rs1 offset) = one rd
writes (Branch op rs1 rs2 offset) = 0
writes (Load op rd rs1 offset) = one rd
writes (Store op rs1 rs2 offset) = 0
writes (Immediate op rd rs1 imm) = one rd
writes (Shift op rd rs1 amount) = one rd
writes (Register op rd rs1 rs2) = one rd
writes (Fence sets) = 0
writes FenceTso = 0
writes (System op) = 0
writes (Lr rd rs1 bits) = bit_or 1 (one rd)
writes (Sc rd rs1 rs2 bits) = bit_or 1 (one rd)
writes (Amo op rd rs1 rs2 bits) = one rd

-- ---- a table: a number for each word of memory

abbrev pub everything : ℕ
everything = 2 ^ 32 - 1

-- what is live at a pc, by the table: everything where the pc is no multiple of 4; else what its word has, below memory what the first word has, and behind memory nothing
abbrev pub live_in : List ℕ → ℕ → ℕ
live_in table pc = if pc % 4 == 0 then slice_index table ((pc - base) / 4) else everything

-- what is live behind an instruction, wherever it leads; JALR may lead anywhere, and EBREAK leads nowhere
abbrev pub behind : List ℕ → ℕ → Instr → ℕ
behind table pc (Jal rd offset) = live_in table (sum32 pc offset)
behind table pc (Jalr rd rs1 offset) = everything
behind table pc (Branch op rs1 rs2 offset) = bit_or (live_in table (sum32 pc 4)) (live_in table (sum32 pc offset))
behind table pc _ = live_in table (sum32 pc 4)

-- what it reads is live before it, and what is live behind it and isn't set
abbrev pub before : List ℕ → ℕ → Instr → ℕ
before table pc i = bit_or (reads i) (bit_and (behind table pc i) (bit_not w32 (writes i)))

-- a word that is no instruction reads nothing
abbrev pub before_word : List ℕ → ℕ → Option Instr → ℕ
before_word table pc None = 0
before_word table pc (Some i) = before table pc i

abbrev pub needed : Initial → List ℕ → ℕ → ℕ
needed image table place = let pc = base + 4 * place in before_word table pc (decoded (word_at image pc))

-- of as many words the last first, each with what is known by then
unfoldable pub swept : Initial → ℕ → List ℕ → List ℕ
swept image zero table = table
swept image (suc place) table = swept image place (slice_set table place (needed image table place))

-- each of as many words has what it needs
unfoldable pub is_closed : Initial → List ℕ → ℕ → Bool
is_closed image table zero = true
is_closed image table (suc place) = slice_index table place == needed image table place && is_closed image table place

-- sweeps until nothing changes; past so many everything is live
unfoldable pub closed_within : ℕ → Initial → List ℕ → List ℕ
closed_within zero image table = replicate (length table) everything
closed_within (suc n) image table = if is_closed image table (length table) then table else closed_within n image (swept image (length table) table)

abbrev pub live_table : Initial → List ℕ
live_table image = closed_within 64 image (replicate (length image.bytes / 4) 0)

-- ---- what it is for

abbrev pub live_at : Initial → ℕ → ℕ
live_at image pc = live_in (live_table image) pc

abbrev pub is_live : ℕ → ℕ → Bool
is_live mask r = bit_at mask r == 1

-- of so many registers those that aren't live are 0
unfoldable pub cleared : ℕ → ℕ → List ℕ → List ℕ
cleared mask zero regs = regs
cleared mask (suc r) regs = let rest = cleared mask r regs in if is_live mask r then rest else with_register rest r 0

abbrev pub live_alone : ℕ → List ℕ → List ℕ
live_alone mask regs = cleared mask 32 regs
