-- The word of an instruction (RISC-V Unprivileged ISA 20191213, chapters 2.2, 2.3, 2.7, 8 and 24).
use Rattle.std.specs.Prelude.{ℕ, ◌+◌, ◌*◌, ◌/◌, ◌%◌, ◌^◌, Bool, if◌then◌else◌}
use Rattle.rv32_decode.specs.declared.instruction.Annotations.{Annotations}
use Rattle.rv32_decode.specs.declared.instruction.Instr.{Instr}
use Rattle.rv32_decode.specs.declared.instruction.Instr.TheVariants.{Upper, Jal, Jalr, Branch, Load, Store, Immediate, Shift, Register, Fence, FenceTso, System, Lr, Sc, Amo}
use Rattle.rv32_decode.specs.declared.instruction.UpperOp.{UpperOp}
use Rattle.rv32_decode.specs.declared.instruction.UpperOp.TheVariants.{Lui, Auipc}
use Rattle.rv32_decode.specs.declared.instruction.BranchOp.{BranchOp}
use Rattle.rv32_decode.specs.declared.instruction.BranchOp.TheVariants.{Beq, Bne, Blt, Bge, Bltu, Bgeu}
use Rattle.rv32_decode.specs.declared.instruction.LoadOp.{LoadOp}
use Rattle.rv32_decode.specs.declared.instruction.LoadOp.TheVariants.{Lb, Lh, Lw, Lbu, Lhu}
use Rattle.rv32_decode.specs.declared.instruction.StoreOp.{StoreOp}
use Rattle.rv32_decode.specs.declared.instruction.StoreOp.TheVariants.{Sb, Sh, Sw}
use Rattle.rv32_decode.specs.declared.instruction.ImmediateOp.{ImmediateOp}
use Rattle.rv32_decode.specs.declared.instruction.ImmediateOp.TheVariants.{Addi, Slti, Sltiu, Xori, Ori, Andi}
use Rattle.rv32_decode.specs.declared.instruction.ShiftOp.{ShiftOp}
use Rattle.rv32_decode.specs.declared.instruction.ShiftOp.TheVariants.{Slli, Srli, Srai}
use Rattle.rv32_decode.specs.declared.instruction.RegisterOp.{RegisterOp}
use Rattle.rv32_decode.specs.declared.instruction.RegisterOp.TheVariants.{Add, Sub, Sll, Slt, Sltu, Xor, Srl, Sra, Or, And, Mul, Mulh, Mulhsu, Mulhu, Div, Divu, Rem, Remu}
use Rattle.rv32_decode.specs.declared.instruction.SystemOp.{SystemOp}
use Rattle.rv32_decode.specs.declared.instruction.SystemOp.TheVariants.{Ecall, Ebreak}
use Rattle.rv32_decode.specs.declared.instruction.AmoOp.{AmoOp}
use Rattle.rv32_decode.specs.declared.instruction.AmoOp.TheVariants as amo

-- a word from its fields, `high` being its bits 31 to 20
abbrev pub assembled : (opcode rd funct3 rs1 high : ℕ) → ℕ
assembled opcode rd funct3 rs1 high = opcode + rd * 2 ^ 7 + funct3 * 2 ^ 12 + rs1 * 2 ^ 15 + high * 2 ^ 20

-- `count` bits of an immediate, from bit `low` on
abbrev pub part : ℕ → ℕ → ℕ → ℕ
part n low count = n / 2 ^ low % 2 ^ count

abbrev pub branch_low : ℕ → ℕ
branch_low offset = part offset 1 4 * 2 + part offset 11 1

abbrev pub branch_high : ℕ → ℕ
branch_high offset = part offset 12 1 * 2 ^ 6 + part offset 5 6

abbrev pub jump_high : ℕ → ℕ
jump_high offset = part offset 20 1 * 2 ^ 19 + part offset 1 10 * 2 ^ 9 + part offset 11 1 * 2 ^ 8 + part offset 12 8

abbrev pub bit : Bool → ℕ
bit b = if b then 1 else 0

abbrev pub annotation_bits : Annotations → ℕ
annotation_bits bits = bit bits.acquire * 2 + bit bits.release

abbrev pub upper_opcode : UpperOp → ℕ
upper_opcode Lui = 0x37
upper_opcode Auipc = 0x17

abbrev pub branch_funct3 : BranchOp → ℕ
branch_funct3 Beq = 0
branch_funct3 Bne = 1
branch_funct3 Blt = 4
branch_funct3 Bge = 5
branch_funct3 Bltu = 6
branch_funct3 Bgeu = 7

abbrev pub load_funct3 : LoadOp → ℕ
load_funct3 Lb = 0
load_funct3 Lh = 1
load_funct3 Lw = 2
load_funct3 Lbu = 4
load_funct3 Lhu = 5

abbrev pub store_funct3 : StoreOp → ℕ
store_funct3 Sb = 0
store_funct3 Sh = 1
store_funct3 Sw = 2

abbrev pub immediate_funct3 : ImmediateOp → ℕ
immediate_funct3 Addi = 0
immediate_funct3 Slti = 2
immediate_funct3 Sltiu = 3
immediate_funct3 Xori = 4
immediate_funct3 Ori = 6
immediate_funct3 Andi = 7

abbrev pub shift_funct3 : ShiftOp → ℕ
shift_funct3 Slli = 1
shift_funct3 Srli = 5
shift_funct3 Srai = 5

abbrev pub shift_funct7 : ShiftOp → ℕ
shift_funct7 Slli = 0
shift_funct7 Srli = 0
shift_funct7 Srai = 0x20

abbrev pub register_funct3 : RegisterOp → ℕ
register_funct3 Add = 0
register_funct3 Sub = 0
register_funct3 Sll = 1
register_funct3 Slt = 2
register_funct3 Sltu = 3
register_funct3 Xor = 4
register_funct3 Srl = 5
register_funct3 Sra = 5
register_funct3 Or = 6
register_funct3 And = 7
register_funct3 Mul = 0
register_funct3 Mulh = 1
register_funct3 Mulhsu = 2
register_funct3 Mulhu = 3
register_funct3 Div = 4
register_funct3 Divu = 5
register_funct3 Rem = 6
register_funct3 Remu = 7

abbrev pub register_funct7 : RegisterOp → ℕ
register_funct7 Add = 0
register_funct7 Sub = 0x20
register_funct7 Sll = 0
register_funct7 Slt = 0
register_funct7 Sltu = 0
register_funct7 Xor = 0
register_funct7 Srl = 0
register_funct7 Sra = 0x20
register_funct7 Or = 0
register_funct7 And = 0
register_funct7 Mul = 1
register_funct7 Mulh = 1
register_funct7 Mulhsu = 1
register_funct7 Mulhu = 1
register_funct7 Div = 1
register_funct7 Divu = 1
register_funct7 Rem = 1
register_funct7 Remu = 1

abbrev pub amo_funct5 : AmoOp → ℕ
amo_funct5 amo.Swap = 0x01
amo_funct5 amo.Add = 0x00
amo_funct5 amo.Xor = 0x04
amo_funct5 amo.And = 0x0c
amo_funct5 amo.Or = 0x08
amo_funct5 amo.Min = 0x10
amo_funct5 amo.Max = 0x14
amo_funct5 amo.Minu = 0x18
amo_funct5 amo.Maxu = 0x1c

abbrev pub system_word : SystemOp → ℕ
system_word Ecall = 0x00000073
system_word Ebreak = 0x00100073

-- the word of an instruction; a FENCE has zeros for rd and rs1, and the mode (bits 31 to 28) 8 where it is FENCE.TSO, else 0
abbrev pub encoded : Instr → ℕ
encoded (Upper op rd imm) = upper_opcode op + rd * 2 ^ 7 + imm
encoded (Jal rd offset) = 0x6f + rd * 2 ^ 7 + jump_high offset * 2 ^ 12
encoded (Jalr rd rs1 offset) = assembled 0x67 rd 0 rs1 (part offset 0 12)
encoded (Branch op rs1 rs2 offset) = assembled 0x63 (branch_low offset) (branch_funct3 op) rs1 (rs2 + branch_high offset * 2 ^ 5)
encoded (Load op rd rs1 offset) = assembled 0x03 rd (load_funct3 op) rs1 (part offset 0 12)
encoded (Store op rs1 rs2 offset) = assembled 0x23 (part offset 0 5) (store_funct3 op) rs1 (rs2 + part offset 5 7 * 2 ^ 5)
encoded (Immediate op rd rs1 imm) = assembled 0x13 rd (immediate_funct3 op) rs1 (part imm 0 12)
encoded (Shift op rd rs1 amount) = assembled 0x13 rd (shift_funct3 op) rs1 (amount + shift_funct7 op * 2 ^ 5)
encoded (Register op rd rs1 rs2) = assembled 0x33 rd (register_funct3 op) rs1 (rs2 + register_funct7 op * 2 ^ 5)
encoded (Fence sets) = assembled 0x0f 0 0 0 (sets.before * 2 ^ 4 + sets.after)
encoded FenceTso = assembled 0x0f 0 0 0 0x833
encoded (System op) = system_word op
encoded (Lr rd rs1 bits) = assembled 0x2f rd 2 rs1 (annotation_bits bits * 2 ^ 5 + 0x02 * 2 ^ 7)
encoded (Sc rd rs1 rs2 bits) = assembled 0x2f rd 2 rs1 (rs2 + annotation_bits bits * 2 ^ 5 + 0x03 * 2 ^ 7)
encoded (Amo op rd rs1 rs2 bits) = assembled 0x2f rd 2 rs1 (rs2 + annotation_bits bits * 2 ^ 5 + amo_funct5 op * 2 ^ 7)
