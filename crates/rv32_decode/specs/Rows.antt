-- The rows of the instruction table, in the order of the manual's listings (RISC-V Unprivileged ISA 20191213, chapter 24: RV32I without FENCE.I and CSR instructions, RV32M, RV32A).
use Rattle.std.specs.Prelude.{ℕ, Bool, ◌&&◌, ◌==◌, if◌then◌else◌, List, [], ◌∷◌, Option, option_map, bit_and, find}
use Rattle.rv32_decode.specs.Fields.{bits_of, rd_of, rs1_of, rs2_of, imm_i, imm_s, imm_b, imm_u, imm_j, annotations_of, fences_of}
use Rattle.rv32_decode.specs.declared.instruction.Instr.{Instr}
use Rattle.rv32_decode.specs.declared.instruction.Instr.TheVariants as instr
use Rattle.rv32_decode.specs.declared.instruction.UpperOp.{UpperOp}
use Rattle.rv32_decode.specs.declared.instruction.UpperOp.TheVariants as upper
use Rattle.rv32_decode.specs.declared.instruction.BranchOp.{BranchOp}
use Rattle.rv32_decode.specs.declared.instruction.BranchOp.TheVariants as branch
use Rattle.rv32_decode.specs.declared.instruction.LoadOp.{LoadOp}
use Rattle.rv32_decode.specs.declared.instruction.LoadOp.TheVariants as load
use Rattle.rv32_decode.specs.declared.instruction.StoreOp.{StoreOp}
use Rattle.rv32_decode.specs.declared.instruction.StoreOp.TheVariants as store
use Rattle.rv32_decode.specs.declared.instruction.ImmediateOp.{ImmediateOp}
use Rattle.rv32_decode.specs.declared.instruction.ImmediateOp.TheVariants as immediate
use Rattle.rv32_decode.specs.declared.instruction.ShiftOp.{ShiftOp}
use Rattle.rv32_decode.specs.declared.instruction.ShiftOp.TheVariants as shift
use Rattle.rv32_decode.specs.declared.instruction.RegisterOp.{RegisterOp}
use Rattle.rv32_decode.specs.declared.instruction.RegisterOp.TheVariants as register
use Rattle.rv32_decode.specs.declared.instruction.SystemOp.{SystemOp}
use Rattle.rv32_decode.specs.declared.instruction.SystemOp.TheVariants as system
use Rattle.rv32_decode.specs.declared.instruction.AmoOp.{AmoOp}
use Rattle.rv32_decode.specs.declared.instruction.AmoOp.TheVariants as amo

-- a row's instruction
pub data Name : Type 0 where
  Upper : UpperOp → Name
  Jal : Name
  Jalr : Name
  Branch : BranchOp → Name
  Load : LoadOp → Name
  Store : StoreOp → Name
  Immediate : ImmediateOp → Name
  Shift : ShiftOp → Name
  Register : RegisterOp → Name
  Fence : Name
  System : SystemOp → Name
  Lr : Name
  Sc : Name
  Amo : AmoOp → Name

-- the words of a row: those whose bits under the mask are the match
pub record Row : Type 0 where
  pub mask : ℕ
  pub match : ℕ
  pub name : Name

abbrev pub row : ℕ → ℕ → Name → Row
row mask bits name = record { mask = mask; match = bits; name = name }

abbrev pub rows : List Row
rows =
    row 0x0000007f 0x00000037 (Upper upper.Lui)
    ∷ row 0x0000007f 0x00000017 (Upper upper.Auipc)
    ∷ row 0x0000007f 0x0000006f Jal
    ∷ row 0x0000707f 0x00000067 Jalr
    ∷ row 0x0000707f 0x00000063 (Branch branch.Beq)
    ∷ row 0x0000707f 0x00001063 (Branch branch.Bne)
    ∷ row 0x0000707f 0x00004063 (Branch branch.Blt)
    ∷ row 0x0000707f 0x00005063 (Branch branch.Bge)
    ∷ row 0x0000707f 0x00006063 (Branch branch.Bltu)
    ∷ row 0x0000707f 0x00007063 (Branch branch.Bgeu)
    ∷ row 0x0000707f 0x00000003 (Load load.Lb)
    ∷ row 0x0000707f 0x00001003 (Load load.Lh)
    ∷ row 0x0000707f 0x00002003 (Load load.Lw)
    ∷ row 0x0000707f 0x00004003 (Load load.Lbu)
    ∷ row 0x0000707f 0x00005003 (Load load.Lhu)
    ∷ row 0x0000707f 0x00000023 (Store store.Sb)
    ∷ row 0x0000707f 0x00001023 (Store store.Sh)
    ∷ row 0x0000707f 0x00002023 (Store store.Sw)
    ∷ row 0x0000707f 0x00000013 (Immediate immediate.Addi)
    ∷ row 0x0000707f 0x00002013 (Immediate immediate.Slti)
    ∷ row 0x0000707f 0x00003013 (Immediate immediate.Sltiu)
    ∷ row 0x0000707f 0x00004013 (Immediate immediate.Xori)
    ∷ row 0x0000707f 0x00006013 (Immediate immediate.Ori)
    ∷ row 0x0000707f 0x00007013 (Immediate immediate.Andi)
    ∷ row 0xfe00707f 0x00001013 (Shift shift.Slli)
    ∷ row 0xfe00707f 0x00005013 (Shift shift.Srli)
    ∷ row 0xfe00707f 0x40005013 (Shift shift.Srai)
    ∷ row 0xfe00707f 0x00000033 (Register register.Add)
    ∷ row 0xfe00707f 0x40000033 (Register register.Sub)
    ∷ row 0xfe00707f 0x00001033 (Register register.Sll)
    ∷ row 0xfe00707f 0x00002033 (Register register.Slt)
    ∷ row 0xfe00707f 0x00003033 (Register register.Sltu)
    ∷ row 0xfe00707f 0x00004033 (Register register.Xor)
    ∷ row 0xfe00707f 0x00005033 (Register register.Srl)
    ∷ row 0xfe00707f 0x40005033 (Register register.Sra)
    ∷ row 0xfe00707f 0x00006033 (Register register.Or)
    ∷ row 0xfe00707f 0x00007033 (Register register.And)
    ∷ row 0x0000707f 0x0000000f Fence
    ∷ row 0xffffffff 0x00000073 (System system.Ecall)
    ∷ row 0xffffffff 0x00100073 (System system.Ebreak)
    ∷ row 0xfe00707f 0x02000033 (Register register.Mul)
    ∷ row 0xfe00707f 0x02001033 (Register register.Mulh)
    ∷ row 0xfe00707f 0x02002033 (Register register.Mulhsu)
    ∷ row 0xfe00707f 0x02003033 (Register register.Mulhu)
    ∷ row 0xfe00707f 0x02004033 (Register register.Div)
    ∷ row 0xfe00707f 0x02005033 (Register register.Divu)
    ∷ row 0xfe00707f 0x02006033 (Register register.Rem)
    ∷ row 0xfe00707f 0x02007033 (Register register.Remu)
    ∷ row 0xf9f0707f 0x1000202f Lr
    ∷ row 0xf800707f 0x1800202f Sc
    ∷ row 0xf800707f 0x0800202f (Amo amo.Swap)
    ∷ row 0xf800707f 0x0000202f (Amo amo.Add)
    ∷ row 0xf800707f 0x2000202f (Amo amo.Xor)
    ∷ row 0xf800707f 0x6000202f (Amo amo.And)
    ∷ row 0xf800707f 0x4000202f (Amo amo.Or)
    ∷ row 0xf800707f 0x8000202f (Amo amo.Min)
    ∷ row 0xf800707f 0xa000202f (Amo amo.Max)
    ∷ row 0xf800707f 0xc000202f (Amo amo.Minu)
    ∷ row 0xf800707f 0xe000202f (Amo amo.Maxu)
    ∷ []

abbrev pub is_in : ℕ → Row → Bool
is_in word r = bit_and word r.mask == r.match

abbrev pub row_of : ℕ → Option Row
row_of word = find (is_in word) rows

-- the name of the row that a word is in, if it is in one
abbrev pub name_of : ℕ → Option Name
name_of word = option_map (λ (r : Row). r.name) (row_of word)

-- FENCE.TSO is the FENCE whose mode (bits 31 to 28) is 8 and whose sets are RW and RW; every other FENCE is a normal one (chapter 2.7)
abbrev pub is_tso : ℕ → Bool
is_tso word = bits_of word 28 4 == 8 && bits_of word 24 4 == 3 && bits_of word 20 4 == 3

-- the instruction of a row at a word, with the fields of its format (chapters 2.2, 2.3 and 8)
abbrev pub instr_of : Name → ℕ → Instr
instr_of (Upper op) word = instr.Upper op (rd_of word) (imm_u word)
instr_of Jal word = instr.Jal (rd_of word) (imm_j word)
instr_of Jalr word = instr.Jalr (rd_of word) (rs1_of word) (imm_i word)
instr_of (Branch op) word = instr.Branch op (rs1_of word) (rs2_of word) (imm_b word)
instr_of (Load op) word = instr.Load op (rd_of word) (rs1_of word) (imm_i word)
instr_of (Store op) word = instr.Store op (rs1_of word) (rs2_of word) (imm_s word)
instr_of (Immediate op) word = instr.Immediate op (rd_of word) (rs1_of word) (imm_i word)
instr_of (Shift op) word = instr.Shift op (rd_of word) (rs1_of word) (rs2_of word)
instr_of (Register op) word = instr.Register op (rd_of word) (rs1_of word) (rs2_of word)
instr_of Fence word = if is_tso word then instr.FenceTso else instr.Fence (fences_of word)
instr_of (System op) word = instr.System op
instr_of Lr word = instr.Lr (rd_of word) (rs1_of word) (annotations_of word)
instr_of Sc word = instr.Sc (rd_of word) (rs1_of word) (rs2_of word) (annotations_of word)
instr_of (Amo op) word = instr.Amo op (rd_of word) (rs1_of word) (rs2_of word) (annotations_of word)

-- the instruction that a word is; a word of no row is none
abbrev pub decoded : ℕ → Option Instr
decoded word = option_map (λ n. instr_of n word) (name_of word)
