-- The operations by their fields, for the decoder's own functions: `decoded`, and so the contract of `decode`, rests on the rows alone.
use Rattle.std.specs.Prelude.{ℕ, ◌&&◌, ◌==◌, if◌then◌else◌, Option, Some, None}
use Rattle.std.specs.Option.{option_map, option_or}
use Rattle.rv32_decode.specs.Fields.{rd_of, rs1_of, rs2_of, funct3_of, funct5_of, funct7_of, imm_i, imm_s, imm_b, annotations_of, fences_of}
use Rattle.rv32_decode.specs.Rows.{is_tso}
use Rattle.rv32_decode.specs.declared.instruction.Instr.{Instr}
use Rattle.rv32_decode.specs.declared.instruction.Instr.TheVariants as instr
use Rattle.rv32_decode.specs.declared.instruction.SystemOp.TheVariants as system
use Rattle.rv32_decode.specs.declared.instruction.BranchOp.{BranchOp}
use Rattle.rv32_decode.specs.declared.instruction.BranchOp.TheVariants.{Beq, Bne, Blt, Bge, Bltu, Bgeu}
use Rattle.rv32_decode.specs.declared.instruction.LoadOp.{LoadOp}
use Rattle.rv32_decode.specs.declared.instruction.LoadOp.TheVariants.{Lb, Lh, Lw, Lbu, Lhu}
use Rattle.rv32_decode.specs.declared.instruction.StoreOp.{StoreOp}
use Rattle.rv32_decode.specs.declared.instruction.StoreOp.TheVariants.{Sb, Sh, Sw}
use Rattle.rv32_decode.specs.declared.instruction.ImmediateOp.{ImmediateOp}
use Rattle.rv32_decode.specs.declared.instruction.ImmediateOp.TheVariants.{Addi, Slti, Sltiu, Xori, Ori, Andi}
use Rattle.rv32_decode.specs.declared.instruction.ShiftOp.{ShiftOp}
use Rattle.rv32_decode.specs.declared.instruction.ShiftOp.TheVariants.{Slli, Srli, Srai}
use Rattle.rv32_decode.specs.declared.instruction.RegisterOp.{RegisterOp}
use Rattle.rv32_decode.specs.declared.instruction.RegisterOp.TheVariants.{Add, Sub, Sll, Slt, Sltu, Xor, Srl, Sra, Or, And, Mul, Mulh, Mulhsu, Mulhu, Div, Divu, Rem, Remu}
use Rattle.rv32_decode.specs.declared.instruction.AmoOp.{AmoOp}
use Rattle.rv32_decode.specs.declared.instruction.AmoOp.TheVariants as amo

abbrev pub branch_of : ℕ → Option BranchOp
branch_of f = if f == 0 then Some Beq else (if f == 1 then Some Bne else (if f == 4 then Some Blt else (if f == 5 then Some Bge else (if f == 6 then Some Bltu else (if f == 7 then Some Bgeu else None)))))

abbrev pub load_of : ℕ → Option LoadOp
load_of f = if f == 0 then Some Lb else (if f == 1 then Some Lh else (if f == 2 then Some Lw else (if f == 4 then Some Lbu else (if f == 5 then Some Lhu else None))))

abbrev pub store_of : ℕ → Option StoreOp
store_of f = if f == 0 then Some Sb else (if f == 1 then Some Sh else (if f == 2 then Some Sw else None))

abbrev pub immediate_of : ℕ → Option ImmediateOp
immediate_of f = if f == 0 then Some Addi else (if f == 2 then Some Slti else (if f == 3 then Some Sltiu else (if f == 4 then Some Xori else (if f == 6 then Some Ori else (if f == 7 then Some Andi else None)))))

-- by funct3 and funct7
abbrev pub shift_of : ℕ → ℕ → Option ShiftOp
shift_of f g = if f == 1 then (if g == 0 then Some Slli else None) else (if f == 5 then (if g == 0 then Some Srli else (if g == 0x20 then Some Srai else None)) else None)

-- the operations of funct7 0 and 1, and of 0, 0x20 and 1
abbrev pub two : ℕ → RegisterOp → RegisterOp → Option RegisterOp
two g base product = if g == 0 then Some base else (if g == 1 then Some product else None)

abbrev pub three : ℕ → RegisterOp → RegisterOp → RegisterOp → Option RegisterOp
three g base other product = if g == 0 then Some base else (if g == 0x20 then Some other else (if g == 1 then Some product else None))

abbrev pub register_of : ℕ → ℕ → Option RegisterOp
register_of f g =
    if f == 0 then three g Add Sub Mul else (if f == 1 then two g Sll Mulh else (if f == 2 then two g Slt Mulhsu
    else (if f == 3 then two g Sltu Mulhu else (if f == 4 then two g Xor Div else (if f == 5 then three g Srl Sra Divu
    else (if f == 6 then two g Or Rem else (if f == 7 then two g And Remu else None)))))))

-- by funct5
abbrev pub amo_of : ℕ → Option AmoOp
amo_of f =
    if f == 0x01 then Some amo.Swap else (if f == 0x00 then Some amo.Add else (if f == 0x04 then Some amo.Xor
    else (if f == 0x0c then Some amo.And else (if f == 0x08 then Some amo.Or else (if f == 0x10 then Some amo.Min
    else (if f == 0x14 then Some amo.Max else (if f == 0x18 then Some amo.Minu else (if f == 0x1c then Some amo.Maxu else None))))))))

-- what a word of each opcode is
abbrev pub branch_at : ℕ → Option Instr
branch_at w = option_map (λ op. instr.Branch op (rs1_of w) (rs2_of w) (imm_b w)) (branch_of (funct3_of w))

abbrev pub load_at : ℕ → Option Instr
load_at w = option_map (λ op. instr.Load op (rd_of w) (rs1_of w) (imm_i w)) (load_of (funct3_of w))

abbrev pub store_at : ℕ → Option Instr
store_at w = option_map (λ op. instr.Store op (rs1_of w) (rs2_of w) (imm_s w)) (store_of (funct3_of w))

abbrev pub shift_at : ℕ → Option Instr
shift_at w = option_map (λ op. instr.Shift op (rd_of w) (rs1_of w) (rs2_of w)) (shift_of (funct3_of w) (funct7_of w))

abbrev pub immediate_at : ℕ → Option Instr
immediate_at w = option_or (option_map (λ op. instr.Immediate op (rd_of w) (rs1_of w) (imm_i w)) (immediate_of (funct3_of w))) (shift_at w)

abbrev pub register_at : ℕ → Option Instr
register_at w = option_map (λ op. instr.Register op (rd_of w) (rs1_of w) (rs2_of w)) (register_of (funct3_of w) (funct7_of w))

abbrev pub jalr_at : ℕ → Option Instr
jalr_at w = if funct3_of w == 0 then Some (instr.Jalr (rd_of w) (rs1_of w) (imm_i w)) else None

abbrev pub fence_at : ℕ → Option Instr
fence_at w = if funct3_of w == 0 then Some (if is_tso w then instr.FenceTso else instr.Fence (fences_of w)) else None

abbrev pub system_at : ℕ → Option Instr
system_at w = if w == 0x73 then Some (instr.System system.Ecall) else (if w == 0x100073 then Some (instr.System system.Ebreak) else None)

abbrev pub store_sc_or_amo_at : ℕ → Option Instr
store_sc_or_amo_at w =
    if funct5_of w == 3 then Some (instr.Sc (rd_of w) (rs1_of w) (rs2_of w) (annotations_of w))
    else option_map (λ op. instr.Amo op (rd_of w) (rs1_of w) (rs2_of w) (annotations_of w)) (amo_of (funct5_of w))

abbrev pub atomic_at : ℕ → Option Instr
atomic_at w =
    if funct3_of w == 2 then (if (funct5_of w == 2) && (rs2_of w == 0) then Some (instr.Lr (rd_of w) (rs1_of w) (annotations_of w)) else store_sc_or_amo_at w)
    else None
