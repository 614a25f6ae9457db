-- The names of the instructions (RISC-V Unprivileged ISA 20191213, chapter 24, "RV32/64G Instruction Set Listings").
use Rattle.std.specs.Prelude.{ℕ, List, codes}
use Rattle.rv32_decode.specs.declared.instruction.UpperOp.{UpperOp}
use Rattle.rv32_decode.specs.declared.instruction.UpperOp.TheVariants.{Lui, Auipc}
use Rattle.rv32_decode.specs.declared.instruction.BranchOp.{BranchOp}
use Rattle.rv32_decode.specs.declared.instruction.BranchOp.TheVariants.{Beq, Bne, Blt, Bge, Bltu, Bgeu}
use Rattle.rv32_decode.specs.declared.instruction.LoadOp.{LoadOp}
use Rattle.rv32_decode.specs.declared.instruction.LoadOp.TheVariants.{Lb, Lh, Lw, Lbu, Lhu}
use Rattle.rv32_decode.specs.declared.instruction.StoreOp.{StoreOp}
use Rattle.rv32_decode.specs.declared.instruction.StoreOp.TheVariants.{Sb, Sh, Sw}
use Rattle.rv32_decode.specs.declared.instruction.ImmediateOp.{ImmediateOp}
use Rattle.rv32_decode.specs.declared.instruction.ImmediateOp.TheVariants.{Addi, Slti, Sltiu, Xori, Ori, Andi}
use Rattle.rv32_decode.specs.declared.instruction.ShiftOp.{ShiftOp}
use Rattle.rv32_decode.specs.declared.instruction.ShiftOp.TheVariants.{Slli, Srli, Srai}
use Rattle.rv32_decode.specs.declared.instruction.RegisterOp.{RegisterOp}
use Rattle.rv32_decode.specs.declared.instruction.RegisterOp.TheVariants.{Add, Sub, Sll, Slt, Sltu, Xor, Srl, Sra, Or, And, Mul, Mulh, Mulhsu, Mulhu, Div, Divu, Rem, Remu}
use Rattle.rv32_decode.specs.declared.instruction.SystemOp.{SystemOp}
use Rattle.rv32_decode.specs.declared.instruction.SystemOp.TheVariants.{Ecall, Ebreak}
use Rattle.rv32_decode.specs.declared.instruction.AmoOp.{AmoOp}
use Rattle.rv32_decode.specs.declared.instruction.AmoOp.TheVariants as op

abbrev pub upper : UpperOp → List ℕ
upper Lui = codes "lui"
upper Auipc = codes "auipc"

abbrev pub branch : BranchOp → List ℕ
branch Beq = codes "beq"
branch Bne = codes "bne"
branch Blt = codes "blt"
branch Bge = codes "bge"
branch Bltu = codes "bltu"
branch Bgeu = codes "bgeu"

abbrev pub load : LoadOp → List ℕ
load Lb = codes "lb"
load Lh = codes "lh"
load Lw = codes "lw"
load Lbu = codes "lbu"
load Lhu = codes "lhu"

abbrev pub store : StoreOp → List ℕ
store Sb = codes "sb"
store Sh = codes "sh"
store Sw = codes "sw"

abbrev pub immediate : ImmediateOp → List ℕ
immediate Addi = codes "addi"
immediate Slti = codes "slti"
immediate Sltiu = codes "sltiu"
immediate Xori = codes "xori"
immediate Ori = codes "ori"
immediate Andi = codes "andi"

abbrev pub shift : ShiftOp → List ℕ
shift Slli = codes "slli"
shift Srli = codes "srli"
shift Srai = codes "srai"

abbrev pub register : RegisterOp → List ℕ
register Add = codes "add"
register Sub = codes "sub"
register Sll = codes "sll"
register Slt = codes "slt"
register Sltu = codes "sltu"
register Xor = codes "xor"
register Srl = codes "srl"
register Sra = codes "sra"
register Or = codes "or"
register And = codes "and"
register Mul = codes "mul"
register Mulh = codes "mulh"
register Mulhsu = codes "mulhsu"
register Mulhu = codes "mulhu"
register Div = codes "div"
register Divu = codes "divu"
register Rem = codes "rem"
register Remu = codes "remu"

abbrev pub system : SystemOp → List ℕ
system Ecall = codes "ecall"
system Ebreak = codes "ebreak"

abbrev pub amo : AmoOp → List ℕ
amo op.Swap = codes "amoswap.w"
amo op.Add = codes "amoadd.w"
amo op.Xor = codes "amoxor.w"
amo op.And = codes "amoand.w"
amo op.Or = codes "amoor.w"
amo op.Min = codes "amomin.w"
amo op.Max = codes "amomax.w"
amo op.Minu = codes "amominu.w"
amo op.Maxu = codes "amomaxu.w"
