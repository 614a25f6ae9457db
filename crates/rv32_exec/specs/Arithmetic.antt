-- What instructions compute from whole numbers below 2^32 (RISC-V Unprivileged ISA 20191213, chapters 2.4, 2.5, 2.6 and 7).
use Rattle.std.specs.Prelude.{ℕ, ◌+◌, ◌-◌, ◌*◌, ◌/◌, ◌%◌, ◌^◌, Bool, not, ◌==◌, nat_lt, if◌then◌else◌, bit_and, bit_or, bit_xor, pos, ◌*ℤ◌, int_lt, int_div, int_rem}
use Rattle.rv32_decode.specs.Encoding.{bit}
use Rattle.rv32_decode.specs.Fields.{extended_by}
use Rattle.rv32_decode.specs.Numbers.{signed, modulo, floored}
use Rattle.rv32_decode.specs.declared.instruction.BranchOp.{BranchOp}
use Rattle.rv32_decode.specs.declared.instruction.BranchOp.TheVariants.{Beq, Bne, Blt, Bge, Bltu, Bgeu}
use Rattle.rv32_decode.specs.declared.instruction.LoadOp.{LoadOp}
use Rattle.rv32_decode.specs.declared.instruction.LoadOp.TheVariants.{Lb, Lh, Lw, Lbu, Lhu}
use Rattle.rv32_decode.specs.declared.instruction.StoreOp.{StoreOp}
use Rattle.rv32_decode.specs.declared.instruction.StoreOp.TheVariants.{Sb, Sh, Sw}
use Rattle.rv32_decode.specs.declared.instruction.ImmediateOp.{ImmediateOp}
use Rattle.rv32_decode.specs.declared.instruction.ImmediateOp.TheVariants.{Addi, Slti, Sltiu, Xori, Ori, Andi}
use Rattle.rv32_decode.specs.declared.instruction.ShiftOp.{ShiftOp}
use Rattle.rv32_decode.specs.declared.instruction.ShiftOp.TheVariants.{Slli, Srli, Srai}
use Rattle.rv32_decode.specs.declared.instruction.RegisterOp.{RegisterOp}
use Rattle.rv32_decode.specs.declared.instruction.RegisterOp.TheVariants.{Add, Sub, Sll, Slt, Sltu, Xor, Srl, Sra, Or, And, Mul, Mulh, Mulhsu, Mulhu, Div, Divu, Rem, Remu}

abbrev pub sum32 : ℕ → ℕ → ℕ
sum32 a b = (a + b) % 2 ^ 32

abbrev pub difference32 : ℕ → ℕ → ℕ
difference32 a b = (a + (2 ^ 32 - b)) % 2 ^ 32

-- shifts to the left, to the right with zeros, and to the right with the sign
abbrev pub shifted_left : ℕ → ℕ → ℕ
shifted_left a amount = a * 2 ^ amount % 2 ^ 32

abbrev pub shifted_right : ℕ → ℕ → ℕ
shifted_right a amount = a / 2 ^ amount

abbrev pub shifted_signed : ℕ → ℕ → ℕ
shifted_signed a amount = modulo 32 (floored amount (signed a))

-- what an instruction on two registers writes; shifts use the low five bits of b; division rounds toward zero; division by zero gives all ones, and its remainder the dividend
abbrev pub computed : RegisterOp → ℕ → ℕ → ℕ
computed Add a b = sum32 a b
computed Sub a b = difference32 a b
computed Sll a b = shifted_left a (b % 32)
computed Slt a b = bit (int_lt (signed a) (signed b))
computed Sltu a b = bit (nat_lt a b)
computed Xor a b = bit_xor a b
computed Srl a b = shifted_right a (b % 32)
computed Sra a b = shifted_signed a (b % 32)
computed Or a b = bit_or a b
computed And a b = bit_and a b
computed Mul a b = a * b % 2 ^ 32
computed Mulh a b = modulo 64 (signed a *ℤ signed b) / 2 ^ 32
computed Mulhsu a b = modulo 64 (signed a *ℤ pos b) / 2 ^ 32
computed Mulhu a b = a * b / 2 ^ 32
computed Div a b = if b == 0 then 2 ^ 32 - 1 else modulo 32 (int_div (signed a) (signed b))
computed Divu a b = if b == 0 then 2 ^ 32 - 1 else a / b
computed Rem a b = if b == 0 then a else modulo 32 (int_rem (signed a) (signed b))
computed Remu a b = if b == 0 then a else a % b

-- the same with an immediate, which is sign-extended
abbrev pub computed_immediate : ImmediateOp → ℕ → ℕ → ℕ
computed_immediate Addi a imm = sum32 a imm
computed_immediate Slti a imm = bit (int_lt (signed a) (signed imm))
computed_immediate Sltiu a imm = bit (nat_lt a imm)
computed_immediate Xori a imm = bit_xor a imm
computed_immediate Ori a imm = bit_or a imm
computed_immediate Andi a imm = bit_and a imm

abbrev pub shifted : ShiftOp → ℕ → ℕ → ℕ
shifted Slli a amount = shifted_left a amount
shifted Srli a amount = shifted_right a amount
shifted Srai a amount = shifted_signed a amount

-- whether a branch is taken
abbrev pub is_taken : BranchOp → ℕ → ℕ → Bool
is_taken Beq a b = a == b
is_taken Bne a b = not (a == b)
is_taken Blt a b = int_lt (signed a) (signed b)
is_taken Bge a b = not (int_lt (signed a) (signed b))
is_taken Bltu a b = nat_lt a b
is_taken Bgeu a b = not (nat_lt a b)

-- how many bytes a load reads, and what it writes of the number read, its sign extended or not
abbrev pub bytes_loaded : LoadOp → ℕ
bytes_loaded Lb = 1
bytes_loaded Lh = 2
bytes_loaded Lw = 4
bytes_loaded Lbu = 1
bytes_loaded Lhu = 2

abbrev pub loaded : LoadOp → ℕ → ℕ
loaded Lb value = extended_by (2 ^ 7) (value % 2 ^ 8)
loaded Lh value = extended_by (2 ^ 15) (value % 2 ^ 16)
loaded Lw value = value
loaded Lbu value = value % 2 ^ 8
loaded Lhu value = value % 2 ^ 16

-- how many bytes a store writes; they are the register's low ones
abbrev pub bytes_stored : StoreOp → ℕ
bytes_stored Sb = 1
bytes_stored Sh = 2
bytes_stored Sw = 4
