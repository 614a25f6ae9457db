-- What an atomic memory operation writes (RISC-V Unprivileged ISA 20191213, chapter 8.4).
use Rattle.std.specs.Prelude.{ℕ, ◌+◌, ◌%◌, ◌^◌, nat_lt, if◌then◌else◌, bit_and, bit_or, bit_xor, int_lt}
use Rattle.rv32_decode.specs.Numbers.{signed}
use Rattle.rv32_decode.specs.declared.instruction.AmoOp.{AmoOp}
use Rattle.rv32_decode.specs.declared.instruction.AmoOp.TheVariants.{Swap, Add, Xor, And, Or, Min, Max, Minu, Maxu}

-- the word written, of the word that stood there and the operand
abbrev pub combined : AmoOp → ℕ → ℕ → ℕ
combined Swap old operand = operand
combined Add old operand = (old + operand) % 2 ^ 32
combined Xor old operand = bit_xor old operand
combined And old operand = bit_and old operand
combined Or old operand = bit_or old operand
combined Min old operand = if int_lt (signed old) (signed operand) then old else operand
combined Max old operand = if int_lt (signed old) (signed operand) then operand else old
combined Minu old operand = if nat_lt old operand then old else operand
combined Maxu old operand = if nat_lt old operand then operand else old
