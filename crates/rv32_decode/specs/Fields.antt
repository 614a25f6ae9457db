-- The fields and immediates of a word, a whole number below 2^32 (RISC-V Unprivileged ISA 20191213, chapters 2.2, 2.3, 2.7 and 8).
use Rattle.std.specs.Prelude.{ℕ, ◌+◌, ◌-◌, ◌*◌, ◌/◌, ◌%◌, ◌^◌, Bool, ◌==◌, nat_lt, if◌then◌else◌}
use Rattle.rv32_decode.specs.Fence.{Sets}
use Rattle.rv32_decode.specs.declared.instruction.Annotations.{Annotations}

-- `count` bits of a word, from bit `low` on
abbrev pub bits_of : ℕ → ℕ → ℕ → ℕ
bits_of word low count = word / 2 ^ low % 2 ^ count

abbrev pub opcode_of : ℕ → ℕ
opcode_of word = bits_of word 0 7

abbrev pub rd_of : ℕ → ℕ
rd_of word = bits_of word 7 5

abbrev pub funct3_of : ℕ → ℕ
funct3_of word = bits_of word 12 3

abbrev pub rs1_of : ℕ → ℕ
rs1_of word = bits_of word 15 5

abbrev pub rs2_of : ℕ → ℕ
rs2_of word = bits_of word 20 5

abbrev pub funct7_of : ℕ → ℕ
funct7_of word = bits_of word 25 7

abbrev pub funct5_of : ℕ → ℕ
funct5_of word = bits_of word 27 5

abbrev pub acquire_of : ℕ → Bool
acquire_of word = bits_of word 26 1 == 1

abbrev pub release_of : ℕ → Bool
release_of word = bits_of word 25 1 == 1

abbrev pub annotations_of : ℕ → Annotations
annotations_of word = record { acquire = acquire_of word; release = release_of word }

-- the sets before and after of a FENCE
abbrev pub fences_of : ℕ → Sets
fences_of word = record { before = bits_of word 24 4; after = bits_of word 20 4 }

-- a number of two's complement whose highest bit weighs `sign`, modulo 2^32
abbrev pub extended_by : ℕ → ℕ → ℕ
extended_by sign n = if nat_lt n sign then n else n + (2 ^ 32 - 2 * sign)

abbrev pub imm_i : ℕ → ℕ
imm_i word = extended_by (2 ^ 11) (bits_of word 20 12)

abbrev pub imm_s : ℕ → ℕ
imm_s word = extended_by (2 ^ 11) (bits_of word 25 7 * 2 ^ 5 + bits_of word 7 5)

abbrev pub imm_b : ℕ → ℕ
imm_b word = extended_by (2 ^ 12) (bits_of word 31 1 * 2 ^ 12 + bits_of word 7 1 * 2 ^ 11 + bits_of word 25 6 * 2 ^ 5 + bits_of word 8 4 * 2)

abbrev pub imm_u : ℕ → ℕ
imm_u word = bits_of word 12 20 * 2 ^ 12

abbrev pub imm_j : ℕ → ℕ
imm_j word = extended_by (2 ^ 20) (bits_of word 31 1 * 2 ^ 20 + bits_of word 12 8 * 2 ^ 12 + bits_of word 20 1 * 2 ^ 11 + bits_of word 21 10 * 2)
