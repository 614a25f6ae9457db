-- How an assembler writes what an instruction works on (RISC-V Unprivileged ISA 20191213, chapters 2.3, 2.7, 8.1 and 25).
use Rattle.std.specs.Prelude.{ℕ, ◌+◌, ◌-◌, ◌/◌, ◌%◌, ◌^◌, Bool, true, false, List, [], ◌∷◌, ◌++◌, Option, Some, None, ◌==◌, nat_lt, slice_index_or, if◌then◌else◌, codes, decimal}
use Rattle.std.specs.Fmt.{digit_glyph}
use Rattle.rv32_decode.specs.Fields.{bits_of}
use Rattle.rv32_decode.specs.declared.instruction.Annotations.{Annotations}
use Rattle.text_fields.specs.Fields.{word}
use Rattle.assembly.specs.declared.operands.Operand.{Operand}
use Rattle.assembly.specs.declared.operands.Operand.TheVariants.{Register, Signed, Amount, Target}

-- the names of x0 to x31 in the calling convention (chapter 25, "RISC-V Assembly Programmer's Handbook")
abbrev pub registers : List (List ℕ)
registers =
    codes "zero" ∷ codes "ra" ∷ codes "sp" ∷ codes "gp" ∷ codes "tp" ∷ codes "t0" ∷ codes "t1" ∷ codes "t2"
    ∷ codes "s0" ∷ codes "s1" ∷ codes "a0" ∷ codes "a1" ∷ codes "a2" ∷ codes "a3" ∷ codes "a4" ∷ codes "a5"
    ∷ codes "a6" ∷ codes "a7" ∷ codes "s2" ∷ codes "s3" ∷ codes "s4" ∷ codes "s5" ∷ codes "s6" ∷ codes "s7"
    ∷ codes "s8" ∷ codes "s9" ∷ codes "s10" ∷ codes "s11" ∷ codes "t3" ∷ codes "t4" ∷ codes "t5" ∷ codes "t6" ∷ []

abbrev pub register : ℕ → List ℕ
register n = slice_index_or registers n []

-- a number modulo 2^32, read as signed, behind its sign where that is -
abbrev pub signed : ℕ → List ℕ
signed n = if nat_lt n (2 ^ 31) then decimal n else 45 ∷ decimal (2 ^ 32 - n)

-- the address that a register has and an offset
abbrev pub address : ℕ → ℕ → List ℕ
address offset r = signed offset ++ (40 ∷ (register r ++ 41 ∷ []))

-- the address that a register has
abbrev pub at : ℕ → List ℕ
at r = 40 ∷ (register r ++ 41 ∷ [])

-- how far from the instruction; an assembler writes `.` for the instruction's own address
abbrev pub distance : ℕ → List ℕ
distance n = if nat_lt n (2 ^ 31) then codes ".+" ++ decimal n else codes ".-" ++ decimal (2 ^ 32 - n)

-- where a jump leads, as an address where the instruction's own address is known
abbrev pub target : Option ℕ → ℕ → List ℕ
target (Some pc) offset = word ((pc + offset) % 2 ^ 32)
target None offset = distance offset

-- the last operand of an instruction that has two or three
abbrev pub text_of : Operand → List ℕ
text_of (Register r) = register r
text_of (Signed n) = signed n
text_of (Amount n) = decimal n
text_of (Target pc offset) = target pc offset

-- the last hexadecimal digit of a number
abbrev pub hex_digit_of : ℕ → ℕ
hex_digit_of n = digit_glyph false (n % 16)

-- bits 31 to 12 of a number, in five hexadecimal digits
abbrev pub upper : ℕ → List ℕ
upper n = codes "0x" ++ hex_digit_of (n / 2 ^ 28) ∷ hex_digit_of (n / 2 ^ 24) ∷ hex_digit_of (n / 2 ^ 20) ∷ hex_digit_of (n / 2 ^ 16) ∷ hex_digit_of (n / 2 ^ 12) ∷ []

-- a letter for a bit that is set
abbrev pub letter : ℕ → ℕ → ℕ → List ℕ
letter set bit code = if bits_of set bit 1 == 1 then code ∷ [] else []

-- a set of accesses: i, o, r and w (chapter 2.7)
abbrev pub accesses : ℕ → List ℕ
accesses set = if set == 0 then codes "0" else letter set 3 105 ++ (letter set 2 111 ++ (letter set 1 114 ++ letter set 0 119))

abbrev pub suffix_by : Bool → Bool → List ℕ
suffix_by false false = []
suffix_by true false = codes ".aq"
suffix_by false true = codes ".rl"
suffix_by true true = codes ".aqrl"

-- the bits aq and rl (chapter 8.1)
abbrev pub suffix : Annotations → List ℕ
suffix bits = suffix_by bits.acquire bits.release
