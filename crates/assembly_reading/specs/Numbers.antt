-- Numbers that an instruction can hold (RISC-V Unprivileged ISA 20191213, chapter 2.3). A number stands for itself modulo 2^32.
use Rattle.std.specs.Prelude.{ℕ, ◌+◌, ◌-◌, ◌*◌, ◌%◌, ◌^◌, Bool, ◌==◌, ◌&&◌, nat_lt, nat_le, Result, Ok, Err, if◌then◌else◌}
use Rattle.text_words.specs.declared.numbers.Number.{Number}
use Rattle.text_words.specs.declared.numbers.Number.TheVariants.{Word, Wide}
use Rattle.assembly_reading.specs.declared.statement.StatementError.{StatementError}
use Rattle.assembly_reading.specs.declared.statement.StatementError.TheVariants.{OtherArchitecture, OutOfRange}

-- a signed number of so many bits
abbrev pub is_signed : ℕ → ℕ → Bool
is_signed count n = nat_lt ((n + 2 ^ (count - 1)) % 2 ^ 32) (2 ^ count)

-- a number of 12 bits
abbrev pub immediate : Number → Result ℕ StatementError
immediate (Word n) = if is_signed 12 n then Ok n else Err OutOfRange
immediate Wide = Err OtherArchitecture

-- a number of 20 bits, which stands above twelve zeros
abbrev pub upper : Number → Result ℕ StatementError
upper (Word n) = if nat_lt n (2 ^ 20) then Ok (n * 4096) else Err OutOfRange
upper Wide = Err OtherArchitecture

-- how far a shift moves; on RV64 up to 63 places
abbrev pub amount : Number → Result ℕ StatementError
amount (Word n) = if nat_lt n 32 then Ok n else if nat_le 64 n then Err OutOfRange else Err OtherArchitecture
amount Wide = Err OtherArchitecture

-- an even number of 13 bits
abbrev pub branch_offset : Number → Result ℕ StatementError
branch_offset (Word n) = if is_signed 13 n && n % 2 == 0 then Ok n else Err OutOfRange
branch_offset Wide = Err OtherArchitecture

-- an even number of 21 bits
abbrev pub jump_offset : Number → Result ℕ StatementError
jump_offset (Word n) = if is_signed 21 n && n % 2 == 0 then Ok n else Err OutOfRange
jump_offset Wide = Err OtherArchitecture
