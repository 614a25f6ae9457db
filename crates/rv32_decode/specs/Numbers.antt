-- Signed numbers as integers (RISC-V Unprivileged ISA 20191213, chapters 1.3 and 2.1: two's complement).
use Rattle.std.specs.Prelude.{ℕ, ◌-◌, ◌/◌, ◌%◌, ◌^◌, nat_lt, if◌then◌else◌, ℤ, pos, negsuc, ◌-ℤ◌}

-- the integer that a register's number stands for, read as signed
abbrev pub signed : ℕ → ℤ
signed n = if nat_lt n (2 ^ 31) then pos n else pos n -ℤ pos (2 ^ 32)

-- the integer z modulo 2^count; `negsuc n` is -(n + 1)
abbrev pub modulo : ℕ → ℤ → ℕ
modulo count (pos n) = n % 2 ^ count
modulo count (negsuc n) = 2 ^ count - 1 - n % 2 ^ count

-- the integer z divided by 2^count, rounded down
abbrev pub floored : ℕ → ℤ → ℤ
floored count (pos n) = pos (n / 2 ^ count)
floored count (negsuc n) = negsuc (n / 2 ^ count)
