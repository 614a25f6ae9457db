-- Which numbers an immediate can be (RISC-V Unprivileged ISA 20191213, chapter 2.3).
use Rattle.std.specs.Prelude.{ℕ, ◌≡◌, ◌<◌, ◌+◌, ◌-◌, ◌%◌, ◌^◌}

-- n is, modulo 2^32, a number from -2^(count - 1) to 2^(count - 1) - 1
abbrev pub IsSigned : ℕ → ℕ → Type 0
IsSigned count n = (n + 2 ^ (count - 1)) % 2 ^ 32 < 2 ^ count

abbrev pub IsMultiple : ℕ → ℕ → Type 0
IsMultiple size n = n % size ≡ 0
