-- The two sets of a FENCE (RISC-V Unprivileged ISA 20191213, chapter 2.7).
use Rattle.std.specs.Prelude.{ℕ}

-- four bits each: I 8, O 4, R 2, W 1
pub record Sets : Type 0 where
  pub before : ℕ
  pub after : ℕ
