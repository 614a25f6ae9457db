-- A hart's registers, as the list of x0 to x31 (RISC-V Unprivileged ISA 20191213, chapter 2.1).
use Rattle.std.specs.Prelude.{ℕ, ◌≡◌, ◌==◌, if◌then◌else◌, List, [], ◌∷◌, Option, Some, None, length, slice_index, slice_set}

-- x0 is 0
pub record AreRegisters (regs : List ℕ) : Type 0 where
  pub count : length regs ≡ 32
  pub x0 : slice_index regs 0 ≡ 0

abbrev pub zero_registers : List ℕ
zero_registers =
    0 ∷ 0 ∷ 0 ∷ 0 ∷ 0 ∷ 0 ∷ 0 ∷ 0 ∷ 0 ∷ 0 ∷ 0 ∷ 0 ∷ 0 ∷ 0 ∷ 0 ∷ 0 ∷ 0 ∷ 0 ∷ 0 ∷ 0 ∷ 0 ∷ 0 ∷ 0 ∷ 0 ∷ 0 ∷ 0 ∷ 0 ∷ 0 ∷ 0 ∷ 0 ∷ 0 ∷ 0 ∷ []

-- the registers after a write; x0 is never written
abbrev pub with_register : List ℕ → ℕ → ℕ → List ℕ
with_register regs register value = if register == 0 then regs else slice_set regs register value

-- the registers after an instruction that may write one
abbrev pub after_write : List ℕ → Option (ℕ × ℕ) → List ℕ
after_write regs None = regs
after_write regs (Some w) = with_register regs w.0 w.1

-- as a hart begins: x10 is its number, x11 the number of harts
abbrev pub reset_registers : ℕ → ℕ → List ℕ
reset_registers hart harts = with_register (with_register zero_registers 10 hart) 11 harts
