-- Names of registers (RISC-V Unprivileged ISA 20191213, chapters 2.1 and 25).
use Rattle.std.specs.Prelude.{ℕ, ◌+◌, ◌-◌, ◌==◌, ◌&&◌, nat_le, List, [], ◌∷◌, ◌++◌, Option, Some, None, if◌then◌else◌, codes}
use Rattle.assembly.specs.Operands.{register}
use Rattle.text_fields.specs.Reading.{is_digit}
use Rattle.assembly_reading.specs.Tables.{found}

-- these numbers' names in the calling convention
abbrev pub with_names : List ℕ → List (List ℕ × ℕ)
with_names [] = []
with_names (n ∷ numbers) = (register n, n) ∷ with_names numbers

-- x0 to x31 by their names in the calling convention; x8 has two
abbrev pub names : List (List ℕ × ℕ)
names = with_names (0 ∷ 1 ∷ 2 ∷ 3 ∷ 4 ∷ 5 ∷ 6 ∷ 7 ∷ 8 ∷ 9 ∷ 10 ∷ 11 ∷ 12 ∷ 13 ∷ 14 ∷ 15 ∷ 16 ∷ 17 ∷ 18 ∷ 19 ∷ 20 ∷ 21 ∷ 22 ∷ 23 ∷ 24 ∷ 25 ∷ 26 ∷ 27 ∷ 28 ∷ 29 ∷ 30 ∷ 31 ∷ []) ++ (codes "fp", 8) ∷ []

-- the register of this name
unfoldable pub named : List ℕ → Option ℕ
named word = found names word

-- the number of a register that is named by it, without a leading zero
abbrev pub numbered : List ℕ → Option ℕ
numbered [] = None
numbered (a ∷ []) = if is_digit a then Some (a - 48) else None
numbered (a ∷ b ∷ []) =
    if a == 49 && is_digit b then Some (b - 48 + 10)
    else if a == 50 && is_digit b then Some (b - 48 + 20)
    else if a == 51 && nat_le 48 b && nat_le b 49 then Some (b - 48 + 30)
    else None
numbered (a ∷ b ∷ c ∷ rest) = None

-- the register that a word names
unfoldable pub register_of : List ℕ → Option ℕ
register_of [] = named []
register_of (b ∷ bytes) = if b == 120 then numbered bytes else named (b ∷ bytes)
