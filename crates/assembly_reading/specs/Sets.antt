-- The sets of a FENCE by their letters, i, o, r and w in this order (RISC-V Unprivileged ISA 20191213, chapter 2.7).
use Rattle.std.specs.Prelude.{ℕ, List, [], ◌∷◌, Option}
use Rattle.assembly.specs.Operands.{accesses}
use Rattle.assembly_reading.specs.Tables.{found}

-- these sets by their letters
abbrev pub lettered : List ℕ → List (List ℕ × ℕ)
lettered [] = []
lettered (set ∷ sets) = (accesses set, set) ∷ lettered sets

-- all sets but the empty one, those that most fences have first
abbrev pub letters : List (List ℕ × ℕ)
letters = lettered (3 ∷ 2 ∷ 1 ∷ 15 ∷ 4 ∷ 5 ∷ 6 ∷ 7 ∷ 8 ∷ 9 ∷ 10 ∷ 11 ∷ 12 ∷ 13 ∷ 14 ∷ [])

unfoldable pub set_of : List ℕ → Option ℕ
set_of text = found letters text
