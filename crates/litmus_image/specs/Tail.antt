-- What puts a hart's registers out behind its code: ECALL 1 puts x10 out, ECALL 0 exits; x17 has the call's number.
use Rattle.std.specs.Prelude.{ℕ, ◌+◌, Bool, true, false, ◌==◌, ◌&&◌, not, List, [], ◌∷◌, ◌++◌, drop, slice_index_or, Option, Some, None, if◌then◌else◌}
use Rattle.rv32_decode.specs.declared.instruction.Instr.{Instr}
use Rattle.litmus_image.specs.Instructions.{add, call, each_from}

-- the first register from this one on that isn't asked for
abbrev pub free_from : ℕ → List Bool → Option ℕ
free_from r [] = None
free_from r (asked ∷ rest) = if asked then free_from (r + 1) rest else Some r

-- of x1 to x31
abbrev pub spare : List Bool → Option ℕ
spare asked = free_from 1 (drop 1 asked)

-- Puts x10 and x17 out where they are asked for. A number goes out by x10, so x10 is first, and x17 is kept in `spare` meanwhile.
abbrev pub first : Bool → Bool → ℕ → List Instr
first false false spare = add 17 0 1 ∷ []
first true false spare = add 17 0 1 ∷ call ∷ []
first false true spare = add 10 17 0 ∷ add 17 0 1 ∷ call ∷ []
first true true spare = add spare 17 0 ∷ add 17 0 1 ∷ call ∷ add 10 spare 0 ∷ call ∷ []

abbrev pub is_other : ℕ → Bool
is_other r = not (r == 10) && not (r == 17)

abbrev pub other : ℕ → Bool → List Instr
other r asked = if asked && is_other r then add 10 r 0 ∷ call ∷ [] else []

abbrev pub ending : List Instr
ending = add 10 0 0 ∷ add 17 0 0 ∷ call ∷ []

abbrev pub tail : List Bool → ℕ → List Instr
tail asked spare = first (slice_index_or asked 10 false) (slice_index_or asked 17 false) spare ++ each_from other 0 asked ++ ending
