-- What sets a hart's registers before its code.
use Rattle.std.specs.Prelude.{ℕ, Bool, ◌==◌, ◌||◌, ◌&&◌, not, List, [], if◌then◌else◌}
use Rattle.rv32_decode.specs.declared.instruction.Instr.{Instr}
use Rattle.assembly_reading.specs.Formats.{load_word}
use Rattle.litmus_image.specs.Instructions.{plain, each_from}

-- a register that isn't 0 where a hart's part begins
abbrev pub is_used : ℕ → Bool
is_used r = r == 10 || r == 11 || r == 31

-- sets one register, if it doesn't hold the number already
abbrev pub beginning : ℕ → ℕ → List Instr
beginning r n = if r == 0 || (n == 0 && not (is_used r)) then [] else plain (load_word r n)

-- sets all registers
abbrev pub beginnings : List ℕ → List Instr
beginnings numbers = each_from beginning 0 numbers
