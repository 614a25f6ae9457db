-- A column's code: each statement's instructions, and branches with the distance to their label.
use Rattle.std.specs.Prelude.{◌≡◌, ℕ, ◌+◌, ◌-◌, ◌*◌, ◌%◌, ◌^◌, List, [], ◌∷◌, ◌++◌, Option, Some, None, Result, Ok, Err, if◌then◌else◌}
use Rattle.rv32_decode.specs.declared.instruction.BranchOp.{BranchOp}
use Rattle.rv32_decode.specs.declared.instruction.Instr.{Instr}
use Rattle.rv32_decode.specs.declared.instruction.Instr.TheVariants as instr
use Rattle.assembly_reading.specs.Numbers.{is_signed}
use Rattle.assembly_reading.specs.declared.statement.Statement.{Statement}
use Rattle.assembly_reading.specs.declared.statement.Statement.TheVariants.{One, Two, Branch, Jump, Nothing}
use Rattle.litmus_image.specs.Instructions.{plain}
use Rattle.litmus_image.specs.Labels.{width, place_from}
use Rattle.litmus_image.specs.declared.part.Line.{Line}
use Rattle.litmus_image.specs.declared.part.Line.TheVariants.{Label, Code}
use Rattle.litmus_image.specs.declared.part.Cause.{Cause}
use Rattle.litmus_image.specs.declared.part.Cause.TheVariants.{NoLabel, TooFar}
use Rattle.litmus_image.specs.declared.code.CodeError.{CodeError}
use Rattle.litmus_image.specs.declared.code.CodeError.TheVariants.{Fault, NoMemory}

-- how far it is from one instruction to another, in bytes, modulo 2^32
abbrev pub distance : ℕ → ℕ → ℕ
distance from to = (to + (2 ^ 32 - from)) % 2 ^ 32 * 4 % 2 ^ 32

abbrev pub branch : BranchOp → ℕ → ℕ → ℕ → ℕ → Result Instr Cause
branch op rs1 rs2 from to = if is_signed 13 (distance from to) then Ok (instr.Branch op rs1 rs2 (distance from to)) else Err TooFar

abbrev pub jump : ℕ → ℕ → ℕ → Result Instr Cause
jump rd from to = if is_signed 21 (distance from to) then Ok (instr.Jal rd (distance from to)) else Err TooFar

-- a statement of an instruction
abbrev pub one : Result Instr Cause → Result Statement Cause
one (Ok i) = Ok (One i)
one (Err cause) = Err cause

abbrev pub branch_to : BranchOp → ℕ → ℕ → ℕ → Option ℕ → Result Statement Cause
branch_to op rs1 rs2 from (Some to) = one (branch op rs1 rs2 from to)
branch_to op rs1 rs2 from None = Err NoLabel

abbrev pub jump_to : ℕ → ℕ → Option ℕ → Result Statement Cause
jump_to rd from (Some to) = one (jump rd from to)
jump_to rd from None = Err NoLabel

-- what a line says where its label's place is known; `here` instructions stand before it
abbrev pub resolved : List Line → ℕ → Line → Result Statement Cause
resolved lines here (Label name) = Ok Nothing
resolved lines here (Code (One i)) = Ok (One i)
resolved lines here (Code (Two i j)) = Ok (Two i j)
resolved lines here (Code (Branch op rs1 rs2 label)) = branch_to op rs1 rs2 here (place_from 0 lines label)
resolved lines here (Code (Jump rd label)) = jump_to rd here (place_from 0 lines label)
resolved lines here (Code Nothing) = Ok Nothing

-- instructions, and then others; or the first fault
abbrev pub then_code : List Instr → Result (List Instr) (ℕ × Cause) → Result (List Instr) (ℕ × Cause)
then_code front (Ok instrs) = Ok (front ++ instrs)
then_code front (Err fault) = Err fault

abbrev pub line_and : ℕ → Result Statement Cause → Result (List Instr) (ℕ × Cause) → Result (List Instr) (ℕ × Cause)
line_and index (Ok s) rest = then_code (plain s) rest
line_and index (Err cause) rest = Err (index, cause)

-- The code of a column's lines from this one on. `index` lines and `here` instructions stand before them.
abbrev pub code_from : List Line → ℕ → ℕ → List Line → Result (List Instr) (ℕ × Cause)
code_from lines index here [] = Ok []
code_from lines index here (line ∷ rest) = line_and index (resolved lines here line) (code_from lines (index + 1) (here + width line) rest)

-- what an error says of code that has a fault
abbrev pub Stops : CodeError → Result (List Instr) (ℕ × Cause) → Type 0
Stops (Fault line cause) said = said ≡ Err (line, cause)
Stops NoMemory said = Unit {0}

-- What a function has put behind instructions is what is said here, unless memory ran out.
abbrev pub Puts : {T : Type 0} → List Instr → List Instr → Result T CodeError → Result (List Instr) (ℕ × Cause) → Type 0
Puts old new (Ok x) said = then_code old said ≡ Ok new
Puts old new (Err error) said = Stops error said
