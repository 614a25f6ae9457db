-- The lines of the columns.
use Rattle.std.specs.Prelude.{ℕ, ◌-◌, ◌==◌, Bool, true, false, not, List, [], ◌∷◌, ◌++◌, length, take, drop, Option, Some, None, Result, Ok, Err, if◌then◌else◌}
use Rattle.rv32_decode.specs.declared.instruction.Instr.{Instr}
use Rattle.rv32_decode.specs.declared.instruction.Instr.TheVariants as instr
use Rattle.rv32_decode.specs.declared.instruction.UpperOp.TheVariants.{Lui, Auipc}
use Rattle.assembly_reading.specs.Reading.{statement_in}
use Rattle.assembly_reading.specs.declared.statement.Statement.{Statement}
use Rattle.assembly_reading.specs.declared.statement.Statement.TheVariants.{One, Two, Branch, Jump, Nothing}
use Rattle.assembly_reading.specs.declared.statement.StatementError.{StatementError}
use Rattle.assembly_reading.specs.declared.statement.StatementError.TheVariants.{OtherArchitecture, OutOfRange, NoInstruction}
use Rattle.litmus_parts.specs.declared.rows.Item.{Item}
use Rattle.litmus_parts.specs.declared.rows.Item.TheVariants.{Label, Instruction}
use Rattle.litmus_parts.specs.declared.stop.Cause.{Cause}
use Rattle.litmus_parts.specs.declared.stop.Cause.TheVariants as causes
use Rattle.litmus_parts.specs.declared.stop.Stop.{Stop}
use Rattle.litmus_parts.specs.declared.stop.Stop.TheVariants.{At}
use Rattle.litmus_parts.specs.Stops.{◌>>=◌}
use Rattle.litmus_parts.specs.declared.code.CodeLine.{CodeLine}
use Rattle.litmus_parts.specs.declared.code.Content.TheVariants as content

-- Nothing but a branch to a label leads elsewhere, and nothing calls; where a test's code stands doesn't show.
abbrev pub is_plain : Instr → Bool
is_plain (instr.Upper Lui rd imm) = true
is_plain (instr.Upper Auipc rd imm) = false
is_plain (instr.Jal rd offset) = false
is_plain (instr.Jalr rd rs1 offset) = false
is_plain (instr.Branch op rs1 rs2 offset) = false
is_plain (instr.Load op rd rs1 offset) = true
is_plain (instr.Store op rs1 rs2 offset) = true
is_plain (instr.Immediate op rd rs1 imm) = true
is_plain (instr.Shift op rd rs1 amount) = true
is_plain (instr.Register op rd rs1 rs2) = true
is_plain (instr.Fence sets) = true
is_plain instr.FenceTso = true
is_plain (instr.System op) = false
is_plain (instr.Lr rd rs1 bits) = true
is_plain (instr.Sc rd rs1 rs2 bits) = true
is_plain (instr.Amo op rd rs1 rs2 bits) = true

abbrev pub is_allowed : Statement → Bool
is_allowed (One i) = is_plain i
is_allowed (Two i j) = true
is_allowed (Branch op rs1 rs2 label) = true
is_allowed (Jump rd label) = rd == 0
is_allowed Nothing = true

-- what the text of an instruction says, if it can stand in a test
abbrev pub judged : Result Statement StatementError → Result Statement Cause
judged (Ok s) = if is_allowed s then Ok s else Err causes.Instruction
judged (Err OtherArchitecture) = Err causes.OtherInstruction
judged (Err OutOfRange) = Err causes.Immediate
judged (Err NoInstruction) = Err causes.Instruction

-- so many bytes from where so many are left
abbrev pub text_at : List ℕ → ℕ → ℕ → List ℕ
text_at bytes left amount = take amount (drop (length bytes - left) bytes)

abbrev pub coded : ℕ → ℕ → Result Statement Cause → Result (List CodeLine) Stop
coded hart left (Ok s) = Ok (record { hart = hart; left = left; content = content.Code s } ∷ [])
coded hart left (Err cause) = Err (At cause left)

-- a label or an instruction is a line, an empty cell is none
unfoldable pub item_lines : List ℕ → Item → Result (List CodeLine) Stop
item_lines bytes (Label hart name left) = Ok (record { hart = hart; left = left; content = content.Label name } ∷ [])
item_lines bytes (Instruction hart left amount) = if amount == 0 then Ok [] else coded hart left (judged (statement_in (text_at bytes left amount)))

abbrev pub listed : Option CodeLine → List CodeLine
listed (Some line) = line ∷ []
listed None = []

abbrev pub before : List CodeLine → Result (List CodeLine) Stop → Result (List CodeLine) Stop
before front (Ok lines) = Ok (front ++ lines)
before front (Err stop) = Err stop

abbrev pub lines_of : List ℕ → List Item → Result (List CodeLine) Stop
lines_of bytes [] = Ok []
lines_of bytes (item ∷ items) = item_lines bytes item >>= λ front. before front (lines_of bytes items)
