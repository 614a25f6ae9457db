-- What is spelled is read again.
use Rattle.std.specs.Prelude.{◌≡◌, ◌<◌, ◌^◌, None, Ok}
use Rattle.rv32_decode.specs.Ranges.{IsSigned, IsMultiple}
use Rattle.rv32_decode.specs.declared.instruction.Instr.{Instr}
use Rattle.rv32_decode.specs.declared.instruction.Instr.TheVariants.{Upper, Jal, Jalr, Branch, Load, Store, Immediate, Shift, Register, Fence, FenceTso, System, Lr, Sc, Amo}
use Rattle.assembly.specs.Assembly.{assembly}
use Rattle.assembly_reading.specs.Reading.{statement_in}
use Rattle.assembly_reading.specs.declared.statement.Statement.TheVariants.{One}

-- what an instruction's format can encode
abbrev pub IsInstruction : Instr → Type 0
IsInstruction (Upper op rd imm) = (rd < 32) × (imm < 2 ^ 32) × IsMultiple 4096 imm
IsInstruction (Jal rd offset) = (rd < 32) × (offset < 2 ^ 32) × IsSigned 21 offset × IsMultiple 2 offset
IsInstruction (Jalr rd rs1 offset) = (rd < 32) × (rs1 < 32) × (offset < 2 ^ 32) × IsSigned 12 offset
IsInstruction (Branch op rs1 rs2 offset) = (rs1 < 32) × (rs2 < 32) × (offset < 2 ^ 32) × IsSigned 13 offset × IsMultiple 2 offset
IsInstruction (Load op rd rs1 offset) = (rd < 32) × (rs1 < 32) × (offset < 2 ^ 32) × IsSigned 12 offset
IsInstruction (Store op rs1 rs2 offset) = (rs1 < 32) × (rs2 < 32) × (offset < 2 ^ 32) × IsSigned 12 offset
IsInstruction (Immediate op rd rs1 imm) = (rd < 32) × (rs1 < 32) × (imm < 2 ^ 32) × IsSigned 12 imm
IsInstruction (Shift op rd rs1 amount) = (rd < 32) × (rs1 < 32) × (amount < 32)
IsInstruction (Register op rd rs1 rs2) = (rd < 32) × (rs1 < 32) × (rs2 < 32)
IsInstruction (Fence sets) = (sets.before < 16) × (sets.after < 16)
IsInstruction FenceTso = Unit {0}
IsInstruction (System op) = Unit {0}
IsInstruction (Lr rd rs1 bits) = (rd < 32) × (rs1 < 32)
IsInstruction (Sc rd rs1 rs2 bits) = (rd < 32) × (rs1 < 32) × (rs2 < 32)
IsInstruction (Amo op rd rs1 rs2 bits) = (rd < 32) × (rs1 < 32) × (rs2 < 32)

-- What `assembly` spells of an instruction reads as that instruction; where it leads is spelled as a distance.
abbrev pub ReadsBack : Type 0
ReadsBack = (i : Instr) → IsInstruction i → statement_in (assembly None i) ≡ Ok (One i)
