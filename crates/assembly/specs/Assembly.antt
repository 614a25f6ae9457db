-- An instruction as an assembler writes it: its name, and its operands in their order, the destination first (RISC-V Unprivileged ISA 20191213, chapters 2, 7, 8, 24 and 25).
use Rattle.std.specs.Prelude.{ℕ, List, [], ◌∷◌, ◌++◌, Option, codes, decimal}
use Rattle.rv32_decode.specs.declared.instruction.Instr.{Instr}
use Rattle.rv32_decode.specs.declared.instruction.Instr.TheVariants.{Upper, Jal, Jalr, Branch, Load, Store, Immediate, Shift, Register, Fence, FenceTso, System, Lr, Sc, Amo}
use Rattle.assembly.specs.Operands.{register, signed, address, at, target, upper, accesses, suffix}
use Rattle.assembly.specs.Mnemonics as name

-- operands, a comma and a space between two of them
abbrev pub listed : List (List ℕ) → List ℕ
listed [] = []
listed (x ∷ []) = x
listed (x ∷ y ∷ xs) = x ++ (44 ∷ 32 ∷ listed (y ∷ xs))

-- a name and its operands
abbrev pub line : List ℕ → List (List ℕ) → List ℕ
line mnemonic operands = mnemonic ++ 32 ∷ listed operands

-- the text of an instruction, at this address if it is known
abbrev pub assembly : Option ℕ → Instr → List ℕ
assembly pc (Upper op rd imm) = line (name.upper op) (register rd ∷ upper imm ∷ [])
assembly pc (Jal rd offset) = line (codes "jal") (register rd ∷ target pc offset ∷ [])
assembly pc (Jalr rd rs1 offset) = line (codes "jalr") (register rd ∷ address offset rs1 ∷ [])
assembly pc (Branch op rs1 rs2 offset) = line (name.branch op) (register rs1 ∷ register rs2 ∷ target pc offset ∷ [])
assembly pc (Load op rd rs1 offset) = line (name.load op) (register rd ∷ address offset rs1 ∷ [])
assembly pc (Store op rs1 rs2 offset) = line (name.store op) (register rs2 ∷ address offset rs1 ∷ [])
assembly pc (Immediate op rd rs1 imm) = line (name.immediate op) (register rd ∷ register rs1 ∷ signed imm ∷ [])
assembly pc (Shift op rd rs1 amount) = line (name.shift op) (register rd ∷ register rs1 ∷ decimal amount ∷ [])
assembly pc (Register op rd rs1 rs2) = line (name.register op) (register rd ∷ register rs1 ∷ register rs2 ∷ [])
assembly pc (Fence sets) = line (codes "fence") (accesses sets.before ∷ accesses sets.after ∷ [])
assembly pc FenceTso = codes "fence.tso"
assembly pc (System op) = name.system op
assembly pc (Lr rd rs1 bits) = line (codes "lr.w" ++ suffix bits) (register rd ∷ at rs1 ∷ [])
assembly pc (Sc rd rs1 rs2 bits) = line (codes "sc.w" ++ suffix bits) (register rd ∷ register rs2 ∷ at rs1 ∷ [])
assembly pc (Amo op rd rs1 rs2 bits) = line (name.amo op ++ suffix bits) (register rd ∷ register rs2 ∷ at rs1 ∷ [])
