-- The instructions that a test's own are surrounded by.
use Rattle.std.specs.Prelude.{ℕ, ◌+◌, List, [], ◌∷◌, ◌++◌}
use Rattle.rv32_decode.specs.declared.instruction.Instr.{Instr}
use Rattle.rv32_decode.specs.declared.instruction.Instr.TheVariants as instr
use Rattle.rv32_decode.specs.declared.instruction.ImmediateOp.TheVariants.{Addi}
use Rattle.rv32_decode.specs.declared.instruction.SystemOp.TheVariants.{Ecall}
use Rattle.assembly_reading.specs.declared.statement.Statement.{Statement}
use Rattle.assembly_reading.specs.declared.statement.Statement.TheVariants.{One, Two, Branch, Jump, Nothing}

-- addi rd, rs1, n
abbrev pub add : ℕ → ℕ → ℕ → Instr
add rd rs1 n = instr.Immediate Addi rd rs1 n

abbrev pub call : Instr
call = instr.System Ecall

-- the instructions of a statement that needs no label
abbrev pub plain : Statement → List Instr
plain (One i) = i ∷ []
plain (Two i j) = i ∷ j ∷ []
plain (Branch op rs1 rs2 label) = []
plain (Jump rd label) = []
plain Nothing = []

-- the instructions of each item, which are numbered from this number on
abbrev pub each_from : {A : Type 0} → (ℕ → A → List Instr) → ℕ → List A → List Instr
each_from item n [] = []
each_from item n (x ∷ xs) = item n x ++ each_from item (n + 1) xs
