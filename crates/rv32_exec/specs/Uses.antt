-- Which registers an instruction reads, and for what, and which it writes, as dependencies count them (RISC-V Unprivileged ISA 20191213, chapters 14.1, "Syntactic Dependencies", and 14.3).
-- x0, FENCE, ECALL and EBREAK take no part.
use Rattle.std.specs.Prelude.{ℕ, Bool, true, false, ◌==◌, if◌then◌else◌, List, [], ◌∷◌, ◌++◌, Option, Some, None}
use Rattle.rv32_decode.specs.declared.instruction.Instr.{Instr}
use Rattle.rv32_decode.specs.declared.instruction.Instr.TheVariants.{Upper, Jal, Jalr, Branch, Load, Store, Immediate, Shift, Register, Fence, FenceTso, System, Lr, Sc, Amo}
use Rattle.rv32_decode.specs.declared.instruction.SystemOp.TheVariants.{Ecall}

-- the registers of an access's address, those of the number that it stores, those read otherwise, and those written
pub record Uses : Type 0 where
  pub address : List ℕ
  pub stored : List ℕ
  pub other : List ℕ
  pub written : List ℕ

-- a register, where there is one
abbrev pub named : ℕ → List ℕ
named register = if register == 0 then [] else (register ∷ [])

abbrev pub uses_of : Instr → Uses
uses_of (Upper op rd imm) = record { address = []; stored = []; other = []; written = named rd }
uses_of (Jal rd offset) = record { address = []; stored = []; other = []; written = named rd }
uses_of (Jalr rd rs1 offset) = record { address = []; stored = []; other = named rs1; written = named rd }
uses_of (Branch op rs1 rs2 offset) = record { address = []; stored = []; other = named rs1 ++ named rs2; written = [] }
uses_of (Load op rd rs1 offset) = record { address = named rs1; stored = []; other = []; written = named rd }
uses_of (Store op rs1 rs2 offset) = record { address = named rs1; stored = named rs2; other = []; written = [] }
uses_of (Immediate op rd rs1 imm) = record { address = []; stored = []; other = named rs1; written = named rd }
uses_of (Shift op rd rs1 amount) = record { address = []; stored = []; other = named rs1; written = named rd }
uses_of (Register op rd rs1 rs2) = record { address = []; stored = []; other = named rs1 ++ named rs2; written = named rd }
uses_of (Fence sets) = record { address = []; stored = []; other = []; written = [] }
uses_of FenceTso = record { address = []; stored = []; other = []; written = [] }
uses_of (System op) = record { address = []; stored = []; other = []; written = [] }
uses_of (Lr rd rs1 bits) = record { address = named rs1; stored = []; other = []; written = named rd }
uses_of (Sc rd rs1 rs2 bits) = record { address = named rs1; stored = named rs2; other = []; written = named rd }
uses_of (Amo op rd rs1 rs2 bits) = record { address = named rs1; stored = named rs2; other = []; written = named rd }

-- conditional branches and JALR: what follows depends on the registers that they read
abbrev pub is_steering : Instr → Bool
is_steering (Branch op rs1 rs2 offset) = true
is_steering (Jalr rd rs1 offset) = true
is_steering _ = false

-- an environment call has its number in x17 and its argument in x10
abbrev pub call_registers : Instr → List ℕ
call_registers (System Ecall) = 17 ∷ 10 ∷ []
call_registers _ = []

-- all registers that the meaning reads: those above, and those of an environment call
abbrev pub read_by : Instr → List ℕ
read_by i = (uses_of i).address ++ (uses_of i).stored ++ (uses_of i).other ++ call_registers i
