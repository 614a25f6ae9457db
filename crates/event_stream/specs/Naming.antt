-- How an address is told by a name: <name>, or <name+0x8> of one that lies behind it.
use Rattle.std.specs.Prelude.{ℕ, ◌+◌, ◌%◌, ◌^◌, ◌==◌, if◌then◌else◌, List, [], ◌∷◌, ◌++◌, Option, Some, None, codes, drop}
use Rattle.assembly.specs.Assembly.{assembly}
use Rattle.elf_symbols.specs.Lookups.{Near, nearest}
use Rattle.elf_symbols.specs.Named.{Named}
use Rattle.rv32_decode.specs.declared.instruction.Instr.{Instr}
use Rattle.rv32_decode.specs.declared.instruction.Instr.TheVariants.{Upper, Jal, Jalr, Branch, Load, Store, Immediate, Shift, Register, Fence, FenceTso, System, Lr, Sc, Amo}
use Rattle.text_fields.specs.Fields.{word}

abbrev pub without_zeros : List ℕ → List ℕ
without_zeros [] = []
without_zeros (d ∷ ds) = if d == 48 then without_zeros ds else d ∷ ds

-- a number in hexadecimal without leading zeros: a word's digits stand behind 0x
abbrev pub short_hex : ℕ → List ℕ
short_hex n = without_zeros (drop 2 (word n))

abbrev pub distance : ℕ → List ℕ
distance n = if n == 0 then [] else codes "+0x" ++ short_hex n

-- a name with the distance behind it
abbrev pub symbol : Near → List ℕ
symbol near = near.name ++ distance near.offset

-- an address by itself: by its name, or else its digits
abbrev pub address_by : ℕ → Option Near → List ℕ
address_by a None = word a
address_by a (Some near) = symbol near

abbrev pub address : List Named → ℕ → List ℕ
address names a = address_by a (nearest names a)

abbrev pub place : Near → List ℕ
place near = codes "<" ++ (symbol near ++ codes ">")

-- what stands before an instruction that lies there
abbrev pub place_before : Option Near → List ℕ
place_before None = []
place_before (Some near) = place near ++ 32 ∷ []

-- and behind one that leads there
abbrev pub place_behind : Option Near → List ℕ
place_behind None = []
place_behind (Some near) = 32 ∷ place near

-- where a JAL or a branch at this address leads
abbrev pub target : ℕ → Instr → Option ℕ
target pc (Jal rd offset) = Some ((pc + offset) % 2 ^ 32)
target pc (Branch op rs1 rs2 offset) = Some ((pc + offset) % 2 ^ 32)
target pc (Upper op rd imm) = None
target pc (Jalr rd rs1 offset) = None
target pc (Load op rd rs1 offset) = None
target pc (Store op rs1 rs2 offset) = None
target pc (Immediate op rd rs1 imm) = None
target pc (Shift op rd rs1 amount) = None
target pc (Register op rd rs1 rs2) = None
target pc (Fence sets) = None
target pc FenceTso = None
target pc (System op) = None
target pc (Lr rd rs1 bits) = None
target pc (Sc rd rs1 rs2 bits) = None
target pc (Amo op rd rs1 rs2 bits) = None

abbrev pub target_place : List Named → Option ℕ → List ℕ
target_place names None = []
target_place names (Some address) = place_behind (nearest names address)

-- the instruction as an assembler writes it, with the names of its own address and of where it leads
abbrev pub instruction : List Named → ℕ → Instr → List ℕ
instruction names pc i = place_before (nearest names pc) ++ (assembly (Some pc) i ++ target_place names (target pc i))
