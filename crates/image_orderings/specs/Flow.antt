-- Where a hart may come to, as far as an image's words tell, on whatever way it goes: each branch either way, each call that doesn't certainly exit onward.
use Rattle.std.specs.Prelude.{ℕ, suc, zero, ◌+◌, ◌-◌, ◌*◌, ◌/◌, ◌%◌, Bool, false, true, ◌&&◌, ◌==◌, if◌then◌else◌, List, length, Option, Some, None, replicate, slice_get, slice_set}
use Rattle.elf_loader.specs.Image.{Initial, word_at}
use Rattle.elf_loader.specs.Size.{base}
use Rattle.hart.specs.Arithmetic.{sum32}
use Rattle.image_orderings.specs.declared.knowing.Known.{Known}
use Rattle.image_orderings.specs.declared.knowing.Onward.{Onward}
use Rattle.image_orderings.specs.declared.knowing.Onward.TheVariants.{Anywhere, Either, Nowhere, To}
use Rattle.rv32_decode.specs.Rows.{decoded}
use Rattle.rv32_decode.specs.declared.instruction.Instr.{Instr}
use Rattle.rv32_decode.specs.declared.instruction.Instr.TheVariants.{Upper, Jal, Jalr, Branch, Load, Store, Immediate, Shift, Register, Fence, FenceTso, System, Lr, Sc, Amo}
use Rattle.rv32_decode.specs.declared.instruction.ImmediateOp.{ImmediateOp}
use Rattle.rv32_decode.specs.declared.instruction.ImmediateOp.TheVariants.{Addi}
use Rattle.rv32_decode.specs.declared.instruction.SystemOp.TheVariants.{Ecall, Ebreak}
use Rattle.rv32_decode.specs.declared.instruction.UpperOp.TheVariants.{Lui, Auipc}

-- ---- what is known before an instruction

abbrev pub nothing : Known
nothing = record { link = None; number = None }

-- what a register holds: x0 is 0
abbrev pub held : Known → ℕ → Option ℕ
held known register = if register == 0 then Some 0 else (if register == 1 then known.link else (if register == 17 then known.number else None))

abbrev pub with_held : Known → (register : ℕ) → Option ℕ → Known
with_held known register value =
    if register == 1 then record known { link = value } else (if register == 17 then record known { number = value } else known)

-- the register that an instruction writes; where it writes none, x0
abbrev pub destination : Instr → ℕ
destination (Upper op rd imm) = rd
destination (Jal rd offset) = rd
destination (Jalr rd rs1 offset) = rd
destination (Branch op rs1 rs2 offset) = 0
destination (Load op rd rs1 offset) = rd
destination (Store op rs1 rs2 offset) = 0
destination (Immediate op rd rs1 imm) = rd
destination (Shift op rd rs1 amount) = rd
destination (Register op rd rs1 rs2) = rd
destination (Fence sets) = 0
destination FenceTso = 0
destination (System op) = 0
destination (Lr rd rs1 bits) = rd
destination (Sc rd rs1 rs2 bits) = rd
destination (Amo op rd rs1 rs2 bits) = rd

abbrev pub sum_of : Option ℕ → ℕ → Option ℕ
sum_of None b = None
sum_of (Some a) b = Some (sum32 a b)

abbrev pub added : ImmediateOp → Option ℕ → ℕ → Option ℕ
added Addi a imm = sum_of a imm
added _ a imm = None

-- what it writes there, where that is known
abbrev pub value_of : Known → (pc : ℕ) → Instr → Option ℕ
value_of known pc (Upper Lui rd imm) = Some imm
value_of known pc (Upper Auipc rd imm) = Some (sum32 pc imm)
value_of known pc (Jal rd offset) = Some (sum32 pc 4)
value_of known pc (Jalr rd rs1 offset) = Some (sum32 pc 4)
value_of known pc (Immediate op rd rs1 imm) = added op (held known rs1) imm
value_of known pc _ = None

abbrev pub after : Known → (pc : ℕ) → Instr → Known
after known pc i = with_held known (destination i) (value_of known pc i)

-- ---- where it leads

-- JALR clears bit 0 (chapter 2.5)
abbrev pub jump_to : ℕ → Onward
jump_to sum = To (sum - sum % 2)

abbrev pub returned : Option ℕ → (offset : ℕ) → Onward
returned None offset = Anywhere
returned (Some a) offset = jump_to (sum32 a offset)

-- a call of number 0 is an exit
abbrev pub called : Option ℕ → (pc : ℕ) → Onward
called None pc = To (sum32 pc 4)
called (Some number) pc = if number == 0 then Nowhere else To (sum32 pc 4)

abbrev pub onward : Known → (pc : ℕ) → Instr → Onward
onward known pc (Jal rd offset) = To (sum32 pc offset)
onward known pc (Jalr rd rs1 offset) = returned (held known rs1) offset
onward known pc (Branch op rs1 rs2 offset) = Either (sum32 pc 4) (sum32 pc offset)
onward known pc (System Ecall) = called (held known 17) pc
onward known pc (System Ebreak) = Nowhere
onward known pc _ = To (sum32 pc 4)

-- ---- a table: for each word of memory what is known where a hart comes there, if one may

abbrev pub place_of : ℕ → ℕ
place_of pc = (pc - base) / 4

abbrev pub common : Option ℕ → Option ℕ → Option ℕ
common None b = None
common (Some a) None = None
common (Some a) (Some b) = if a == b then Some a else None

-- what is known either way
abbrev pub joined : Option Known → Known → Known
joined None known = known
joined (Some have) known = record { link = common have.link known.link; number = common have.number known.number }

abbrev pub marked_by : List (Option Known) → (place : ℕ) → Option (Option Known) → Known → List (Option Known)
marked_by table place None known = table
marked_by table place (Some have) known = slice_set table place (Some (joined have known))

abbrev pub marked : List (Option Known) → (pc : ℕ) → Known → List (Option Known)
marked table pc known = if pc % 4 == 0 then marked_by table (place_of pc) (slice_get table (place_of pc)) known else table

abbrev pub marked_onward : List (Option Known) → Onward → Known → List (Option Known)
marked_onward table Nowhere known = table
marked_onward table Anywhere known = table
marked_onward table (To pc) known = marked table pc known
marked_onward table (Either pc other) known = marked (marked table pc known) other known

-- a hart comes there with this, before a word; what is no instruction stops it
abbrev pub flowed_by : List (Option Known) → (pc : ℕ) → Known → Option Instr → List (Option Known)
flowed_by table pc known None = table
flowed_by table pc known (Some i) = marked_onward table (onward known pc i) (after known pc i)

abbrev pub flowed_from : Initial → List (Option Known) → (pc : ℕ) → Option (Option Known) → List (Option Known)
flowed_from image table pc (Some (Some known)) = flowed_by table pc known (decoded (word_at image pc))
flowed_from image table pc (Some None) = table
flowed_from image table pc None = table

abbrev pub flowed : Initial → (place : ℕ) → List (Option Known) → List (Option Known)
flowed image place table = flowed_from image table (base + 4 * place) (slice_get table place)

-- of as many words from a place on, the first first, each with what is known by then
unfoldable pub swept : Initial → (place count : ℕ) → List (Option Known) → List (Option Known)
swept image place zero table = table
swept image place (suc count) table = swept image (place + 1) count (flowed image place table)

-- ---- nothing is left out of it

abbrev pub is_among : Option ℕ → Option ℕ → Bool
is_among None b = true
is_among (Some a) None = false
is_among (Some a) (Some b) = a == b

-- all of the first is known
abbrev pub is_within : Known → Known → Bool
is_within have known = is_among have.link known.link && is_among have.number known.number

-- outside memory no instruction is
abbrev pub holds_within : Option (Option Known) → Known → Bool
holds_within None known = true
holds_within (Some None) known = false
holds_within (Some (Some have)) known = is_within have known

abbrev pub covers : List (Option Known) → (pc : ℕ) → Known → Bool
covers table pc known = pc % 4 == 0 && holds_within (slice_get table (place_of pc)) known

abbrev pub covers_onward : List (Option Known) → Onward → Known → Bool
covers_onward table Nowhere known = true
covers_onward table Anywhere known = false
covers_onward table (To pc) known = covers table pc known
covers_onward table (Either pc other) known = covers table pc known && covers table other known

abbrev pub goes_on_by : List (Option Known) → (pc : ℕ) → Known → Option Instr → Bool
goes_on_by table pc known None = true
goes_on_by table pc known (Some i) = covers_onward table (onward known pc i) (after known pc i)

abbrev pub goes_on_from : Initial → List (Option Known) → (pc : ℕ) → Option (Option Known) → Bool
goes_on_from image table pc (Some (Some known)) = goes_on_by table pc known (decoded (word_at image pc))
goes_on_from image table pc (Some None) = true
goes_on_from image table pc None = true

-- what follows the word at a place is in the table
abbrev pub goes_on : Initial → List (Option Known) → (place : ℕ) → Bool
goes_on image table place = goes_on_from image table (base + 4 * place) (slice_get table place)

-- the same of each of as many words
unfoldable pub each_goes_on : Initial → List (Option Known) → ℕ → Bool
each_goes_on image table zero = true
each_goes_on image table (suc place) = goes_on image table place && each_goes_on image table place

-- and the program's first instruction is
abbrev pub is_closed : Initial → List (Option Known) → Bool
is_closed image table = covers table image.entry nothing && each_goes_on image table (length table)

-- ---- all of it

-- sweeps until nothing is left out; past so many a hart may come anywhere
unfoldable pub closed_within : ℕ → Initial → List (Option Known) → List (Option Known)
closed_within zero image table = replicate (length table) (Some nothing)
closed_within (suc n) image table = if is_closed image table then table else closed_within n image (swept image 0 (length table) table)

abbrev pub flow_table : Initial → List (Option Known)
flow_table image = closed_within 64 image (marked (replicate (length image.bytes / 4) None) image.entry nothing)

abbrev pub is_met : Option (Option Known) → Bool
is_met (Some (Some known)) = true
is_met (Some None) = false
is_met None = false

abbrev pub comes_by : List (Option Known) → (address : ℕ) → Bool
comes_by table address = is_met (slice_get table (place_of address))

-- a hart may come to this word
abbrev pub may_come_to : Initial → (address : ℕ) → Bool
may_come_to image address = comes_by (flow_table image) address
