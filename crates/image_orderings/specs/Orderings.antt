-- What orders memory operations in an image: its FENCEs, and the bits aq and rl of its LRs, SCs and AMOs (RISC-V Unprivileged ISA 20191213, chapters 2.7 and 8.1).
use Rattle.std.specs.Prelude.{ℕ, ◌+◌, ◌/◌, ◌∷◌, ◌++◌, [], if◌then◌else◌, List, None, Option, Some, length, map, suc, zero}
use Rattle.elf_loader.specs.Image.{Initial, word_at}
use Rattle.elf_loader.specs.Size.{base}
use Rattle.image_orderings.specs.declared.orderings.ImageOrdering.{ImageOrdering}
use Rattle.image_orderings.specs.declared.orderings.Part.{Part}
use Rattle.image_orderings.specs.declared.orderings.Part.TheVariants as part
use Rattle.rv32_decode.specs.Rows.{decoded}
use Rattle.rv32_decode.specs.declared.instruction.Annotations.{Annotations}
use Rattle.rv32_decode.specs.declared.instruction.Instr.{Instr}
use Rattle.rv32_decode.specs.declared.instruction.Instr.TheVariants.{Amo, Fence, FenceTso, Lr, Sc}

-- the bits that are set, aq before rl
abbrev pub parts_of_bits : Annotations → List Part
parts_of_bits bits = (if bits.acquire then part.Acquire ∷ [] else []) ++ (if bits.release then part.Release ∷ [] else [])

-- what of an instruction orders: a FENCE as a whole, each bit that is set
abbrev pub parts_of : Instr → List Part
parts_of (Fence sets) = part.Fence ∷ []
parts_of FenceTso = part.Fence ∷ []
parts_of (Lr rd rs1 bits) = parts_of_bits bits
parts_of (Sc rd rs1 rs2 bits) = parts_of_bits bits
parts_of (Amo op rd rs1 rs2 bits) = parts_of_bits bits
parts_of _ = []

-- a word that is no instruction has none
abbrev pub parts_in : Option Instr → List Part
parts_in None = []
parts_in (Some instr) = parts_of instr

abbrev pub at : ℕ → Part → ImageOrdering
at address p = record { address = address; part = p }

-- those of the word at an address
abbrev pub orderings_at : Initial → ℕ → List ImageOrdering
orderings_at image address = map (at address) (parts_in (decoded (word_at image address)))

-- those of so many words from an address on, in the order of addresses
abbrev pub orderings_from : Initial → (address count : ℕ) → List ImageOrdering
orderings_from image address zero = []
orderings_from image address (suc count) = orderings_at image address ++ orderings_from image (address + 4) count

-- whatever word of memory looks like an instruction counts as one
abbrev pub orderings_of : Initial → List ImageOrdering
orderings_of image = orderings_from image base (length image.bytes / 4)
