-- The bits aq and rl behind a mnemonic (RISC-V Unprivileged ISA 20191213, chapter 8.1).
use Rattle.std.specs.Prelude.{ℕ, Bool, true, false, ◌||◌, List, [], ◌∷◌, Option, Some, None, if◌then◌else◌, codes}
use Rattle.rv32_decode.specs.declared.instruction.Annotations.{Annotations}
use Rattle.text_fields.specs.Reading.{after}
use Rattle.assembly_reading.specs.Tables.{found}

abbrev pub is_some_rest : Option (List ℕ) → Bool
is_some_rest (Some rest) = true
is_some_rest None = false

-- what stands here begins with one of the bits
abbrev pub is_suffix : List ℕ → Bool
is_suffix bytes = is_some_rest (after (codes ".aq") bytes) || is_some_rest (after (codes ".rl") bytes)

-- a word up to the first of the bits, and from there on
abbrev pub base : List ℕ → List ℕ
base [] = []
base (b ∷ bytes) = if is_suffix (b ∷ bytes) then [] else b ∷ base bytes

abbrev pub suffix : List ℕ → List ℕ
suffix [] = []
suffix (b ∷ bytes) = if is_suffix (b ∷ bytes) then b ∷ bytes else suffix bytes

-- both bits, aq first
abbrev pub bits : Bool → Bool → Annotations
bits acquire release = record { acquire = acquire; release = release }

-- how they are written
abbrev pub spellings : List (List ℕ × Annotations)
spellings =
    ([], bits false false)
    ∷ (codes ".aq", bits true false)
    ∷ (codes ".rl", bits false true)
    ∷ (codes ".aqrl", bits true true)
    ∷ (codes ".aq.rl", bits true true)
    ∷ []

unfoldable pub bits_of : List ℕ → Option Annotations
bits_of text = found spellings text
