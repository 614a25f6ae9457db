-- Main memory as a program's file leaves it, and the address of the program's first instruction.
use Rattle.std.specs.Prelude.{◌≡◌, ℕ, ◌+◌, ◌-◌, ◌*◌, ◌%◌, ◌<◌, ◌≤◌, List, length, slice_index}
use Rattle.elf_loader.specs.Size.{base, IsMemorySize}

-- the byte at 0x80000000 comes first
pub record Initial : Type 0 where
  pub bytes : List ℕ
  pub entry : ℕ

-- the first address past memory
abbrev pub end_of : Initial → ℕ
end_of image = base + length image.bytes

-- a whole word lies in memory at this address
abbrev pub HasWord : Initial → ℕ → Type 0
HasWord image address = (base ≤ address) × (address + 4 ≤ end_of image)

abbrev pub byte_at : Initial → ℕ → ℕ
byte_at image address = slice_index image.bytes (address - base)

-- a word, little endian: instructions are by section 1.5 of the Unprivileged ISA 20191213, data by this machine's choice, which section 2.6 leaves open
abbrev pub word_at : Initial → ℕ → ℕ
word_at image address =
    byte_at image address
    + 256 * (byte_at image (address + 1) + 256 * (byte_at image (address + 2) + 256 * byte_at image (address + 3)))

-- an image that a machine can start from
pub record IsImage (image : Initial) : Type 0 where
  pub legal_size : IsMemorySize (length image.bytes)
  pub aligned_entry : image.entry % 4 ≡ 0
  pub entry_inside : HasWord image image.entry
  pub bytes_fit : (k : ℕ) → slice_index image.bytes k < 256
