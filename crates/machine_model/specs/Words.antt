-- Words of lines, and the bytes of an access in a word (RISC-V Unprivileged ISA 20191213, section 2.6; where it leaves the byte order open, this machine is little endian).
use Rattle.std.specs.Prelude.{ℕ, ◌+◌, ◌-◌, ◌*◌, ◌/◌, ◌%◌, ◌^◌, List, [], ◌∷◌, slice_index}
use Rattle.store_buffer.specs.ByteMask.{each_place, marks_of_access}
use Rattle.store_buffer.specs.declared.entry.Store.{Store}
use Rattle.tl_types.specs.Line.{bytes_of, length_of, size_of}
use Rattle.tl_types.specs.declared.line.LineData.{LineData}

-- the address of the aligned word that an address lies in
abbrev pub word_of : ℕ → ℕ
word_of address = address - address % 4

-- the four bytes of a word in its line
abbrev pub word_in : LineData → ℕ → List ℕ
word_in line word = each_place (λ k. slice_index (bytes_of line) (word % length_of (size_of line) + k))

-- the number that bytes are, the first the lowest
abbrev pub number_of_bytes : List ℕ → ℕ
number_of_bytes [] = 0
number_of_bytes (byte ∷ bytes) = byte + 256 * number_of_bytes bytes

-- the four bytes of a number
abbrev pub bytes_of_word : ℕ → List ℕ
bytes_of_word number = each_place (λ k. number / 256 ^ k % 256)

-- the number that an access of so many bytes reads, where the bytes of its word are these
abbrev pub read_from : List ℕ → (address bytes : ℕ) → ℕ
read_from word address bytes = number_of_bytes word / 256 ^ (address % 4) % 256 ^ bytes

-- a store of a number of so many bytes, by the entry at this place of its hart's list
abbrev pub store_of : (address bytes value op : ℕ) → Store
store_of address bytes value op = record {
  word = word_of address;
  mask = marks_of_access (address % 4) bytes;
  value = bytes_of_word (value * 256 ^ (address % 4));
  op = op;
}
