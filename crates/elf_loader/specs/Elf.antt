-- ELF files for 32-bit machines (Tool Interface Standard, Executable and Linking Format
-- Specification 1.2, book I: "ELF Header", "Program Header").
use Rattle.std.specs.Prelude.{◌≡◌, ℕ, ◌+◌, ◌-◌, ◌*◌, ◌%◌, ◌==◌, nat_lt, nat_le, min, max, Bool, true, false, not, ◌&&◌, ◌||◌, List, [], ◌∷◌, length, slice_index, map, filter}
use Rattle.std.specs.List.{list_any, range_with_len}
use Rattle.elf_loader.specs.Size.{base}
use Rattle.elf_loader.specs.declared.segment.ProgramHeader.{ProgramHeader}

-- two and four bytes of a file as a number, the lowest byte first
abbrev pub half_at : List ℕ → ℕ → ℕ
half_at file at = slice_index file at + 256 * slice_index file (at + 1)

abbrev pub long_at : List ℕ → ℕ → ℕ
long_at file at = half_at file at + 65536 * half_at file (at + 2)

-- "ELF Header"
abbrev pub e_type : List ℕ → ℕ
e_type file = half_at file 16

abbrev pub e_machine : List ℕ → ℕ
e_machine file = half_at file 18

abbrev pub e_version : List ℕ → ℕ
e_version file = long_at file 20

abbrev pub e_entry : List ℕ → ℕ
e_entry file = long_at file 24

abbrev pub e_phoff : List ℕ → ℕ
e_phoff file = long_at file 28

abbrev pub e_flags : List ℕ → ℕ
e_flags file = long_at file 36

abbrev pub e_phentsize : List ℕ → ℕ
e_phentsize file = half_at file 42

abbrev pub e_phnum : List ℕ → ℕ
e_phnum file = half_at file 44

-- "Program Header": the entry at this place of the file
abbrev pub program_header_at : List ℕ → ℕ → ProgramHeader
program_header_at file at = record {
  p_type = long_at file at;
  p_offset = long_at file (at + 4);
  p_vaddr = long_at file (at + 8);
  p_filesz = long_at file (at + 16);
  p_memsz = long_at file (at + 20);
}

abbrev pub program_headers : List ℕ → List ProgramHeader
program_headers file = map (λ k. program_header_at file (e_phoff file + 32 * k)) (range_with_len 0 (e_phnum file))

-- PT_LOAD
abbrev pub is_load : ProgramHeader → Bool
is_load header = header.p_type == 1

abbrev pub segments_of : List ℕ → List ProgramHeader
segments_of file = filter is_load (program_headers file)

-- whether this address is one of the segment's, and whether the file has its byte there
abbrev pub has_address : ℕ → ProgramHeader → Bool
has_address address segment = nat_le segment.p_vaddr address && nat_lt address (segment.p_vaddr + segment.p_memsz)

abbrev pub has_file_byte : ℕ → ProgramHeader → Bool
has_file_byte address segment = nat_le segment.p_vaddr address && nat_lt address (segment.p_vaddr + segment.p_filesz)

-- whether a file of this length and memory of this size don't have what the segment names
abbrev pub lies_outside : ℕ → ℕ → ProgramHeader → Bool
lies_outside file_length size segment =
    nat_lt segment.p_memsz segment.p_filesz
    || nat_lt file_length (segment.p_offset + segment.p_filesz)
    || nat_lt segment.p_vaddr base
    || nat_lt (base + size) (segment.p_vaddr + segment.p_memsz)

-- whether some address belongs to both: the higher beginning lies below the lower end
abbrev pub share_address : ProgramHeader → ProgramHeader → Bool
share_address one other =
    nat_lt (max one.p_vaddr other.p_vaddr) (min (one.p_vaddr + one.p_memsz) (other.p_vaddr + other.p_memsz))

-- the same by the address
abbrev pub HasCommonAddress : ProgramHeader → ProgramHeader → Type 0
HasCommonAddress one other = (address : ℕ) × (has_address address one ≡ true) × (has_address address other ≡ true)

abbrev pub some_overlap : List ProgramHeader → Bool
some_overlap [] = false
some_overlap (segment ∷ rest) = list_any (share_address segment) rest || some_overlap rest

-- whether no instruction can stand at the entry: it is no multiple of 4, or no word of memory is there
abbrev pub misplaced_entry : ℕ → ℕ → Bool
misplaced_entry size entry = not (entry % 4 == 0) || nat_lt entry base || nat_lt (base + size) (entry + 4)
