-- Where a program's file has the bytes of its image (ELF 1.2, book I: "Program Header").
use Rattle.std.specs.Prelude.{ℕ, ◌+◌, ◌-◌, ◌*◌, ◌&&◌, Bool, List, None, Option, Some, if◌then◌else◌, length, nat_le, suc, zero}
use Rattle.elf_loader.specs.Elf.{e_phnum, e_phoff, has_file_byte, is_load, program_header_at}
use Rattle.elf_loader.specs.Size.{base}
use Rattle.elf_loader.specs.declared.segment.ProgramHeader.{ProgramHeader}
use Rattle.image_writing.specs.declared.places.Format.{Format}
use Rattle.image_writing.specs.declared.places.Format.TheVariants.{Elf, Words}

-- the file has an ELF file's header and the table that this names
abbrev pub has_table : List ℕ → Bool
has_table file = nat_le 52 (length file) && nat_le (e_phoff file + 32 * e_phnum file) (length file)

-- the segment's, where it is loaded and the file has its byte of this address; and else the other one
abbrev pub place_by : (address : ℕ) → ProgramHeader → Option ℕ → Option ℕ
place_by address segment other = if is_load segment && has_file_byte address segment then Some (segment.p_offset + (address - segment.p_vaddr)) else other

-- that of the first of so many entries of the table from one on
abbrev pub place_from : List ℕ → (address entry count : ℕ) → Option ℕ
place_from file address entry zero = None
place_from file address entry (suc count) = place_by address (program_header_at file (e_phoff file + 32 * entry)) (place_from file address (entry + 1) count)

abbrev pub place_in_segments : List ℕ → (address : ℕ) → Option ℕ
place_in_segments file address = if has_table file then place_from file address 0 (e_phnum file) else None

-- the place in the file of an address's byte
abbrev pub place_of : Format → List ℕ → (address : ℕ) → Option ℕ
place_of Elf file address = place_in_segments file address
place_of Words file address = Some (address - base)
