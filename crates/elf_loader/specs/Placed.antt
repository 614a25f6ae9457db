-- Memory after one segment more.
use Rattle.std.specs.Prelude.{ℕ, ◌+◌, ◌-◌, Bool, if◌then◌else◌, List, slice_index}
use Rattle.elf_loader.specs.Elf.{has_file_byte}
use Rattle.elf_loader.specs.Size.{base}
use Rattle.elf_loader.specs.declared.segment.ProgramHeader.{ProgramHeader}

-- the byte at place k: the segment's where the file has one there, and else the old one
abbrev pub byte_after : List ℕ → List ℕ → ProgramHeader → ℕ → ℕ
byte_after file memory segment k =
    if has_file_byte (base + k) segment
    then slice_index file (segment.p_offset + (base + k - segment.p_vaddr))
    else slice_index memory k
