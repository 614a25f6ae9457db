-- Which files are accepted, with which image, and which fault another file shows.
use Rattle.std.specs.Prelude.{ℕ, ◌+◌, ◌-◌, ◌*◌, ◌%◌, ◌==◌, nat_eq, nat_lt, Bool, true, false, not, ◌&&◌, ◌||◌, List, [], ◌∷◌, length, slice_index, map, find, Option, Some, None, Result, Ok, Err}
use Rattle.std.specs.List.{list_any, range_with_len, starts_with}
use Rattle.elf_loader.specs.Elf.{e_entry, e_flags, e_machine, e_phentsize, e_phnum, e_phoff, e_type, e_version, has_file_byte, lies_outside, misplaced_entry, segments_of, some_overlap}
use Rattle.elf_loader.specs.Image.{Initial}
use Rattle.elf_loader.specs.Size.{base}
use Rattle.elf_loader.specs.declared.error.LoadError.{LoadError}
use Rattle.elf_loader.specs.declared.error.LoadError.TheVariants.{Short, Magic, Class, FileType, Machine, Flags, HeaderTable, SegmentOutside, SegmentOverlap, Entry, NoMemory}
use Rattle.elf_loader.specs.declared.segment.ProgramHeader.{ProgramHeader}

-- 7f 45 4c 46
abbrev pub elf_magic : List ℕ
elf_magic = 127 ∷ 69 ∷ 76 ∷ 70 ∷ []

-- whether a file shows a fault, with memory of this size
abbrev pub shows : List ℕ → ℕ → LoadError → Bool
shows file size Short = nat_lt (length file) 52
shows file size Magic = not (starts_with nat_eq file elf_magic)
shows file size Class = not (slice_index file 4 == 1 && slice_index file 5 == 1 && slice_index file 6 == 1 && e_version file == 1)
shows file size FileType = not (e_type file == 2)
shows file size Machine = not (e_machine file == 243)
shows file size Flags = not (e_flags file == 0)
shows file size HeaderTable = not (e_phentsize file == 32) || nat_lt 16 (e_phnum file) || nat_lt (length file) (e_phoff file + 32 * e_phnum file)
shows file size SegmentOutside = list_any (lies_outside (length file) size) (segments_of file)
shows file size SegmentOverlap = some_overlap (segments_of file)
shows file size Entry = misplaced_entry size (e_entry file)
shows file size NoMemory = false

-- the order of testing
abbrev pub segment_faults : List LoadError
segment_faults = SegmentOutside ∷ SegmentOverlap ∷ Entry ∷ []

abbrev pub faults : List LoadError
faults = Short ∷ Magic ∷ Class ∷ FileType ∷ Machine ∷ Flags ∷ HeaderTable ∷ segment_faults

-- the first fault that the file shows
abbrev pub first_fault : List ℕ → ℕ → Option LoadError
first_fault file size = find (shows file size) faults

-- the file's byte at an address where a segment has one, and zero elsewhere
abbrev pub file_byte : List ℕ → ℕ → Option ProgramHeader → ℕ
file_byte file address None = 0
file_byte file address (Some segment) = slice_index file (segment.p_offset + (address - segment.p_vaddr))

abbrev pub loaded_byte : List ℕ → List ProgramHeader → ℕ → ℕ
loaded_byte file segments address = file_byte file address (find (has_file_byte address) segments)

abbrev pub loaded_image : List ℕ → ℕ → Initial
loaded_image file size = record {
  bytes = map (loaded_byte file (segments_of file)) (range_with_len base size);
  entry = e_entry file;
}

-- what a file gives, where there is memory for the image
abbrev pub answer : Option LoadError → Initial → Result Initial LoadError
answer (Some fault) image = Err fault
answer None image = Ok image

abbrev pub load_answer : List ℕ → ℕ → Result Initial LoadError
load_answer file size = answer (first_fault file size) (loaded_image file size)
