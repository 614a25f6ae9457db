-- The numbers by which faults of a file are printed.
use Rattle.std.specs.Prelude.{ℕ}
use Rattle.elf_loader.specs.declared.error.LoadError.{LoadError}
use Rattle.elf_loader.specs.declared.error.LoadError.TheVariants.{Short, Magic, Class, FileType, Machine, Flags, HeaderTable, SegmentOutside, SegmentOverlap, Entry, NoMemory}

abbrev pub load_error_number : LoadError → ℕ
load_error_number Short = 1
load_error_number Magic = 2
load_error_number Class = 3
load_error_number FileType = 4
load_error_number Machine = 5
load_error_number Flags = 6
load_error_number HeaderTable = 7
load_error_number SegmentOutside = 8
load_error_number SegmentOverlap = 9
load_error_number Entry = 10
load_error_number NoMemory = 11
