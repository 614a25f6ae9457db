-- Where an ELF file for 32-bit machines has its symbols (System V Application Binary Interface, "Object
-- Files": "ELF Header", "Sections").
use Rattle.std.specs.Prelude.{ℕ, ◌+◌, ◌*◌, ◌==◌, nat_eq, nat_le, nat_lt, Bool, ◌&&◌, if◌then◌else◌, List, [], ◌∷◌, length, take, drop, find, map, Option, Some, None, option_and_then}
use Rattle.std.specs.List.{range_with_len, starts_with}
use Rattle.elf_loader.specs.Elf.{half_at, long_at}
use Rattle.elf_symbols.specs.declared.section.Section.{Section}

-- 7f 45 4c 46, ELFCLASS32, ELFDATA2LSB
abbrev pub start : List ℕ
start = 127 ∷ 69 ∷ 76 ∷ 70 ∷ 1 ∷ 1 ∷ []

abbrev pub e_shoff : List ℕ → ℕ
e_shoff file = long_at file 32

abbrev pub e_shentsize : List ℕ → ℕ
e_shentsize file = half_at file 46

abbrev pub e_shnum : List ℕ → ℕ
e_shnum file = half_at file 48

-- an ELF32 file that has its table of sections whole
abbrev pub has_sections : List ℕ → Bool
has_sections file =
    nat_le 52 (length file) && starts_with nat_eq file start
    && e_shentsize file == 40 && nat_le (e_shoff file + 40 * e_shnum file) (length file)

-- "Section Header": the one at this place of the file
abbrev pub section_at : List ℕ → ℕ → Section
section_at file at = record {
  kind = long_at file (at + 4);
  offset = long_at file (at + 16);
  size = long_at file (at + 20);
  link = long_at file (at + 24);
  entry_size = long_at file (at + 36);
}

abbrev pub section : List ℕ → ℕ → Section
section file index = section_at file (e_shoff file + 40 * index)

-- SHT_SYMTAB, of entries of 16 bytes
abbrev pub is_symbol_table : Section → Bool
is_symbol_table s = s.kind == 2 && s.entry_size == 16

abbrev pub symbol_table : List ℕ → Option Section
symbol_table file = find is_symbol_table (map (section file) (range_with_len 0 (e_shnum file)))

-- a section's bytes, where the file has them all
abbrev pub contents : List ℕ → Section → Option (List ℕ)
contents file s = if nat_le (s.offset + s.size) (length file) then Some (take s.size (drop s.offset file)) else None

-- a symbol table's bytes, and those of the strings that its names are in
pub record Parts : Type 0 where
  pub entries : List ℕ
  pub strings : List ℕ

abbrev pub both : Option (List ℕ) → Option (List ℕ) → Option Parts
both (Some entries) (Some strings) = Some (record { entries = entries; strings = strings })
both (Some entries) None = None
both None strings = None

-- sh_link of a symbol table is its string table's index
abbrev pub parts_by : List ℕ → Section → Option Parts
parts_by file table = if nat_lt table.link (e_shnum file) then both (contents file table) (contents file (section file table.link)) else None

-- the tables, where the file has both whole
abbrev pub tables_of : List ℕ → Option Parts
tables_of file = if has_sections file then option_and_then (parts_by file) (symbol_table file) else None
