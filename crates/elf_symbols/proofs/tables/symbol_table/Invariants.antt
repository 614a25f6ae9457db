use Rattle.std.proofs.Common.{◌≡◌, ◌-◌, map}
use Rattle.std.specs.List.{range_with_len, find}
use Rattle.elf_symbols.specs.Tables.{e_shnum, is_symbol_table, section, symbol_table}
use Rattle.elf_symbols.proofs.tables.symbol_table.Given as goal

abbrev pub invariant-loop-index : goal.invariant-loop-index
invariant-loop-index l = symbol_table l.file ≡ find is_symbol_table (map (section l.file) (range_with_len l.index (e_shnum l.file - l.index)))
