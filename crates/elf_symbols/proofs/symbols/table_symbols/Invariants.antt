use Rattle.std.proofs.Common.{◌≡◌, ◌-◌, ◌/◌, ◌++◌, length}
use Rattle.std.specs.List.{range_with_len, filter_map}
use Rattle.elf_symbols.specs.Entries.{entry_at, symbol_in, symbols_in}
use Rattle.elf_symbols.proofs.symbols.table_symbols.Given as goal

abbrev pub invariant-loop-index : goal.invariant-loop-index
invariant-loop-index l =
    symbols_in l.entries l.strings
    ≡ l.list.items ++ filter_map (λ index. symbol_in (entry_at l.entries index) l.strings) (range_with_len l.index (length l.entries / 16 - l.index))
