-- The names that a file gives.
use Rattle.std.specs.Prelude.{ℕ, List, [], Option, Some, None}
use Rattle.elf_symbols.specs.Entries.{symbols_in}
use Rattle.elf_symbols.specs.Named.{Named}
use Rattle.elf_symbols.specs.Order.{by_address}
use Rattle.elf_symbols.specs.Tables.{Parts, tables_of}

abbrev pub table_symbols : Option Parts → List Named
table_symbols None = []
table_symbols (Some parts) = symbols_in parts.entries parts.strings

-- lowest address first; where the tables aren't whole, none
abbrev pub symbols_of : List ℕ → List Named
symbols_of file = by_address (table_symbols (tables_of file))
