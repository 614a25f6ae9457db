-- What borrowed parts come to.
use Rattle.std.specs.Prelude.{Option, option_map}
use Rattle.elf_symbols.specs.Lookups.{Near}
use Rattle.elf_symbols.specs.Tables.{Parts}
use Rattle.elf_symbols.specs.declared.symbols.Place.{Place}
use Rattle.elf_symbols.specs.declared.tables.Tables.{Tables}

abbrev pub near_of : Place → Near
near_of place = record { name = place.name.now; offset = place.offset }

abbrev pub parts_of : Option Tables → Option Parts
parts_of = option_map (λ t. record { entries = t.entries.now; strings = t.strings.now })
