-- Names in the order of their addresses.
use Rattle.std.specs.Prelude.{nat_lt, if◌then◌else◌, List, [], ◌∷◌}
use Rattle.elf_symbols.specs.Named.{Named}

-- behind all of lower addresses
abbrev pub put_in : Named → List Named → List Named
put_in symbol [] = symbol ∷ []
put_in symbol (other ∷ rest) = if nat_lt other.address symbol.address then other ∷ put_in symbol rest else symbol ∷ other ∷ rest

-- lowest address first, those of one address in the order that they had
abbrev pub by_address : List Named → List Named
by_address [] = []
by_address (symbol ∷ rest) = put_in symbol (by_address rest)
