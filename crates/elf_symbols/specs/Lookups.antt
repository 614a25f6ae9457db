-- What names tell of an address, and an address of a name.
use Rattle.std.specs.Prelude.{ℕ, ◌-◌, nat_le, if◌then◌else◌, List, [], ◌∷◌, find, Option, Some, None, option_map}
use Rattle.std.specs.Str.{bytes_eq}
use Rattle.elf_symbols.specs.Named.{Named}
use Rattle.elf_symbols.specs.Short.{short_name}

-- a name as it is told, and how many bytes behind its address
pub record Near : Type 0 where
  pub name : List ℕ
  pub offset : ℕ

abbrev pub or_this : Option Named → ℕ → Named → Option Named
or_this (Some later) address symbol = Some later
or_this None address symbol = if nat_le symbol.address address then Some symbol else None

-- the last one at or below an address
abbrev pub last_below : List Named → ℕ → Option Named
last_below [] address = None
last_below (symbol ∷ rest) address = or_this (last_below rest address) address symbol

abbrev pub near : ℕ → Named → Near
near address symbol = record { name = short_name symbol.name; offset = address - symbol.address }

abbrev pub nearest : List Named → ℕ → Option Near
nearest symbols address = option_map (near address) (last_below symbols address)

abbrev pub address_of : List Named → List ℕ → Option ℕ
address_of symbols name = option_map (λ s. s.address) (find (λ s. bytes_eq s.name name) symbols)
