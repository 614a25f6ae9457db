-- Texts that have room for so many bytes.
use Rattle.std.specs.Prelude.{ℕ, ◌-◌, nat_le, if◌then◌else◌, List, ◌++◌, length, take, codes}
use Rattle.elf_symbols.specs.Short.{whole_characters}

-- one that is longer is told by its first whole characters, and three dots
abbrev pub fitted : ℕ → List ℕ → List ℕ
fitted room text = if nat_le (length text) room then text else take (whole_characters text (room - 3)) text ++ codes "..."
