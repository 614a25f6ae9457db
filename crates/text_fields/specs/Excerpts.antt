-- What an error keeps of bytes that stand in a file.
use Rattle.std.specs.Prelude.{ℕ, ◌-◌, List, ◌++◌, length, replicate, take}
use Rattle.text_fields.specs.declared.excerpt.Excerpt.{Excerpt}

-- the first 40 of them, zeros behind fewer, and how many they are
abbrev pub excerpt : List ℕ → Excerpt
excerpt text = record { bytes = take 40 text ++ replicate (40 - length text) 0; length = length text }
