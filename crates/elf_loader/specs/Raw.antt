-- Bare words as memory's first bytes.
use Rattle.std.specs.Prelude.{◌≡◌, ℕ, ◌%◌, ◌-◌, ◌==◌, nat_lt, if◌then◌else◌, List, ◌++◌, length, replicate, Result, Ok, Err}
use Rattle.elf_loader.specs.Image.{Initial}
use Rattle.elf_loader.specs.Size.{base}
use Rattle.elf_loader.specs.declared.error.LoadError.{LoadError}
use Rattle.elf_loader.specs.declared.error.LoadError.TheVariants.{Short, SegmentOutside}

-- the words stand at 0x80000000, zeros behind them, and the first of them is the entry
abbrev pub raw_image : List ℕ → ℕ → Initial
raw_image words size = record { bytes = words ++ replicate (size - length words) 0; entry = base }

-- what whole words that fit into memory give, where there is memory for the image
abbrev pub raw_answer : List ℕ → ℕ → Result Initial LoadError
raw_answer words size =
    if length words % 4 == 0
    then (if nat_lt size (length words) then Err SegmentOutside else Ok (raw_image words size))
    else Err Short
