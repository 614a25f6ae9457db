-- An image file with the names that it has for addresses.
use Rattle.std.specs.Prelude.{◌≡◌, ℕ, ◌*◌, Bool, if◌then◌else◌, List, [], Ok}
use Rattle.command_files.specs.Files.{image_answer}
use Rattle.command_files.specs.Contents.{Contents, HoldsBytes}
use Rattle.elf_loader.specs.Image.{Initial}
use Rattle.elf_symbols.specs.Named.{Named}
use Rattle.elf_symbols.specs.Symbols.{symbols_of}

-- bare words have none
abbrev pub names_in : Bool → List ℕ → List Named
names_in is_raw bytes = if is_raw then [] else symbols_of bytes

-- the file, of bare words or an ELF file, is loaded as this image into so many KiB, and has these names
pub record HoldsNamedImage (held : Contents) (is_raw : Bool) (name : List ℕ) (kib : ℕ) (image : Initial) (names : List Named) : Type 0 where
  pub file : List ℕ
  pub bytes : HoldsBytes held name file
  pub loaded : image_answer is_raw file (1024 * kib) ≡ Ok image
  pub named : names ≡ names_in is_raw file
