-- A file whose header can be read.
use Rattle.std.specs.Prelude.{ℕ, ◌+◌, ◌*◌, ◌≤◌, List, length}
use Rattle.elf_loader.specs.Elf.{e_phnum, e_phoff}

-- the header and the program header table lie in the file
pub record HasHeader (file : List ℕ) : Type 0 where
  pub whole : 52 ≤ length file
  pub few : e_phnum file ≤ 16
  pub table : e_phoff file + 32 * e_phnum file ≤ length file
