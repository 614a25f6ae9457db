-- The image in which a trace began, and that of a file.
use Rattle.std.specs.Prelude.{◌≡◌, ◌≢◌, ℕ, ◌+◌, ◌*◌, ◌/◌, ◌==◌, if◌then◌else◌, List, [], ◌∷◌, length}
use Rattle.command_files.specs.Contents.{Contents}
use Rattle.command_files.specs.Faults.{IsNoImage}
use Rattle.command_files.specs.declared.fault.Fault.{Fault}
use Rattle.command_files.specs.declared.fault.Fault.TheVariants.{CannotRead, Image, OtherImage, OutOfMemory}
use Rattle.command_settings.specs.declared.wanted.Replay.{Replay}
use Rattle.elf_loader.specs.Image.{Initial}
use Rattle.elf_loader.specs.Size.{base}
use Rattle.elf_symbols.specs.Named.{Named}
use Rattle.command_files.specs.Named.{HoldsNamedImage}
use Rattle.trace_recorder.specs.History.{History}

-- how many KiB of memory a trace has
abbrev pub kib_of : History → ℕ
kib_of trace = length trace.image.bytes / 1024

-- how many elements two lists have in common at their beginnings
abbrev pub common : List ℕ → List ℕ → ℕ
common [] ys = 0
common (x ∷ xs) [] = 0
common (x ∷ xs) (y ∷ ys) = if x == y then 1 + common xs ys else 0

-- the address of the word in which two images first differ
abbrev pub first_other : Initial → Initial → ℕ
first_other image other = base + 4 * (common image.bytes other.bytes / 4)

-- the file of the image has these names, and holds the bytes with which the trace began
pub record HoldsNames (held : Contents) (replay : Replay) (trace : History) (names : List Named) : Type 0 where
  pub image : Initial
  pub file : HoldsNamedImage held replay.raw replay.image.now (kib_of trace) image names
  pub same : image.bytes ≡ trace.image.bytes

-- it holds others, and the first word that differs is at this address
pub record IsOtherImage (held : Contents) (replay : Replay) (trace : History) (address : ℕ) : Type 0 where
  pub image : Initial
  pub names : List Named
  pub file : HoldsNamedImage held replay.raw replay.image.now (kib_of trace) image names
  pub other : image.bytes ≢ trace.image.bytes
  pub first : address ≡ first_other image trace.image

-- the file of the image can't be read, holds no image of so many KiB, or another one
abbrev pub IsNamingFault : Contents → Replay → History → Fault → Type 0
IsNamingFault held replay trace (CannotRead file) = file ≡ replay.image
IsNamingFault held replay trace (Image file error) = (file ≡ replay.image) × IsNoImage held replay.raw replay.image.now (kib_of trace) error
IsNamingFault held replay trace (OtherImage file address) = (file ≡ replay.script) × IsOtherImage held replay trace address
IsNamingFault held replay trace OutOfMemory = Unit {0}
IsNamingFault held replay trace _ = ⊥
