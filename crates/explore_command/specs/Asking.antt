-- What a search that shows words of memory is asked of, and what refuses it.
use Rattle.std.specs.Prelude.{ℕ, ◌≡◌, ◌⊎◌, List}
use Rattle.command_files.specs.Faults.{Name}
use Rattle.command_files.specs.Contents.{Contents}
use Rattle.command_files.specs.declared.fault.Fault.{Fault}
use Rattle.command_settings.specs.declared.wanted.Explore.{Explore}
use Rattle.elf_loader.specs.Image.{Initial}
use Rattle.elf_symbols.specs.Named.{Named}
use Rattle.command_files.specs.Named.{HoldsNamedImage}
use Rattle.explore_command.specs.Exploring.{IsFirstFault}
use Rattle.explore_command.specs.Targets.{AreAddressesOf, ComesBehindShown, IsUnplaced}
use Rattle.explorer.specs.Words.{CanShowEach}

-- the image is that in the file, and the words lie where its symbols say, each an aligned word of memory
pub record HasProgram (held : Contents) (explore : Explore) (words : List Name) (image : Initial) (addresses : List ℕ) : Type 0 where
  pub symbols : List Named
  pub image_file : HoldsNamedImage held explore.raw explore.image.now explore.machine.memory image symbols
  pub placed : AreAddressesOf symbols words addresses
  pub inside : CanShowEach image addresses

-- and these are those symbols
abbrev pub HasProgramBy : Contents → Explore → List Name → Initial → List Named → List ℕ → Type 0
HasProgramBy held explore words image symbols addresses = (program : HasProgram held explore words image addresses) × (program.symbols ≡ symbols)

-- one of the words can't be shown, by the image in the file, and it is the first
pub record HasUnshown (held : Contents) (explore : Explore) (words : List Name) (fault : Fault) : Type 0 where
  pub image : Initial
  pub symbols : List Named
  pub image_file : HoldsNamedImage held explore.raw explore.image.now explore.machine.memory image symbols
  pub word : Name
  pub first : ComesBehindShown image symbols words word
  pub unplaced : IsUnplaced image symbols word fault

-- the machine is out of limits, or a file can't be read or used; or one of the words can't be shown
abbrev pub IsAskingFault : Contents → Explore → List Name → Fault → Type 0
IsAskingFault held explore words fault = IsFirstFault held explore fault ⊎ HasUnshown held explore words fault
