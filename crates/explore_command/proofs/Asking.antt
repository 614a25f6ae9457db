-- What is known of a search that shows words of memory before it begins, and what its first faults say and leave.
use Rattle.std.proofs.Common.{◌≡◌, ◌⊎◌, ℕ, List, Option, inl, inr, refl, subst, sym}
use Rattle.command_files.specs.Faults.{Name}
use Rattle.command_files.specs.Contents.{Contents}
use Rattle.command_files.specs.declared.fault.Fault.{Fault}
use Rattle.command_files.specs.declared.fault.Fault.TheVariants.{CannotShow}
use Rattle.command_files.specs.declared.fault.Unshown.{Unshown}
use Rattle.command_settings.specs.declared.wanted.Explore.{Explore}
use Rattle.elf_loader.specs.Image.{Initial}
use Rattle.elf_symbols.specs.Named.{Named}
use Rattle.command_files.specs.Named.{HoldsNamedImage}
use Rattle.explore_command.proofs.Faults.{first_left, first_told}
use Rattle.explore_command.specs.Exploring.{IsExploreFault, IsFirstFault, LeavesPart}
use Rattle.explore_command.specs.Asking.{HasProgram, HasProgramBy, HasUnshown, IsAskingFault}
use Rattle.explore_command.specs.Targets.{AreAddressesOf, IsUnplaced, IsUnshown}
use Rattle.explorer.specs.Words.{CanShowEach}

module _ (held first : Contents) (explore : Explore) (words : List Name) (image : Initial) (symbols : List Named) (same : first ≡ held)
    (file : HoldsNamedImage first explore.raw explore.image.now explore.machine.memory image symbols) where
  image_file : HoldsNamedImage held explore.raw explore.image.now explore.machine.memory image symbols
  image_file = subst (λ (h : Contents). HoldsNamedImage h explore.raw explore.image.now explore.machine.memory image symbols) same file

  pub program_by : (addresses : List ℕ) → AreAddressesOf symbols words addresses → CanShowEach image addresses → HasProgramBy held explore words image symbols addresses
  program_by addresses placed inside = (record { symbols = symbols; image_file = image_file; placed = placed; inside = inside }, refl)

  pub program : (addresses : List ℕ) → AreAddressesOf symbols words addresses → CanShowEach image addresses → HasProgram held explore words image addresses
  program addresses placed inside = record { symbols = symbols; image_file = image_file; placed = placed; inside = inside }

  -- a word that can't be shown is told
  pub unshown_told : (fault : Fault) → IsUnshown image symbols words fault → IsAskingFault held explore words fault
  unshown_told fault (inl (word, first, unplaced)) = inr (record { image = image; symbols = symbols; image_file = image_file; word = word; first = first; unplaced = unplaced })
  unshown_told fault (inr memory) = inl (subst (IsFirstFault held explore) (sym memory) (inr (inl (inr tt))))

unplaced_is : (image : Initial) (symbols : List Named) (word : Name) (fault : Fault) → IsUnplaced image symbols word fault → (cause : Unshown) × (fault ≡ CannotShow word cause)
unplaced_is image symbols word fault (inl (none, is)) = (_, is)
unplaced_is image symbols word fault (inr (place, at, never, is)) = (_, is)

module _ (held : Contents) (explore : Explore) (words : List Name) (fault : Fault) where
  pub asking_told : IsAskingFault held explore words fault → IsExploreFault held explore fault ⊎ HasUnshown held explore words fault
  asking_told (inl so) = inl (first_told held explore fault so)
  asking_told (inr so) = inr so

  pub asking_left : (old new : Option (List ℕ)) (Has : (List ℕ → Type 0) → Type 0) → IsAskingFault held explore words fault → new ≡ old → LeavesPart fault old new Has
  asking_left old new Has (inl so) same = first_left held explore fault old new Has so same
  asking_left old new Has (inr unshown) same =
      let is = unplaced_is unshown.image unshown.symbols unshown.word fault unshown.unplaced in subst (λ f. LeavesPart f old new Has) (sym is.1) same
