-- What a command's faults leave that prints what it found and then writes files.
use Rattle.std.specs.Prelude.{ℕ, ◌≡◌, ◌⊎◌, List, Option}
use Rattle.std.specs.Io.KnownBytes.{Appends}
use Rattle.command_files.specs.Faults.{Name}
use Rattle.command_files.specs.declared.fault.Fault.{Fault}
use Rattle.command_files.specs.declared.fault.Fault.TheVariants.{CannotMake, CannotWrite, OutOfMemory}
use Rattle.text_fields.specs.Writing.{Begins}

-- a file can't be written into the folder, or memory ran out
abbrev pub IsFolderFault : Name → Fault → Type 0
IsFolderFault folder fault = (fault ≡ CannotMake folder) ⊎ (fault ≡ OutOfMemory)

-- what a fault leaves on standard output of the text of what was found: a beginning, where the output takes no more, all of it, where a file can't be written after the search, or nothing
abbrev pub LeavesPart : Fault → Option (List ℕ) → Option (List ℕ) → ((List ℕ → Type 0) → Type 0) → Type 0
LeavesPart CannotWrite old new Has = Has (Begins old new)
LeavesPart (CannotMake file) old new Has = (new ≡ old) ⊎ Has (Appends old new)
LeavesPart OutOfMemory old new Has = (new ≡ old) ⊎ Has (Begins old new)
LeavesPart _ old new Has = new ≡ old

-- it is told before files are written
abbrev pub ComesBeforeScripts : Fault → Type 0
ComesBeforeScripts (CannotMake file) = ⊥
ComesBeforeScripts OutOfMemory = ⊥
ComesBeforeScripts _ = Unit {0}
