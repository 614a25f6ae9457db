-- The file of what is allowed.
use Rattle.std.specs.Prelude.{ℕ, List, None, Option, Some}
use Rattle.command_files.specs.Contents.{Contents, HoldsBytes}
use Rattle.command_files.specs.Faults.{Name}
use Rattle.command_files.specs.declared.fault.Fault.{Fault}

-- these are the bytes of the file that was named, if one was
abbrev pub IsAllowFile : Contents → Option Name → Option (List ℕ) → Type 0
IsAllowFile held None None = Unit {0}
IsAllowFile held None (Some text) = ⊥
IsAllowFile held (Some file) None = ⊥
IsAllowFile held (Some file) (Some text) = HoldsBytes held file.now text

-- a name was given, and the fault is of that file
abbrev pub IsNamedBy : Option Name → (Name → Fault → Type 0) → Fault → Type 0
IsNamedBy None IsOf fault = ⊥
IsNamedBy (Some file) IsOf fault = IsOf file fault
