-- A folder for what searches find, and which files that leaves as they were.
use Rattle.std.specs.Prelude.{ℕ, ◌≡◌, ◌≢◌, ◌⊎◌, [], IfSome, List, None, Option, Some}
use Rattle.std.specs.Borrow.{Bor}
use Rattle.command_files.specs.Contents.{Contents}

abbrev pub FileName : Type 0
FileName = List ℕ

-- a folder was named, and the file is one of these in it
abbrev pub IsInNamed : Option (Bor FileName) → (FileName → FileName → Type 0) → FileName → Type 0
IsInNamed None IsIn name = ⊥
IsInNamed (Some folder) IsIn name = IsIn folder.now name

-- the folder that was named, if one was, has a name
abbrev pub HasName : Option (Bor FileName) → Type 0
HasName folder = IfSome folder (λ name. name.now ≢ [])

-- no other file is another than before
abbrev pub SparesOthers : (FileName → Type 0) → Contents → Contents → Type 0
SparesOthers IsWritten held left = (other : FileName) → (left other ≡ held other) ⊎ IsWritten other
