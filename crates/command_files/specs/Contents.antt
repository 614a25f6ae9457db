-- The bytes of files, where they are known.
use Rattle.std.specs.Prelude.{◌≡◌, ◌++◌, ℕ, ◌==◌, Bool, false, List, Option, Some, None, IfSome, bytes_eq, codes, if◌then◌else◌, length}
use Rattle.std.specs.List.{list_any}

-- the bytes of the file of each name, where they are known
abbrev pub Contents : Type 0
Contents = List ℕ → Option (List ℕ)

-- a reader of the file still has all of it to read
abbrev pub IsUnread : Option (List ℕ) → Option (List ℕ) → Type 0
IsUnread None left = Unit {0}
IsUnread (Some bytes) left = left ≡ Some bytes

-- a file of these bytes, where they are known
abbrev pub HoldsBytes : Contents → List ℕ → List ℕ → Type 0
HoldsBytes held name bytes = IfSome (held name) (λ known. known ≡ bytes)

-- no line ends in the first 65536 bytes of the file, where they are known
abbrev pub HasLongFirstLine : Contents → List ℕ → Type 0
HasLongFirstLine held name = IfSome (held name) (λ known. (first : List ℕ) × (rest : List ℕ) × (known ≡ first ++ rest) × (length first ≡ 65536) × (list_any (λ byte. byte == 10) first ≡ false))

-- the name under which standard input is read
abbrev pub is_input : List ℕ → Bool
is_input name = bytes_eq name (codes "-")

-- what the files hold; standard input's bytes aren't known
abbrev pub beside_input : Contents → Contents
beside_input held name = if is_input name then None else held name

-- standard input has a path too
abbrev pub path_of : List ℕ → List ℕ
path_of name = if is_input name then codes "/dev/stdin" else name
