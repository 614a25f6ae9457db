-- Tables of words.
use Rattle.std.specs.Prelude.{ℕ, List, [], ◌∷◌, Option, Some, None, if◌then◌else◌}
use Rattle.std.specs.Borrow.{Bor}
use Rattle.std.specs.Str.{bytes_eq}

-- a table whose words lie elsewhere, with its words
abbrev pub seen : {T : Type 0} → List (Bor (List ℕ) × T) → List (List ℕ × T)
seen [] = []
seen (e ∷ es) = (e.0.now, e.1) ∷ seen es

-- what the table has for a word
abbrev pub found : {T : Type 0} → List (List ℕ × T) → List ℕ → Option T
found [] word = None
found (e ∷ es) word = if bytes_eq e.0 word then Some e.1 else found es word
