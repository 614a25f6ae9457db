-- What stands on a page, and what a call that spells onto it has put out.
use Rattle.std.specs.Prelude.{◌≡◌, ℕ, ◌+◌, ◌≤◌, List, ◌++◌, length, Option, Result, Ok, Err}
use Rattle.std.specs.Io.KnownBytes.{Appends}
use Rattle.text_fields.specs.Writing.{Begins}

-- how many bytes a page holds
abbrev pub size : ℕ
size = 4096

-- there is room for a line
abbrev pub HasLineRoom : List ℕ → Type 0
HasLineRoom page = length page + 256 ≤ size

-- what went out, and then what stands on the page, are what stood there before and then the text
pub record Paged (old new : Option (List ℕ)) (before after text : List ℕ) : Type 0 where
  pub front : List ℕ
  pub parts : before ++ text ≡ front ++ after
  pub sent : Appends old new front

-- the text, or after a fault a beginning of what stood on the page and the text
abbrev pub Spells : {T E : Type 0} → Option (List ℕ) → Option (List ℕ) → List ℕ → List ℕ → List ℕ → Result T E → Type 0
Spells old new before after text (Ok _) = Paged old new before after text
Spells old new before after text (Err _) = Begins old new (before ++ text)
