-- What a call that writes has put out.
use Rattle.std.specs.Prelude.{◌≡◌, ℕ, List, ◌++◌, Option, Result, Ok, Err, decimal}
use Rattle.std.specs.List.{flat_map}
use Rattle.std.specs.Io.KnownBytes.{Appends}
use Rattle.text_fields.specs.Fields.{word, hex}
use Rattle.text_fields.specs.declared.writing.Piece.{Piece}
use Rattle.text_fields.specs.declared.writing.Piece.TheVariants.{Text, Number, Word, Hex}

-- a beginning of the text went out
pub record Begins (old new : Option (List ℕ)) (text : List ℕ) : Type 0 where
  pub front : List ℕ
  pub rest : List ℕ
  pub parts : text ≡ front ++ rest
  pub sent : Appends old new front

-- the text, or after a fault a beginning of it
abbrev pub Writes : {T E : Type 0} → Option (List ℕ) → Option (List ℕ) → List ℕ → Result T E → Type 0
Writes old new text (Ok _) = Appends old new text
Writes old new text (Err _) = Begins old new text

abbrev pub piece : Piece → List ℕ
piece (Text text) = text.now
piece (Number n) = decimal n
piece (Word n) = word n
piece (Hex bytes) = hex bytes.now

abbrev pub pieces : List Piece → List ℕ
pieces parts = flat_map piece parts
