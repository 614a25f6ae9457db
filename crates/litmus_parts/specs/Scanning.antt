-- Stretches of text, keywords, and what has to stand somewhere.
use Rattle.std.specs.Prelude.{ℕ, zero, suc, Bool, true, false, ◌==◌, List, [], ◌∷◌, Option, Some, None, Result, Ok, Err, if◌then◌else◌}
use Rattle.std.specs.List.{list_any}
use Rattle.text_fields.specs.Reading.{after, guarded}
use Rattle.text_words.specs.Words.{skip, word, past_word, symbol_at}
use Rattle.litmus_parts.specs.declared.stop.Cause.{Cause}
use Rattle.litmus_parts.specs.declared.stop.Stop.{Stop}
use Rattle.litmus_parts.specs.Stops.{Read, at, onto, ◌>>=◌}

abbrev pub is_any : List ℕ → ℕ → Bool
is_any marks b = list_any (λ m. m == b) marks

-- what stands before the first of these marks, and from it on
abbrev pub until : List ℕ → List ℕ → List ℕ
until marks [] = []
until marks (b ∷ bytes) = if is_any marks b then [] else b ∷ until marks bytes

abbrev pub from : List ℕ → List ℕ → List ℕ
from marks [] = []
from marks (b ∷ bytes) = if is_any marks b then b ∷ bytes else from marks bytes

-- nothing is left
abbrev pub is_end : Option (List ℕ) → Bool
is_end None = false
is_end (Some []) = true
is_end (Some (b ∷ bytes)) = false

-- a word that is this one
abbrev pub is_same : List ℕ → List ℕ → Bool
is_same wanted found = is_end (after wanted found)

-- this word behind blanks, and what stands behind it
unfoldable pub keyword_at : List ℕ → List ℕ → Option (List ℕ)
keyword_at keyword bytes = guarded (is_same keyword (word (skip bytes))) (past_word (skip bytes))

-- a symbol that has to stand here
abbrev pub or_stop : Option (List ℕ) → Cause → List ℕ → Result (List ℕ) Stop
or_stop (Some rest) cause bytes = Ok rest
or_stop None cause bytes = Err (at cause bytes)

abbrev pub expect : List ℕ → Cause → List ℕ → Result (List ℕ) Stop
expect symbol cause bytes = or_stop (symbol_at symbol bytes) cause bytes

-- what a word means by a table
abbrev pub meaning_of : {A : Type 0} → List (List ℕ × A) → List ℕ → Option A
meaning_of [] found = None
meaning_of (e ∷ es) found = if is_same e.0 found then Some e.1 else meaning_of es found

-- so many items at most, and the symbol that ends them
abbrev pub or_item : {A : Type 0} → Option (List ℕ) → Read (List A) → Read (List A)
or_item (Some rest) read = Ok ([], rest)
or_item None read = read

unfoldable pub items_at : {A : Type 0} → List ℕ → Cause → (List ℕ → Read A) → ℕ → List ℕ → Read (List A)
items_at symbol cause item zero bytes = Err (at cause bytes)
items_at symbol cause item (suc n) bytes = or_item (symbol_at symbol bytes) (item bytes >>= λ x. onto (x.0 ∷ []) (items_at symbol cause item n x.1))
