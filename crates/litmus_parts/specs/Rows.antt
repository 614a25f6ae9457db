-- The columns of instructions.
use Rattle.std.specs.Prelude.{ℕ, zero, suc, ◌+◌, ◌-◌, Bool, true, false, ◌==◌, ◌||◌, List, [], ◌∷◌, ◌++◌, length, Option, Some, None, Result, Ok, Err, is_some, if◌then◌else◌, codes}
use Rattle.text_fields.specs.Reading as options
use Rattle.text_fields.specs.Reading.{after}
use Rattle.text_words.specs.Words.{skip, word, past_word, symbol_at, name_at}
use Rattle.litmus_parts.specs.declared.rows.Item.{Item}
use Rattle.litmus_parts.specs.declared.rows.Item.TheVariants.{Label, Instruction}
use Rattle.litmus_parts.specs.declared.stop.Cause.TheVariants as causes
use Rattle.litmus_parts.specs.declared.stop.Stop.{Stop}
use Rattle.litmus_parts.specs.Stops.{Read, at, here, onto, ◌>>=◌}
use Rattle.litmus_parts.specs.Scanning.{is_same, keyword_at, until, from}

-- the head names the harts: P0, P1 and so on
abbrev pub is_hart : ℕ → List ℕ → Bool
is_hart hart found = is_same (80 ∷ (48 + hart) ∷ []) found

unfoldable pub past_hart : ℕ → List ℕ → Result (List ℕ) Stop
past_hart hart bytes = if is_hart hart (word (skip bytes)) then Ok (past_word (skip bytes)) else Err (at causes.Head bytes)

-- a bar before the next name, a semicolon behind the last
abbrev pub behind_name : Option (List ℕ) → Option (List ℕ) → (List ℕ → Read ℕ) → ℕ → List ℕ → Read ℕ
behind_name (Some rest) end more harts bytes = more rest
behind_name None (Some rest) more harts bytes = Ok (harts, rest)
behind_name None None more harts bytes = Err (at causes.HeadEnd bytes)

-- how many harts, of which so many may follow
unfoldable pub head_at : ℕ → ℕ → List ℕ → Read ℕ
head_at zero hart bytes = Err (at causes.FewHarts bytes)
head_at (suc n) hart bytes = past_hart hart bytes >>= λ rest. behind_name (symbol_at (codes "|") rest) (symbol_at (codes ";") rest) (head_at n (hart + 1)) (hart + 1) rest

-- a label, and its colon
unfoldable pub label_at : List ℕ → Option (List ℕ × List ℕ)
label_at bytes = options.◌>>=◌ (name_at bytes) (λ x. options.◌>>=◌ (symbol_at (codes ":") x.1) (λ rest. Some (x.0, rest)))

-- the labels of a cell
abbrev pub with_label : ℕ → ℕ → (List ℕ → Read (List Item)) → Option (List ℕ × List ℕ) → List ℕ → Read (List Item)
with_label hart left more (Some x) bytes = onto (Label hart x.0 left ∷ []) (more x.1)
with_label hart left more None bytes = Ok ([], bytes)

unfoldable pub labels_at : ℕ → ℕ → List ℕ → Read (List Item)
labels_at hart zero bytes = Err (at causes.FewLabels bytes)
labels_at hart (suc n) bytes = with_label hart (length (skip bytes)) (labels_at hart n) (label_at bytes) bytes

-- the instruction of a cell, which may be missing, up to the mark that ends the cell
abbrev pub with_end : ℕ → Option (List ℕ) → List ℕ → Read (List Item)
with_end hart (Some rest) bytes = Ok (Instruction hart (length bytes) (length (until (codes "|;") bytes)) ∷ [], rest)
with_end hart None bytes = Err (here causes.Cell bytes)

unfoldable pub instruction_at : ℕ → ℕ → List ℕ → Read (List Item)
instruction_at hart end bytes = with_end hart (after (end ∷ []) (from (codes "|;") (skip bytes))) (skip bytes)

unfoldable pub cell_at : ℕ → ℕ → List ℕ → Read (List Item)
cell_at hart end bytes = labels_at hart 16 bytes >>= λ x. onto x.0 (instruction_at hart end x.1)

-- a row has a cell for each hart
abbrev pub end_of : ℕ → ℕ → ℕ
end_of hart harts = if hart + 1 == harts then 59 else 124

-- the cells of the last so many harts
unfoldable pub row_at : ℕ → ℕ → List ℕ → Read (List Item)
row_at harts zero bytes = Ok ([], bytes)
row_at harts (suc n) bytes = cell_at (harts - suc n) (end_of (harts - suc n) harts) bytes >>= λ x. onto x.0 (row_at harts n x.1)

-- What is asked begins with a word of its own. `not` is an instruction too.
abbrev pub denies : Option (List ℕ) → Bool
denies (Some rest) = is_some (symbol_at (codes "(") rest) || is_some (keyword_at (codes "exists") rest)
denies None = false

abbrev pub is_denial : List ℕ → Bool
is_denial bytes = denies (keyword_at (codes "not") bytes)

abbrev pub is_question_word : List ℕ → Bool
is_question_word found = is_same (codes "exists") found || is_same (codes "forall") found || is_same (codes "locations") found || is_same (codes "filter") found

abbrev pub is_end : List ℕ → Bool
is_end bytes = (length (skip bytes) == 0) || is_question_word (word (skip bytes)) || is_some (symbol_at (codes "~") (skip bytes)) || is_denial (skip bytes)

-- so many rows at most
unfoldable pub rows_at : ℕ → ℕ → List ℕ → Read (List Item)
rows_at harts zero bytes = Err (at causes.FewRows bytes)
rows_at harts (suc n) bytes = if is_end bytes then Ok ([], bytes) else (row_at harts harts bytes >>= λ x. onto x.0 (rows_at harts n x.1))

-- the head and the rows
abbrev pub columns_of : ℕ → List ℕ → Read (ℕ × List Item)
columns_of harts bytes = rows_at harts 1000 bytes >>= λ x. Ok ((harts, x.0), x.1)

unfoldable pub columns_at : List ℕ → Read (ℕ × List Item)
columns_at bytes = head_at 8 0 bytes >>= λ h. columns_of h.0 h.1
