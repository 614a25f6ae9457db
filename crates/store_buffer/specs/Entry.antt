-- Entries of a store buffer: what a hart's stores to one word leave, and a group's list of them.
use Rattle.std.specs.Prelude.{ℕ, Bool, false, ◌||◌, ◌==◌, List, [], ◌∷◌, ◌++◌, Option, Some, None, slice_index, if◌then◌else◌}
use Rattle.store_buffer.specs.ByteMask.{each_place, is_marked, no_marks, united, laid_over}
use Rattle.store_buffer.specs.declared.entry.Entry.{Entry}
use Rattle.store_buffer.specs.declared.entry.Store.{Store}

-- before any store
abbrev pub blank_entry : ℕ → Entry
blank_entry word = record { word = word; mask = no_marks; bytes = each_place (λ k. 0); ops = [] }

-- a store joins its word's entry: its bytes lie over those that stood there
abbrev pub joined : Store → Entry → Entry
joined s e =
    record {
      word = e.word;
      mask = united s.mask e.mask;
      bytes = laid_over s.mask s.value e.bytes;
      ops = e.ops ++ s.op ∷ [];
    }

-- the byte at a place, if the entry marks it
abbrev pub marked_byte : ℕ → Entry → Option ℕ
marked_byte k e = if is_marked e.mask k then Some (slice_index e.bytes k) else None

abbrev pub has_word : ℕ → List Entry → Bool
has_word word [] = false
has_word word (e ∷ es) = (e.word == word) || has_word word es

-- the entry of a word, a blank one where it has none
abbrev pub entry_of : ℕ → List Entry → Entry
entry_of word [] = blank_entry word
entry_of word (e ∷ es) = if e.word == word then e else entry_of word es

-- a store joins the entry of its word, or makes one behind the others
abbrev pub with_store : Store → List Entry → List Entry
with_store s [] = joined s (blank_entry s.word) ∷ []
with_store s (e ∷ es) = if e.word == s.word then joined s e ∷ es else e ∷ with_store s es

abbrev pub without : ℕ → List Entry → List Entry
without word [] = []
without word (e ∷ es) = if e.word == word then es else e ∷ without word es
