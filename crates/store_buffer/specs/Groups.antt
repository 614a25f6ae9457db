-- A hart's store buffer as groups of entries. Stores of one group may be performed in any order, but for those to one
-- word; a group is performed before each newer one (RISC-V Unprivileged ISA 20191213, section 14.1, "Preserved
-- Program Order", rules 1, 4 and 6).
use Rattle.std.specs.Prelude.{◌≡◌, ℕ, ◌+◌, ◌≤◌, Bool, true, false, ◌&&◌, ◌||◌, not, List, [], ◌∷◌, ◌++◌, length, Option, Some, None, is_some, unwrap_or, nat_lt, if◌then◌else◌}
use Rattle.std.specs.List.{AllByRecursion as Each}
use Rattle.std.specs.Option.{option_or}
use Rattle.machine_types.specs.declared.limits.TheConstants.{BUFFER_ENTRIES}
use Rattle.store_buffer.specs.ByteMask.{each_place}
use Rattle.store_buffer.specs.Entry.{marked_byte, has_word, entry_of, with_store, without}
use Rattle.store_buffer.specs.declared.entry.Entry.{Entry}
use Rattle.store_buffer.specs.declared.entry.Store.{Store}

pub record Groups : Type 0 where
  pub sealed : List (List Entry)  -- oldest first
  pub current : List Entry  -- the open group, newer than all of them

abbrev pub no_groups : Groups
no_groups = record { sealed = []; current = [] }

-- oldest first, the open group last
abbrev pub groups_of : Groups → List (List Entry)
groups_of b = b.sealed ++ b.current ∷ []

abbrev pub is_nil : {A : Type 0} → List A → Bool
is_nil [] = true
is_nil (x ∷ xs) = false

abbrev pub has_sealed : Groups → Bool
has_sealed b = not (is_nil b.sealed)

abbrev pub is_empty : Groups → Bool
is_empty b = is_nil b.sealed && is_nil b.current

abbrev pub total_count : List (List Entry) → ℕ
total_count [] = 0
total_count (g ∷ gs) = length g + total_count gs

-- how many entries are used
abbrev pub entry_count : Groups → ℕ
entry_count b = total_count b.sealed + length b.current

-- some group has an entry of the word
abbrev pub any_has_word : ℕ → List (List Entry) → Bool
any_has_word word [] = false
any_has_word word (g ∷ gs) = has_word word g || any_has_word word gs

abbrev pub has : ℕ → Groups → Bool
has word b = any_has_word word (groups_of b)

-- ---- stores

-- a store to the word finds an entry: the open group's, or a free one
abbrev pub fits : ℕ → Groups → Bool
fits word b = has_word word b.current || nat_lt (entry_count b) BUFFER_ENTRIES

-- a store merges in the open group alone
abbrev pub after_put : Store → Groups → Groups
after_put s b = record { sealed = b.sealed; current = with_store s b.current }

-- a group that has an entry
abbrev pub kept : List Entry → List (List Entry)
kept [] = []
kept (e ∷ es) = (e ∷ es) ∷ []

-- the open group is closed behind its stores; an empty one stays
abbrev pub after_seal : Groups → Groups
after_seal b = record { sealed = b.sealed ++ kept b.current; current = [] }

-- a store that no store of another word may be merged past: where its word isn't the open group's, it opens a new one
abbrev pub after_put_single : Store → Groups → Groups
after_put_single s b = if has_word s.word b.current then after_put s b else after_put s (after_seal b)

-- ---- loads

-- the newest group's byte at a place of the word
abbrev pub buffered_byte : ℕ → ℕ → List (List Entry) → Option ℕ
buffered_byte word k [] = None
buffered_byte word k (g ∷ gs) = option_or (buffered_byte word k gs) (marked_byte k (entry_of word g))

-- which bytes of the word the buffer has, and what they are; 0 where it has none
abbrev pub forwarded : ℕ → Groups → List Bool × List ℕ
forwarded word b =
    (each_place (λ k. is_some (buffered_byte word k (groups_of b))), each_place (λ k. unwrap_or (buffered_byte word k (groups_of b)) 0))

-- ---- drains

abbrev pub oldest_from : List (List Entry) → List Entry → List Entry
oldest_from [] current = current
oldest_from (g ∷ gs) current = g

-- the oldest group that isn't empty; the open one where there is no other
abbrev pub oldest : Groups → List Entry
oldest b = oldest_from b.sealed b.current

abbrev pub drainable : ℕ → Groups → Bool
drainable word b = has_word word (oldest b)

abbrev pub taken_from : ℕ → List (List Entry) → List Entry → Groups
taken_from word [] current = record { sealed = []; current = without word current }
taken_from word (g ∷ gs) current = record { sealed = kept (without word g) ++ gs; current = current }

-- the word's entry has left the oldest group
abbrev pub after_take : ℕ → Groups → Groups
after_take word b = taken_from word b.sealed b.current

-- ---- what holds of every buffer

-- no two entries of one word
abbrev pub HaveDistinctWords : List Entry → Type 0
HaveDistinctWords [] = Unit {0}
HaveDistinctWords (e ∷ es) = (has_word e.word es ≡ false) × HaveDistinctWords es

pub record IsLawful (b : Groups) : Type 0 where
  pub kept : Each (λ g. is_nil g ≡ false) b.sealed
  pub distinct : Each HaveDistinctWords (groups_of b)
  pub few : entry_count b ≤ BUFFER_ENTRIES
