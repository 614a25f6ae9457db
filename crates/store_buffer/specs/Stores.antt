-- A group as the list of its stores, in program order: what its entries are a function of.
use Rattle.std.specs.Prelude.{◌≡◌, ◌≢◌, ℕ, ◌<◌, Bool, ◌&&◌, not, ◌==◌, List, [], ◌∷◌, ◌++◌, Option, Some, None, map, filter, slice_index, if◌then◌else◌}
use Rattle.std.specs.List.{list_any}
use Rattle.std.specs.Option.{option_or}
use Rattle.store_buffer.specs.ByteMask.{is_marked}
use Rattle.store_buffer.specs.Entry.{blank_entry, joined, marked_byte, has_word, entry_of, with_store, without}
use Rattle.store_buffer.specs.Groups.{Groups, HaveDistinctWords, is_nil, is_empty, has_sealed, has, drainable, oldest, buffered_byte, groups_of, after_put, after_put_single, after_seal, after_take}
use Rattle.store_buffer.specs.declared.entry.Entry.{Entry}
use Rattle.store_buffer.specs.declared.entry.Store.{Store}

abbrev pub is_to_word : ℕ → Store → Bool
is_to_word word s = s.word == word

abbrev pub is_elsewhere : ℕ → Store → Bool
is_elsewhere word s = not (s.word == word)

-- an entry after these stores to its word
abbrev pub merged : Entry → List Store → Entry
merged e [] = e
merged e (s ∷ ss) = merged (joined s e) ss

-- entries after these stores
abbrev pub entries_from : List Entry → List Store → List Entry
entries_from es [] = es
entries_from es (s ∷ ss) = entries_from (with_store s es) ss

-- the entries of a group that had these stores
abbrev pub entries_of : List Store → List Entry
entries_of stores = entries_from [] stores

-- the byte that a store writes at a place of a word
abbrev pub stored_byte : ℕ → ℕ → Store → Option ℕ
stored_byte word k s = if (s.word == word) && is_marked s.mask k then Some (slice_index s.value k) else None

-- the byte of the last of these stores to that place
abbrev pub last_byte : ℕ → ℕ → List Store → Option ℕ
last_byte word k [] = None
last_byte word k (s ∷ ss) = option_or (last_byte word k ss) (stored_byte word k s)

-- ---- laws of one group

-- a store to the word joins the word's entry, and leaves every other as it was
abbrev pub OwnWord : Type 0
OwnWord = (s : Store) (es : List Entry) → entry_of s.word (with_store s es) ≡ joined s (entry_of s.word es)

abbrev pub OtherWord : Type 0
OtherWord = (s : Store) (word : ℕ) (es : List Entry) → s.word ≢ word → entry_of word (with_store s es) ≡ entry_of word es

-- a put appends to the group's stores
abbrev pub PutAppends : Type 0
PutAppends = (s : Store) (stores : List Store) → with_store s (entries_of stores) ≡ entries_of (stores ++ s ∷ [])

-- an entry is what the stores to its word leave
abbrev pub EntryIsFilter : Type 0
EntryIsFilter = (word : ℕ) (stores : List Store)
    → entry_of word (entries_of stores) ≡ merged (blank_entry word) (filter (is_to_word word) stores)

abbrev pub OpsAreFilter : Type 0
OpsAreFilter = (word : ℕ) (stores : List Store)
    → (entry_of word (entries_of stores)).ops ≡ map (λ (s : Store). s.op) (filter (is_to_word word) stores)

-- each of its bytes is that of the last store to it
abbrev pub ByteIsLast : Type 0
ByteIsLast = (word k : ℕ) (stores : List Store) → k < 4
    → marked_byte k (entry_of word (entries_of stores)) ≡ last_byte word k stores

abbrev pub HasIsAny : Type 0
HasIsAny = (word : ℕ) (stores : List Store) → has_word word (entries_of stores) ≡ list_any (is_to_word word) stores

-- a drain takes out the stores to its word, and leaves the others
abbrev pub TakeFilters : Type 0
TakeFilters = (word : ℕ) (stores : List Store)
    → without word (entries_of stores) ≡ entries_of (filter (is_elsewhere word) stores)

abbrev pub AlwaysDistinct : Type 0
AlwaysDistinct = (stores : List Store) → HaveDistinctWords (entries_of stores)

-- ---- a whole buffer

-- the stores that wait, group by group
pub record WaitingStores : Type 0 where
  pub sealed : List (List Store)  -- oldest first
  pub current : List Store

-- the groups of a buffer with these stores
abbrev pub entries_in : WaitingStores → Groups
entries_in w = record { sealed = map entries_of w.sealed; current = entries_of w.current }

abbrev pub all_stores : List (List Store) → List Store
all_stores [] = []
all_stores (g ∷ gs) = g ++ all_stores gs

abbrev pub kept_stores : List Store → List (List Store)
kept_stores [] = []
kept_stores (s ∷ ss) = (s ∷ ss) ∷ []

abbrev pub put_behind : Store → WaitingStores → WaitingStores
put_behind s w = record { sealed = w.sealed; current = w.current ++ s ∷ [] }

abbrev pub sealed_up : WaitingStores → WaitingStores
sealed_up w = record { sealed = w.sealed ++ kept_stores w.current; current = [] }

abbrev pub oldest_stores_from : List (List Store) → List Store → List Store
oldest_stores_from [] current = current
oldest_stores_from (g ∷ gs) current = g

abbrev pub oldest_stores : WaitingStores → List Store
oldest_stores w = oldest_stores_from w.sealed w.current

abbrev pub drained_from : ℕ → List (List Store) → List Store → WaitingStores
drained_from word [] current = record { sealed = []; current = filter (is_elsewhere word) current }
drained_from word (g ∷ gs) current = record { sealed = kept_stores (filter (is_elsewhere word) g) ++ gs; current = current }

abbrev pub drained : ℕ → WaitingStores → WaitingStores
drained word w = drained_from word w.sealed w.current

abbrev pub PutIsBehind : Type 0
PutIsBehind = (s : Store) (w : WaitingStores) → after_put s (entries_in w) ≡ entries_in (put_behind s w)

-- under total store order
abbrev pub put_single_behind : Store → WaitingStores → WaitingStores
put_single_behind s w = if list_any (is_to_word s.word) w.current then put_behind s w else put_behind s (sealed_up w)

abbrev pub PutSingleIsBehind : Type 0
PutSingleIsBehind = (s : Store) (w : WaitingStores) → after_put_single s (entries_in w) ≡ entries_in (put_single_behind s w)

abbrev pub SealIsUp : Type 0
SealIsUp = (w : WaitingStores) → after_seal (entries_in w) ≡ entries_in (sealed_up w)

abbrev pub OldestIsFirst : Type 0
OldestIsFirst = (w : WaitingStores) → oldest (entries_in w) ≡ entries_of (oldest_stores w)

abbrev pub TakeIsDrained : Type 0
TakeIsDrained = (word : ℕ) (w : WaitingStores) → after_take word (entries_in w) ≡ entries_in (drained word w)

-- a load gets each byte from the last store to it in program order
abbrev pub ForwardIsLast : Type 0
ForwardIsLast = (word k : ℕ) (w : WaitingStores) → k < 4
    → buffered_byte word k (groups_of (entries_in w)) ≡ last_byte word k (all_stores w.sealed ++ w.current)

-- what a buffer is asked
abbrev pub HasIsAnyOfAll : Type 0
HasIsAnyOfAll = (word : ℕ) (w : WaitingStores) → has word (entries_in w) ≡ list_any (is_to_word word) (all_stores w.sealed ++ w.current)

abbrev pub DrainableIsAny : Type 0
DrainableIsAny = (word : ℕ) (w : WaitingStores) → drainable word (entries_in w) ≡ list_any (is_to_word word) (oldest_stores w)

abbrev pub EmptyIsNone : Type 0
EmptyIsNone = (w : WaitingStores) → is_empty (entries_in w) ≡ (is_nil w.sealed && is_nil w.current)

abbrev pub SealedIsSome : Type 0
SealedIsSome = (w : WaitingStores) → has_sealed (entries_in w) ≡ not (is_nil w.sealed)
