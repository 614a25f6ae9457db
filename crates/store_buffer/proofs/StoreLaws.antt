-- Entries as a function of their group's stores.
use Rattle.std.proofs.Common.{◌≡◌, ◌≢◌, ℕ, zero, suc, ◌<◌, ◌≤◌, Bool, true, false, cond, ◌&&◌, ◌||◌, not, List, [], ◌∷◌, ◌++◌, length, Some, None, refl, sym, ap, ◌∙◌, arith, append_assoc, append-nil, length-append, map, filter}
use Rattle.std.proofs.lemmas.List.{map-append}
use Rattle.std.specs.Prelude.{◌==◌, slice_index}
use Rattle.std.specs.List.{list_any}
use Rattle.std.proofs.lemmas.Bool.{false≢true, eqb-true, eq-eqb, ne_eqb}
use Rattle.std.specs.Option.{option_or}
use Rattle.store_buffer.specs.declared.entry.Entry.{Entry}
use Rattle.store_buffer.specs.declared.entry.Store.{Store}
use Rattle.store_buffer.specs.ByteMask.{is_marked}
use Rattle.store_buffer.specs.Entry.{blank_entry, joined, marked_byte, has_word, entry_of, with_store, without}
use Rattle.store_buffer.specs.Groups.{HaveDistinctWords, is_nil, any_has_word, kept, oldest, after_put_single, buffered_byte, after_put, after_take}
use Rattle.store_buffer.specs.Stores.{is_to_word, is_elsewhere, merged, entries_from, entries_of, stored_byte, last_byte, OwnWord, OtherWord, PutAppends, EntryIsFilter, OpsAreFilter, ByteIsLast, HasIsAny, TakeFilters, AlwaysDistinct, entries_in, all_stores, kept_stores, oldest_stores_from, drained_from, put_behind, sealed_up, oldest_stores, PutIsBehind, PutSingleIsBehind, SealIsUp, OldestIsFirst, TakeIsDrained, ForwardIsLast, HasIsAnyOfAll, DrainableIsAny, EmptyIsNone, SealedIsSome}
use Rattle.store_buffer.proofs.Places.{with_store-new, with_store-old, has_word-with_store, HaveDistinctWords-with_store}
use Rattle.store_buffer.proofs.Layouts.{or_else-assoc, or_none, nonempty, kept_some, same_groups, put_joins_own, put_after_seal}

-- ---- one store

pub own_word : OwnWord
own_word s [] = ap (λ b. cond b (joined s (blank_entry s.word)) (blank_entry s.word)) (eq-eqb s.word s.word refl)
own_word s (e ∷ es) = go (e.word == s.word) refl (own_word s es)
  where
    go : (b : Bool) → (e.word == s.word) ≡ b → entry_of s.word (with_store s es) ≡ joined s (entry_of s.word es)
        → entry_of s.word (cond b (joined s e ∷ es) (e ∷ with_store s es)) ≡ joined s (cond b e (entry_of s.word es))
    go true t h = ap (λ b. cond b (joined s e) (entry_of s.word es)) t
    go false t h = ap (λ b. cond b e (entry_of s.word (with_store s es))) t ∙ h

pub other_word : OtherWord
other_word s word [] other = ap (λ b. cond b (joined s (blank_entry s.word)) (blank_entry word)) (ne_eqb s.word word other)
other_word s word (e ∷ es) other = go (e.word == s.word) refl (other_word s word es other)
  where
    go : (b : Bool) → (e.word == s.word) ≡ b → entry_of word (with_store s es) ≡ entry_of word es
        → entry_of word (cond b (joined s e ∷ es) (e ∷ with_store s es)) ≡ entry_of word (e ∷ es)
    go true t h =
        let apart : (e.word == word) ≡ false = ne_eqb e.word word (λ same. other (sym (eqb-true e.word s.word t) ∙ same)) in
        ap (λ b. cond b (joined s e) (entry_of word es)) apart ∙ sym (ap (λ b. cond b e (entry_of word es)) apart)
    go false t h = ap (λ x. cond (e.word == word) e x) h

own_byte : (k : ℕ) (s : Store) (e : Entry) → k < 4 → marked_byte k (joined s e) ≡ option_or (cond (is_marked s.mask k) (Some (slice_index s.value k)) None) (marked_byte k e)
own_byte k s e h = go k h
  where
    bits : (a b : Bool) (x y : ℕ) → cond (a || b) (Some (cond a x y)) None ≡ option_or (cond a (Some x) None) (cond b (Some y) None)
    bits true b x y = refl
    bits false b x y = refl

    go : (k : ℕ) → k < 4 → marked_byte k (joined s e) ≡ option_or (cond (is_marked s.mask k) (Some (slice_index s.value k)) None) (marked_byte k e)
    go zero h = bits (is_marked s.mask 0) (is_marked e.mask 0) (slice_index s.value 0) (slice_index e.bytes 0)
    go (suc zero) h = bits (is_marked s.mask 1) (is_marked e.mask 1) (slice_index s.value 1) (slice_index e.bytes 1)
    go (suc (suc zero)) h = bits (is_marked s.mask 2) (is_marked e.mask 2) (slice_index s.value 2) (slice_index e.bytes 2)
    go (suc (suc (suc zero))) h = bits (is_marked s.mask 3) (is_marked e.mask 3) (slice_index s.value 3) (slice_index e.bytes 3)
    go (suc (suc (suc (suc k)))) h = absurd (omega arith)

byte-with_store : (word k : ℕ) (s : Store) (es : List Entry) → k < 4 → marked_byte k (entry_of word (with_store s es)) ≡ option_or (stored_byte word k s) (marked_byte k (entry_of word es))
byte-with_store word k s es h = go (s.word == word) refl
  where
    go : (b : Bool) → (s.word == word) ≡ b
        → marked_byte k (entry_of word (with_store s es)) ≡ option_or (cond (b && is_marked s.mask k) (Some (slice_index s.value k)) None) (marked_byte k (entry_of word es))
    go true t =
        let own = eqb-true s.word word t in
        ap (λ w. marked_byte k (entry_of w (with_store s es))) (sym own) ∙ ap (marked_byte k) (own_word s es) ∙ own_byte k s (entry_of s.word es) h
        ∙ ap (λ w. option_or (cond (is_marked s.mask k) (Some (slice_index s.value k)) None) (marked_byte k (entry_of w es))) own
    go false t = ap (marked_byte k) (other_word s word es (λ own. false≢true (sym t ∙ eq-eqb s.word word own)))

without-own : (s : Store) (es : List Entry) → without s.word (with_store s es) ≡ without s.word es
without-own s [] = ap (λ b. cond b [] (joined s (blank_entry s.word) ∷ [])) (eq-eqb s.word s.word refl)
without-own s (e ∷ es) = go (e.word == s.word) refl (without-own s es)
  where
    go : (b : Bool) → (e.word == s.word) ≡ b → without s.word (with_store s es) ≡ without s.word es
        → without s.word (cond b (joined s e ∷ es) (e ∷ with_store s es)) ≡ cond b es (e ∷ without s.word es)
    go true t h = ap (λ b. cond b es (joined s e ∷ without s.word es)) t
    go false t h = ap (λ b. cond b (with_store s es) (e ∷ without s.word (with_store s es))) t ∙ ap (λ xs. e ∷ xs) h

without-other : (s : Store) (word : ℕ) (es : List Entry) → s.word ≢ word → without word (with_store s es) ≡ with_store s (without word es)
without-other s word [] other = ap (λ b. cond b [] (joined s (blank_entry s.word) ∷ [])) (ne_eqb s.word word other)
without-other s word (e ∷ es) other = go (e.word == s.word) (e.word == word) refl refl (without-other s word es other)
  where
    go : (b a : Bool) → (e.word == s.word) ≡ b → (e.word == word) ≡ a → without word (with_store s es) ≡ with_store s (without word es)
        → without word (cond b (joined s e ∷ es) (e ∷ with_store s es)) ≡ with_store s (cond a es (e ∷ without word es))
    go true true t u h = absurd (other (sym (eqb-true e.word s.word t) ∙ eqb-true e.word word u))
    go true false t u h = ap (λ b. cond b es (joined s e ∷ without word es)) u ∙ sym (ap (λ b. cond b (joined s e ∷ without word es) (e ∷ with_store s (without word es))) t)
    go false true t u h = ap (λ b. cond b (with_store s es) (e ∷ without word (with_store s es))) u
    go false false t u h =
        ap (λ b. cond b (with_store s es) (e ∷ without word (with_store s es))) u ∙ ap (λ xs. e ∷ xs) h
        ∙ sym (ap (λ b. cond b (joined s e ∷ without word es) (e ∷ with_store s (without word es))) t)

-- ---- a group's stores

put_from : (s : Store) (es : List Entry) (stores : List Store) → with_store s (entries_from es stores) ≡ entries_from es (stores ++ s ∷ [])
put_from s es [] = refl
put_from s es (t ∷ ts) = put_from s (with_store t es) ts

pub put_appends : PutAppends
put_appends s stores = put_from s [] stores

entry_from : (word : ℕ) (es : List Entry) (stores : List Store) → entry_of word (entries_from es stores) ≡ merged (entry_of word es) (filter (is_to_word word) stores)
entry_from word es [] = refl
entry_from word es (s ∷ ss) = entry_from word (with_store s es) ss ∙ go (s.word == word) refl
  where
    go : (b : Bool) → (s.word == word) ≡ b → merged (entry_of word (with_store s es)) (filter (is_to_word word) ss)
        ≡ merged (entry_of word es) (cond b (s ∷ filter (is_to_word word) ss) (filter (is_to_word word) ss))
    go true t =
        let own = eqb-true s.word word t in
        ap (λ e. merged e (filter (is_to_word word) ss)) (ap (λ w. entry_of w (with_store s es)) (sym own) ∙ own_word s es ∙ ap (λ w. joined s (entry_of w es)) own)
    go false t = ap (λ e. merged e (filter (is_to_word word) ss)) (other_word s word es (λ own. false≢true (sym t ∙ eq-eqb s.word word own)))

pub entry_is_filter : EntryIsFilter
entry_is_filter word stores = entry_from word [] stores

ops-merged : (e : Entry) (stores : List Store) → (merged e stores).ops ≡ e.ops ++ map (λ (s : Store). s.op) stores
ops-merged e [] = sym (append-nil e.ops)
ops-merged e (s ∷ ss) = ops-merged (joined s e) ss ∙ append_assoc e.ops (s.op ∷ []) (map (λ (t : Store). t.op) ss)

pub ops_are_filter : OpsAreFilter
ops_are_filter word stores = ap (λ (e : Entry). e.ops) (entry_is_filter word stores) ∙ ops-merged (blank_entry word) (filter (is_to_word word) stores)

byte_from : (word k : ℕ) (es : List Entry) (stores : List Store) → k < 4 → marked_byte k (entry_of word (entries_from es stores)) ≡ option_or (last_byte word k stores) (marked_byte k (entry_of word es))
byte_from word k es [] h = refl
byte_from word k es (s ∷ ss) h =
    byte_from word k (with_store s es) ss h ∙ ap (option_or (last_byte word k ss)) (byte-with_store word k s es h)
    ∙ sym (or_else-assoc (last_byte word k ss) (stored_byte word k s) (marked_byte k (entry_of word es)))

blank_byte : (word k : ℕ) → k < 4 → marked_byte k (blank_entry word) ≡ None
blank_byte word zero h = refl
blank_byte word (suc zero) h = refl
blank_byte word (suc (suc zero)) h = refl
blank_byte word (suc (suc (suc zero))) h = refl
blank_byte word (suc (suc (suc (suc k)))) h = absurd (omega arith)

pub byte_is_last : ByteIsLast
byte_is_last word k stores h = byte_from word k [] stores h ∙ ap (option_or (last_byte word k stores)) (blank_byte word k h) ∙ or_none (last_byte word k stores)

has_from : (word : ℕ) (es : List Entry) (stores : List Store) → has_word word (entries_from es stores) ≡ (has_word word es || list_any (is_to_word word) stores)
has_from word es [] = sym (or_false (has_word word es))
  where
    or_false : (b : Bool) → (b || false) ≡ b
    or_false true = refl
    or_false false = refl
has_from word es (s ∷ ss) =
    has_from word (with_store s es) ss ∙ ap (λ b. b || list_any (is_to_word word) ss) (has_word-with_store word s es)
    ∙ turned (s.word == word) (has_word word es) (list_any (is_to_word word) ss)
  where
    turned : (a b c : Bool) → ((a || b) || c) ≡ (b || (a || c))
    turned true true c = refl
    turned true false c = refl
    turned false b c = refl

pub has_is_any : HasIsAny
has_is_any word stores = has_from word [] stores

take_from : (word : ℕ) (es : List Entry) (stores : List Store) → without word (entries_from es stores) ≡ entries_from (without word es) (filter (is_elsewhere word) stores)
take_from word es [] = refl
take_from word es (s ∷ ss) = take_from word (with_store s es) ss ∙ go (s.word == word) refl
  where
    go : (b : Bool) → (s.word == word) ≡ b → entries_from (without word (with_store s es)) (filter (is_elsewhere word) ss)
        ≡ entries_from (without word es) (cond (not b) (s ∷ filter (is_elsewhere word) ss) (filter (is_elsewhere word) ss))
    go true t =
        let own = eqb-true s.word word t in
        ap (λ xs. entries_from xs (filter (is_elsewhere word) ss)) (ap (λ w. without w (with_store s es)) (sym own) ∙ without-own s es ∙ ap (λ w. without w es) own)
    go false t = ap (λ xs. entries_from xs (filter (is_elsewhere word) ss)) (without-other s word es (λ own. false≢true (sym t ∙ eq-eqb s.word word own)))

pub take_filters : TakeFilters
take_filters word stores = take_from word [] stores

distinct_from : (es : List Entry) (stores : List Store) → HaveDistinctWords es → HaveDistinctWords (entries_from es stores)
distinct_from es [] d = d
distinct_from es (s ∷ ss) d = distinct_from (with_store s es) ss (HaveDistinctWords-with_store s es d)

pub always_distinct : AlwaysDistinct
always_distinct stores = distinct_from [] stores tt

-- ---- a whole buffer

pub put_is_behind : PutIsBehind
put_is_behind s w = same_groups refl (put_appends s w.current)

with_store-more : (s : Store) (es : List Entry) → length es ≤ length (with_store s es)
with_store-more s es = go (has_word s.word es) refl
  where
    go : (b : Bool) → has_word s.word es ≡ b → length es ≤ length (with_store s es)
    go true e = let l = with_store-old s es e in omega arith
    go false e = omega (arith, ap length (with_store-new s es e), length-append es (joined s (blank_entry s.word) ∷ []))

entries_from-more : (es : List Entry) (stores : List Store) → length es ≤ length (entries_from es stores)
entries_from-more es [] = omega arith
entries_from-more es (s ∷ ss) = omega (arith, with_store-more s es, entries_from-more (with_store s es) ss)

kept-entries_of : (stores : List Store) → kept (entries_of stores) ≡ map entries_of (kept_stores stores)
kept-entries_of [] = refl
kept-entries_of (s ∷ ss) = kept_some (entries_of (s ∷ ss)) (omega (arith, entries_from-more (joined s (blank_entry s.word) ∷ []) ss))

pub seal_is_up : SealIsUp
seal_is_up w = same_groups (ap (λ gs. map entries_of w.sealed ++ gs) (kept-entries_of w.current) ∙ sym (map-append entries_of w.sealed (kept_stores w.current))) refl

pub oldest_is_first : OldestIsFirst
oldest_is_first w = go w.sealed
  where
    go : (gs : List (List Store)) → oldest (entries_in (record { sealed = gs; current = w.current })) ≡ entries_of (oldest_stores_from gs w.current)
    go [] = refl
    go (g ∷ gs) = refl

pub take_is_drained : TakeIsDrained
take_is_drained word w = go w.sealed
  where
    go : (gs : List (List Store)) → after_take word (entries_in (record { sealed = gs; current = w.current })) ≡ entries_in (drained_from word gs w.current)
    go [] = same_groups refl (take_filters word w.current)
    go (g ∷ gs) =
        same_groups
        (ap (λ xs. kept xs ++ map entries_of gs) (take_filters word g) ∙ ap (λ xs. xs ++ map entries_of gs) (kept-entries_of (filter (is_elsewhere word) g))
        ∙ sym (map-append entries_of (kept_stores (filter (is_elsewhere word) g)) gs))
        refl

last_byte-append : (word k : ℕ) (xs ys : List Store) → last_byte word k (xs ++ ys) ≡ option_or (last_byte word k ys) (last_byte word k xs)
last_byte-append word k [] ys = sym (or_none (last_byte word k ys))
last_byte-append word k (s ∷ xs) ys =
    ap (λ o. option_or o (stored_byte word k s)) (last_byte-append word k xs ys) ∙ or_else-assoc (last_byte word k ys) (last_byte word k xs) (stored_byte word k s)

forward_from : (word k : ℕ) (gs : List (List Store)) (current : List Store) → k < 4
    → buffered_byte word k (map entries_of gs ++ entries_of current ∷ []) ≡ last_byte word k (all_stores gs ++ current)
forward_from word k [] current h = byte_is_last word k current h
forward_from word k (g ∷ gs) current h =
    ap (λ o. option_or o (marked_byte k (entry_of word (entries_of g)))) (forward_from word k gs current h)
    ∙ ap (option_or (last_byte word k (all_stores gs ++ current))) (byte_is_last word k g h)
    ∙ sym (last_byte-append word k g (all_stores gs ++ current)) ∙ ap (last_byte word k) (sym (append_assoc g (all_stores gs) current))

pub forward_is_last : ForwardIsLast
forward_is_last word k w h = forward_from word k w.sealed w.current h

pub put_single_is_behind : PutSingleIsBehind
put_single_is_behind s w = go (list_any (is_to_word s.word) w.current) (has_is_any s.word w.current)
  where
    go : (b : Bool) → has_word s.word (entries_of w.current) ≡ b
        → after_put_single s (entries_in w) ≡ entries_in (cond b (put_behind s w) (put_behind s (sealed_up w)))
    go true e = put_joins_own s (entries_in w) e ∙ put_is_behind s w
    go false e = put_after_seal s (entries_in w) e ∙ ap (after_put s) (seal_is_up w) ∙ put_is_behind s (sealed_up w)

any-append : (word : ℕ) (xs ys : List Store) → list_any (is_to_word word) (xs ++ ys) ≡ (list_any (is_to_word word) xs || list_any (is_to_word word) ys)
any-append word [] ys = refl
any-append word (s ∷ xs) ys = go (s.word == word) (any-append word xs ys)
  where
    go : (b : Bool) → list_any (is_to_word word) (xs ++ ys) ≡ (list_any (is_to_word word) xs || list_any (is_to_word word) ys)
        → (b || list_any (is_to_word word) (xs ++ ys)) ≡ ((b || list_any (is_to_word word) xs) || list_any (is_to_word word) ys)
    go true h = refl
    go false h = h

any_group_has : (word : ℕ) (gs : List (List Store)) (current : List Store)
    → any_has_word word (map entries_of gs ++ entries_of current ∷ []) ≡ list_any (is_to_word word) (all_stores gs ++ current)
any_group_has word [] current = or_false (has_word word (entries_of current)) ∙ has_is_any word current
  where
    or_false : (b : Bool) → (b || false) ≡ b
    or_false true = refl
    or_false false = refl
any_group_has word (g ∷ gs) current =
    ap (λ b. has_word word (entries_of g) || b) (any_group_has word gs current)
    ∙ ap (λ b. b || list_any (is_to_word word) (all_stores gs ++ current)) (has_is_any word g)
    ∙ sym (any-append word g (all_stores gs ++ current)) ∙ ap (list_any (is_to_word word)) (sym (append_assoc g (all_stores gs) current))

pub has_is_any_of_all : HasIsAnyOfAll
has_is_any_of_all word w = any_group_has word w.sealed w.current

pub drainable_is_any : DrainableIsAny
drainable_is_any word w = ap (has_word word) (oldest_is_first w) ∙ has_is_any word (oldest_stores w)

is_nil-map : (gs : List (List Store)) → is_nil (map entries_of gs) ≡ is_nil gs
is_nil-map [] = refl
is_nil-map (g ∷ gs) = refl

is_nil-entries_of : (stores : List Store) → is_nil (entries_of stores) ≡ is_nil stores
is_nil-entries_of [] = refl
is_nil-entries_of (s ∷ ss) = nonempty (entries_of (s ∷ ss)) (omega (arith, entries_from-more (joined s (blank_entry s.word) ∷ []) ss))

pub empty_is_none : EmptyIsNone
empty_is_none w = λ i. is_nil-map w.sealed i && is_nil-entries_of w.current i

pub sealed_is_some : SealedIsSome
sealed_is_some w = ap not (is_nil-map w.sealed)
