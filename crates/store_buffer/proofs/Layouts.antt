-- Entries as groups, and what a change of the list leaves of them.
use Rattle.std.proofs.Common.{◌≡◌, ◌≢◌, ℕ, zero, suc, ◌+◌, ◌-◌, ◌<◌, ◌≤◌, Bool, true, false, cond, ◌||◌, ltb, List, [], ◌∷◌, ◌++◌, length, get_or, take, drop, Option, Some, None, refl, sym, ap, subst, ◌∙◌, arith, length-drop, length-append, take-append-drop, append-nil}
use Rattle.std.specs.Prelude.{◌==◌, sum}
use Rattle.std.specs.List.{AllByRecursion as Each}
use Rattle.std.proofs.lemmas.List.{take_at, drop_at, drop-drop, take-append-le, drop-append-le, length-take-le, take_rest, drop_all}
use Rattle.std.proofs.lemmas.Bool.{false≢true, eqb-true, ne_eqb, lt-ltb, ltb-true}
use Rattle.std.proofs.lemmas.Bool.Decides.{nat_tests}
use Rattle.std.proofs.lemmas.List.Sums.{sum_by-cons, sum_by-append, sum_by-take-le}
use Rattle.std.specs.Option.{option_or}
use Rattle.machine_types.specs.declared.limits.TheConstants.{BUFFER_ENTRIES}
use Rattle.store_buffer.specs.declared.entry.Entry.{Entry}
use Rattle.store_buffer.specs.declared.entry.Store.{Store}
use Rattle.store_buffer.specs.Entry.{blank_entry, joined, marked_byte, has_word, entry_of, with_store, without}
use Rattle.store_buffer.specs.Groups.{Groups, groups_of, fits, HaveDistinctWords, IsLawful, is_nil, kept, total_count, entry_count, any_has_word, buffered_byte, oldest_from, is_empty, after_put, after_put_single, after_seal, after_take}
use Rattle.store_buffer.specs.Layout.{sealed_in, groups_in, AreGroupsLaidOut, byte_in, newest_byte, one_less}
use Rattle.store_buffer.proofs.Places.{has_word-append, without-append, length-without, entry_of-append, with_store-new, with_store-old, put-adds, HaveDistinctWords-with_store, HaveDistinctWords-without}

pub sum-cons : (n : ℕ) (ns : List ℕ) → sum (n ∷ ns) ≡ n + sum ns
sum-cons n ns = sum_by-cons (λ x. x) n ns

-- sealed groups lie in the front of the list
pub sealed_in-front : (ns : List ℕ) (front xs ys : List Entry) → sum ns ≤ length front → sealed_in ns (front ++ xs) ≡ sealed_in ns (front ++ ys)
sealed_in-front [] front xs ys h = refl
sealed_in-front (n ∷ ns) front xs ys h =
    let e = sum-cons n ns in
    let n_within : n ≤ length front = omega arith in
    let rest : sum ns ≤ length (drop n front) = omega (arith, length-drop n front) in
    rw (take-append-le n front xs n_within, take-append-le n front ys n_within, drop-append-le n front xs n_within, drop-append-le n front ys n_within)
    (ap (λ gs. take n front ∷ gs) (sealed_in-front ns (drop n front) xs ys rest))

pub sealed_in-more : (ns : List ℕ) (m : ℕ) (es : List Entry) → sealed_in (ns ++ m ∷ []) es ≡ sealed_in ns es ++ take m (drop (sum ns) es) ∷ []
sealed_in-more [] m es = refl
sealed_in-more (n ∷ ns) m es =
    ap (λ gs. take n es ∷ gs) (sealed_in-more ns m (drop n es) ∙ ap (λ xs. sealed_in ns (drop n es) ++ take m xs ∷ []) (drop-drop (sum ns) n es ∙ ap (λ k. drop k es) (sym (sum-cons n ns))))

pub total_count-sealed_in : (ns : List ℕ) (es : List Entry) → sum ns ≤ length es → total_count (sealed_in ns es) ≡ sum ns
total_count-sealed_in [] es h = refl
total_count-sealed_in (n ∷ ns) es h =
    let e = sum-cons n ns in
    let rest : sum ns ≤ length (drop n es) = omega (arith, length-drop n es) in
    omega (arith, length-take-le n es (omega arith), total_count-sealed_in ns (drop n es) rest)

pub entry_count-groups_in : (ns : List ℕ) (es : List Entry) → sum ns ≤ length es → entry_count (groups_in ns es) ≡ length es
entry_count-groups_in ns es h = omega (arith, total_count-sealed_in ns es h, length-drop (sum ns) es)

-- ---- no sealed group is empty

pub nonempty : (xs : List Entry) → 0 < length xs → is_nil xs ≡ false
nonempty [] h = absurd (omega arith)
nonempty (x ∷ xs) h = refl

pub kept-sealed_in : (ns : List ℕ) (es : List Entry) → Each (λ n. 0 < n) ns → sum ns ≤ length es → Each (λ g. is_nil g ≡ false) (sealed_in ns es)
kept-sealed_in [] es p h = tt
kept-sealed_in (n ∷ ns) es p h =
    let e = sum-cons n ns in
    let here : 0 < n = p.0 in
    let rest : sum ns ≤ length (drop n es) = omega (arith, length-drop n es) in
    (nonempty (take n es) (omega (arith, length-take-le n es (omega arith))), kept-sealed_in ns (drop n es) p.1 rest)

pub is_nil-sealed_in : (ns : List ℕ) (es : List Entry) → is_nil (sealed_in ns es) ≡ is_nil ns
is_nil-sealed_in [] es = refl
is_nil-sealed_in (n ∷ ns) es = refl

-- each sealed group has an entry at least
pub length-le-sum : (ns : List ℕ) → Each (λ n. 0 < n) ns → length ns ≤ sum ns
length-le-sum [] p = omega arith
length-le-sum (n ∷ ns) p = let here : 0 < n = p.0 in omega (arith, sum-cons n ns, length-le-sum ns p.1)

pub Each-push : {X : Type 0} (P : X → Type 0) (xs : List X) (x : X) → Each P xs → P x → Each P (xs ++ x ∷ [])
Each-push P [] x h p = (p, tt)
Each-push P (y ∷ xs) x h p = (h.0, Each-push P xs x h.1 p)

pub lawful : (ns : List ℕ) (es : List Entry) → AreGroupsLaidOut ns es → IsLawful (groups_in ns es)
lawful ns es h =
    record {
      kept = kept-sealed_in ns es h.some h.within;
      distinct = Each-push HaveDistinctWords (sealed_in ns es) (drop (sum ns) es) h.distinct h.current_distinct;
      few = let few = h.few in omega (arith, entry_count-groups_in ns es h.within);
    }

-- ---- what all groups have of a word

drop_of_more : (n : ℕ) (ns : List ℕ) (es : List Entry) → drop (sum (n ∷ ns)) es ≡ drop (sum ns) (drop n es)
drop_of_more n ns es = ap (λ k. drop k es) (sum-cons n ns) ∙ sym (drop-drop (sum ns) n es)

or_false : (b : Bool) → (b || false) ≡ b
or_false true = refl
or_false false = refl

pub any_has_word-groups_in : (word : ℕ) (ns : List ℕ) (es : List Entry) → any_has_word word (sealed_in ns es ++ drop (sum ns) es ∷ []) ≡ has_word word es
any_has_word-groups_in word [] es = or_false (has_word word es)
any_has_word-groups_in word (n ∷ ns) es =
    ap (λ xs. has_word word (take n es) || any_has_word word (sealed_in ns (drop n es) ++ xs ∷ [])) (drop_of_more n ns es)
    ∙ ap (λ b. has_word word (take n es) || b) (any_has_word-groups_in word ns (drop n es))
    ∙ sym (has_word-append word (take n es) (drop n es))
    ∙ ap (has_word word) (take-append-drop n es)

-- ---- the newest byte

pub or_else-assoc : (a b c : Option ℕ) → option_or (option_or a b) c ≡ option_or a (option_or b c)
or_else-assoc None b c = refl
or_else-assoc (Some x) b c = refl

pub newest_byte-append : (word k : ℕ) (xs ys : List Entry) → newest_byte word k (xs ++ ys) ≡ option_or (newest_byte word k ys) (newest_byte word k xs)
newest_byte-append word k [] ys = go (newest_byte word k ys)
  where
    go : (o : Option ℕ) → o ≡ option_or o None
    go None = refl
    go (Some x) = refl
newest_byte-append word k (e ∷ xs) ys =
    ap (λ o. option_or o (byte_in word k e)) (newest_byte-append word k xs ys) ∙ or_else-assoc (newest_byte word k ys) (newest_byte word k xs) (byte_in word k e)

newest_byte-none : (word k : ℕ) (g : List Entry) → has_word word g ≡ false → newest_byte word k g ≡ None
newest_byte-none word k [] h = refl
newest_byte-none word k (e ∷ g) h = go (e.word == word) h (newest_byte-none word k g)
  where
    go : (b : Bool) → (b || has_word word g) ≡ false → (has_word word g ≡ false → newest_byte word k g ≡ None)
        → option_or (newest_byte word k g) (cond b (marked_byte k e) None) ≡ None
    go true p rest = absurd (cc)
    go false p rest = rw (rest p) refl

pub or_none : (o : Option ℕ) → option_or o None ≡ o
or_none None = refl
or_none (Some x) = refl

-- in a group it is that of the word's entry
newest_byte-group : (word k : ℕ) (g : List Entry) → HaveDistinctWords g → newest_byte word k g ≡ marked_byte k (entry_of word g)
newest_byte-group word k [] d = go k
  where
    go : (k : ℕ) → None ≡ marked_byte k (blank_entry word)
    go zero = refl
    go (suc zero) = refl
    go (suc (suc zero)) = refl
    go (suc (suc (suc zero))) = refl
    go (suc (suc (suc (suc k)))) = refl
newest_byte-group word k (e ∷ g) d = go (e.word == word) refl (newest_byte-group word k g d.1)
  where
    go : (b : Bool) → (e.word == word) ≡ b → newest_byte word k g ≡ marked_byte k (entry_of word g)
        → option_or (newest_byte word k g) (cond b (marked_byte k e) None) ≡ marked_byte k (cond b e (entry_of word g))
    go true t h = rw (newest_byte-none word k g (ap (λ w. has_word w g) (sym (eqb-true e.word word t)) ∙ d.0)) refl
    go false t h = or_none (newest_byte word k g) ∙ h

pub buffered_byte-groups_in : (word k : ℕ) (ns : List ℕ) (es : List Entry) → Each HaveDistinctWords (sealed_in ns es) → HaveDistinctWords (drop (sum ns) es)
    → buffered_byte word k (sealed_in ns es ++ drop (sum ns) es ∷ []) ≡ newest_byte word k es
buffered_byte-groups_in word k [] es d dc = sym (newest_byte-group word k es dc)
buffered_byte-groups_in word k (n ∷ ns) es d dc =
    ap (λ xs. buffered_byte word k (take n es ∷ (sealed_in ns (drop n es) ++ xs ∷ []))) (drop_of_more n ns es)
    ∙ ap (λ o. option_or o (marked_byte k (entry_of word (take n es)))) (buffered_byte-groups_in word k ns (drop n es) d.1 (subst HaveDistinctWords (drop_of_more n ns es) dc))
    ∙ ap (option_or (newest_byte word k (drop n es))) (sym (newest_byte-group word k (take n es) d.0))
    ∙ sym (newest_byte-append word k (take n es) (drop n es))
    ∙ ap (newest_byte word k) (take-append-drop n es)

-- ---- what each call leaves

pub same_groups : {a c : List (List Entry)} {b d : List Entry} → a ≡ c → b ≡ d → Path Groups (record { sealed = a; current = b }) (record { sealed = c; current = d })
same_groups e f = λ i. record { sealed = e i; current = f i }

-- a list of entries that stands for groups without a word twice
pub laid_out : (ns : List ℕ) (es : List Entry) (b : Groups) → groups_in ns es ≡ b → Each (λ n. 0 < n) ns → sum ns ≤ length es → length es ≤ BUFFER_ENTRIES
    → Each HaveDistinctWords b.sealed → HaveDistinctWords b.current → AreGroupsLaidOut ns es
laid_out ns es b e some within few d dc =
    record {
      some = some;
      within = within;
      few = few;
      distinct = subst (Each HaveDistinctWords) (sym (ap (λ (x : Groups). x.sealed) e)) d;
      current_distinct = subst HaveDistinctWords (sym (ap (λ (x : Groups). x.current) e)) dc;
    }

-- a store

abbrev pub put_list : Store → ℕ → List Entry → List Entry
put_list s start es = take start es ++ with_store s (drop start es)

pub put_groups : (s : Store) (ns : List ℕ) (es : List Entry) → sum ns ≤ length es → groups_in ns (put_list s (sum ns) es) ≡ after_put s (groups_in ns es)
put_groups s ns es h =
    let l : length (take (sum ns) es) ≡ sum ns = length-take-le (sum ns) es h in
    let room : sum ns ≤ length (take (sum ns) es) = omega arith in
    same_groups
    (sealed_in-front ns (take (sum ns) es) (with_store s (drop (sum ns) es)) (drop (sum ns) es) room ∙ ap (sealed_in ns) (take-append-drop (sum ns) es))
    (drop_at (take (sum ns) es) (with_store s (drop (sum ns) es)) (sum ns) l)

pub put_length-old : (s : Store) (start : ℕ) (es : List Entry) → start ≤ length es → has_word s.word (drop start es) ≡ true → length (put_list s start es) ≡ length es
put_length-old s start es h found =
    omega (arith, length-append (take start es) (with_store s (drop start es)), length-take-le start es h, with_store-old s (drop start es) found, length-drop start es)

pub put_length-new : (s : Store) (start : ℕ) (es : List Entry) → start ≤ length es → has_word s.word (drop start es) ≡ false → length (put_list s start es) ≡ length es + 1
put_length-new s start es h none =
    omega (arith, length-append (take start es) (with_store s (drop start es)), length-take-le start es h, ap length (with_store-new s (drop start es) none), length-append (drop start es) (joined s (blank_entry s.word) ∷ []), length-drop start es)

-- the buffer has the word in its open group, or not all of its entries are used
abbrev pub HasRoom : Store → ℕ → List Entry → Type 0
HasRoom s start es = ((has_word s.word (drop start es) ≡ false) × (length es ≡ BUFFER_ENTRIES)) → ⊥

pub put_length : (s : Store) (start : ℕ) (es : List Entry) → start ≤ length es → length es ≤ BUFFER_ENTRIES → HasRoom s start es
    → (length es ≤ length (put_list s start es)) × (length (put_list s start es) ≤ BUFFER_ENTRIES)
put_length s start es h few room = go (has_word s.word (drop start es)) refl
  where
    go : (b : Bool) → has_word s.word (drop start es) ≡ b → (length es ≤ length (put_list s start es)) × (length (put_list s start es) ≤ BUFFER_ENTRIES)
    go true e = let l = put_length-old s start es h e in (omega arith, omega arith)
    go false e =
        let l = put_length-new s start es h e in
        let other : length es ≢ BUFFER_ENTRIES = λ all. room (e, all) in
        (omega arith, omega arith)

pub put_keeps : (s : Store) (ns : List ℕ) (es : List Entry) → AreGroupsLaidOut ns es → HasRoom s (sum ns) es → AreGroupsLaidOut ns (put_list s (sum ns) es)
put_keeps s ns es h room =
    let w = h.within in
    let l = put_length s (sum ns) es h.within h.few room in
    let l0 = l.0 in
    laid_out ns (put_list s (sum ns) es) (after_put s (groups_in ns es)) (put_groups s ns es h.within) h.some (omega arith) l.1 h.distinct (HaveDistinctWords-with_store s (drop (sum ns) es) h.current_distinct)

-- the open group is closed

sum-push : (ns : List ℕ) (m : ℕ) → sum (ns ++ m ∷ []) ≡ sum ns + m
sum-push ns m = sum_by-append (λ x. x) ns (m ∷ []) ∙ ap (λ k. sum ns + k) (let e = sum-cons m [] in omega arith)

pub kept_some : (g : List Entry) → 0 < length g → kept g ≡ g ∷ []
kept_some [] h = absurd (omega arith)
kept_some (e ∷ g) h = refl

pub seal_groups : (ns : List ℕ) (m : ℕ) (es : List Entry) → m ≡ length es - sum ns → 0 < m → groups_in (ns ++ m ∷ []) es ≡ after_seal (groups_in ns es)
seal_groups ns m es is some =
    let l = length-drop (sum ns) es in
    let whole : take m (drop (sum ns) es) ≡ drop (sum ns) es = ap (λ k. take k (drop (sum ns) es)) is ∙ take_rest es (sum ns) in
    let all : length es ≤ sum (ns ++ m ∷ []) = omega (arith, sum-push ns m) in
    same_groups
    (sealed_in-more ns m es ∙ ap (λ g. sealed_in ns es ++ g ∷ []) whole ∙ ap (λ gs. sealed_in ns es ++ gs) (sym (kept_some (drop (sum ns) es) (omega arith))))
    (drop_all (sum (ns ++ m ∷ [])) es all)

pub seal_keeps : (ns : List ℕ) (m : ℕ) (es : List Entry) → m ≡ length es - sum ns → 0 < m → AreGroupsLaidOut ns es → AreGroupsLaidOut (ns ++ m ∷ []) es
seal_keeps ns m es is some h =
    let w = h.within in
    let l = length-drop (sum ns) es in
    laid_out (ns ++ m ∷ []) es (after_seal (groups_in ns es)) (seal_groups ns m es is some) (Each-push (λ n. 0 < n) ns m h.some some) (omega (arith, sum-push ns m)) h.few
    (subst (λ gs. Each HaveDistinctWords (sealed_in ns es ++ gs)) (sym (kept_some (drop (sum ns) es) (omega arith))) (Each-push HaveDistinctWords (sealed_in ns es) (drop (sum ns) es) h.distinct h.current_distinct))
    tt

-- an empty open group stays
pub seal_nothing : (ns : List ℕ) (es : List Entry) → length es ≤ sum ns → after_seal (groups_in ns es) ≡ groups_in ns es
seal_nothing ns es h =
    let none : drop (sum ns) es ≡ [] = drop_all (sum ns) es h in
    same_groups (ap (λ g. sealed_in ns es ++ kept g) none ∙ append-nil (sealed_in ns es)) (sym none)

pub few_groups : (ns : List ℕ) (es : List Entry) → AreGroupsLaidOut ns es → sum ns < length es → length ns < BUFFER_ENTRIES
few_groups ns es h more = let few = h.few in omega (arith, length-le-sum ns h.some)

-- ---- a store under total store order

pub put_joins_own : (s : Store) (b : Groups) → has_word s.word b.current ≡ true → after_put_single s b ≡ after_put s b
put_joins_own s b e = rw e refl

pub put_after_seal : (s : Store) (b : Groups) → has_word s.word b.current ≡ false → after_put_single s b ≡ after_put s (after_seal b)
put_after_seal s b e = rw e refl

no_word : (word : ℕ) (g : List Entry) → length g ≤ 0 → has_word word g ≡ false
no_word word [] h = refl
no_word word (e ∷ g) h = absurd (omega arith)

-- no entry is new
pub single_old : (s : Store) (ns : List ℕ) (es : List Entry) → AreGroupsLaidOut ns es → length (put_list s (sum ns) es) ≤ length es
    → groups_in ns (put_list s (sum ns) es) ≡ after_put_single s (groups_in ns es)
single_old s ns es h same = go (has_word s.word (drop (sum ns) es)) refl
  where
    go : (b : Bool) → has_word s.word (drop (sum ns) es) ≡ b → groups_in ns (put_list s (sum ns) es) ≡ after_put_single s (groups_in ns es)
    go true e = put_groups s ns es h.within ∙ sym (put_joins_own s (groups_in ns es) e)
    go false e = absurd (omega (arith, put_length-new s (sum ns) es h.within e))

-- the first entry of the open group
pub single_first : (s : Store) (ns : List ℕ) (es : List Entry) → AreGroupsLaidOut ns es → length es ≤ sum ns
    → groups_in ns (put_list s (sum ns) es) ≡ after_put_single s (groups_in ns es)
single_first s ns es h none =
    put_groups s ns es h.within ∙ ap (after_put s) (sym (seal_nothing ns es none))
    ∙ sym (put_after_seal s (groups_in ns es) (no_word s.word (drop (sum ns) es) (omega (arith, length-drop (sum ns) es))))

-- a new entry behind others of the open group
pub single_new : (s : Store) (ns : List ℕ) (m : ℕ) (es : List Entry) → AreGroupsLaidOut ns es → m ≡ length es - sum ns → 0 < m → length es < length (put_list s (sum ns) es)
    → groups_in (ns ++ m ∷ []) (put_list s (sum ns) es) ≡ after_put_single s (groups_in ns es)
single_new s ns m es h is some more = go (has_word s.word (drop (sum ns) es)) refl
  where
    sums : sum (ns ++ m ∷ []) ≡ length es
    sums = let w = h.within in omega (arith, sum-push ns m)

    none_behind : has_word s.word (drop (sum (ns ++ m ∷ [])) es) ≡ false
    none_behind = no_word s.word (drop (sum (ns ++ m ∷ [])) es) (omega (arith, sums, length-drop (sum (ns ++ m ∷ [])) es))

    go : (b : Bool) → has_word s.word (drop (sum ns) es) ≡ b → groups_in (ns ++ m ∷ []) (put_list s (sum ns) es) ≡ after_put_single s (groups_in ns es)
    go true e = absurd (omega (arith, put_length-old s (sum ns) es h.within e))
    go false e =
        ap (groups_in (ns ++ m ∷ [])) (sym (put-adds s (sum ns) es e) ∙ put-adds s (sum (ns ++ m ∷ [])) es none_behind)
        ∙ put_groups s (ns ++ m ∷ []) es (omega (arith, sums)) ∙ ap (after_put s) (seal_groups ns m es is some)
        ∙ sym (put_after_seal s (groups_in ns es) e)

pub single_keeps : (s : Store) (ns : List ℕ) (m : ℕ) (es : List Entry) → AreGroupsLaidOut ns es → HasRoom s (sum ns) es → m ≡ length es - sum ns → 0 < m → length es < length (put_list s (sum ns) es)
    → AreGroupsLaidOut (ns ++ m ∷ []) (put_list s (sum ns) es)
single_keeps s ns m es h room is some more = go (has_word s.word (drop (sum ns) es)) refl
  where
    sums : sum (ns ++ m ∷ []) ≡ length es
    sums = let w = h.within in omega (arith, sum-push ns m)

    none_behind : has_word s.word (drop (sum (ns ++ m ∷ [])) es) ≡ false
    none_behind = no_word s.word (drop (sum (ns ++ m ∷ [])) es) (omega (arith, sums, length-drop (sum (ns ++ m ∷ [])) es))

    go : (b : Bool) → has_word s.word (drop (sum ns) es) ≡ b → AreGroupsLaidOut (ns ++ m ∷ []) (put_list s (sum ns) es)
    go true e = absurd (omega (arith, put_length-old s (sum ns) es h.within e))
    go false e =
        subst (AreGroupsLaidOut (ns ++ m ∷ [])) (sym (put-adds s (sum (ns ++ m ∷ [])) es none_behind) ∙ put-adds s (sum ns) es e)
        (put_keeps s (ns ++ m ∷ []) es (seal_keeps ns m es is some h) (λ both. room (e, both.1)))

-- ---- an entry leaves

abbrev pub oldest_in : List ℕ → List Entry → List Entry
oldest_in ns es = oldest_from (sealed_in ns es) (drop (sum ns) es)

not_below : (n : ℕ) → n ≤ 1 → ltb 1 n ≡ false
not_below n h = grind (arith, nat_tests)

-- the oldest group stands in front
front_has : (word : ℕ) (n : ℕ) (es : List Entry) → has_word word (take n es) ≡ true → has_word word es ≡ true
front_has word n es e = ap (has_word word) (sym (take-append-drop n es)) ∙ has_word-append word (take n es) (drop n es) ∙ ap (λ b. b || has_word word (drop n es)) e

pub oldest_has : (word : ℕ) (ns : List ℕ) (es : List Entry) → has_word word (oldest_in ns es) ≡ true → has_word word es ≡ true
oldest_has word [] es e = e
oldest_has word (n ∷ ns) es e = front_has word n es e

pub oldest_entry : (word : ℕ) (ns : List ℕ) (es : List Entry) → has_word word (oldest_in ns es) ≡ true → entry_of word es ≡ entry_of word (oldest_in ns es)
oldest_entry word [] es e = refl
oldest_entry word (n ∷ ns) es e = ap (entry_of word) (sym (take-append-drop n es)) ∙ entry_of-append word (take n es) (drop n es) e

front_without : (word n : ℕ) (es : List Entry) → has_word word (take n es) ≡ true → without word es ≡ without word (take n es) ++ drop n es
front_without word n es e = ap (without word) (sym (take-append-drop n es)) ∙ without-append word (take n es) (drop n es) e

pub take_groups : (word : ℕ) (ns : List ℕ) (es : List Entry) → AreGroupsLaidOut ns es → has_word word (oldest_in ns es) ≡ true
    → groups_in (one_less ns) (without word es) ≡ after_take word (groups_in ns es)
take_groups word [] es h e = refl
take_groups word (n ∷ ns) es h e = go (without word (take n es)) refl
  where
    short : length (without word (take n es)) + 1 ≡ n
    short = let w = h.within in omega (arith, length-without word (take n es) e, length-take-le n es (omega (arith, sum-cons n ns)))

    go : (g : List Entry) → without word (take n es) ≡ g → groups_in (one_less (n ∷ ns)) (without word es) ≡ after_take word (groups_in (n ∷ ns) es)
    go [] is =
        let one : n ≡ 1 = omega (arith, short, ap length is) in
        let left : without word es ≡ drop n es = front_without word n es e ∙ ap (λ g. g ++ drop n es) is in
        ap (λ b. groups_in (cond b ((n - 1) ∷ ns) ns) (without word es)) (not_below n (omega arith)) ∙ ap (groups_in ns) left
        ∙ same_groups (ap (λ g. kept g ++ sealed_in ns (drop n es)) (sym is)) (sym (drop_of_more n ns es))
    go (x ∷ g) is =
        let size : length (x ∷ g) ≡ n - 1 = omega (arith, short, ap length is) in
        let more : 1 < n = omega (arith, short, ap length is) in
        let left : without word es ≡ (x ∷ g) ++ drop n es = front_without word n es e ∙ ap (λ xs. xs ++ drop n es) is in
        let rest : drop (n - 1) ((x ∷ g) ++ drop n es) ≡ drop n es = drop_at (x ∷ g) (drop n es) (n - 1) size in
        ap (λ b. groups_in (cond b ((n - 1) ∷ ns) ns) (without word es)) (lt-ltb 1 n more) ∙ ap (groups_in ((n - 1) ∷ ns)) left
        ∙ same_groups
        ((λ i. take_at (x ∷ g) (drop n es) (n - 1) size i ∷ sealed_in ns (rest i)) ∙ ap (λ xs. kept xs ++ sealed_in ns (drop n es)) (sym is))
        (drop_of_more (n - 1) ns ((x ∷ g) ++ drop n es) ∙ ap (drop (sum ns)) rest ∙ sym (drop_of_more n ns es))

pub Each-append : {X : Type 0} (P : X → Type 0) (xs ys : List X) → Each P xs → Each P ys → Each P (xs ++ ys)
Each-append P [] ys h k = k
Each-append P (x ∷ xs) ys h k = (h.0, Each-append P xs ys h.1 k)

kept_distinct : (g : List Entry) → HaveDistinctWords g → Each HaveDistinctWords (kept g)
kept_distinct [] d = tt
kept_distinct (e ∷ g) d = (d, tt)

after_take_sealed : (word : ℕ) (ns : List ℕ) (es : List Entry) → AreGroupsLaidOut ns es → Each HaveDistinctWords (after_take word (groups_in ns es)).sealed
after_take_sealed word [] es h = tt
after_take_sealed word (n ∷ ns) es h =
    Each-append HaveDistinctWords (kept (without word (take n es))) (sealed_in ns (drop n es)) (kept_distinct (without word (take n es)) (HaveDistinctWords-without word (take n es) h.distinct.0)) h.distinct.1

after_take_current : (word : ℕ) (ns : List ℕ) (es : List Entry) → AreGroupsLaidOut ns es → HaveDistinctWords (after_take word (groups_in ns es)).current
after_take_current word [] es h = HaveDistinctWords-without word es h.current_distinct
after_take_current word (n ∷ ns) es h = h.current_distinct

one_less_some : (ns : List ℕ) → Each (λ n. 0 < n) ns → Each (λ n. 0 < n) (one_less ns)
one_less_some [] h = tt
one_less_some (n ∷ ns) h = go (ltb 1 n) refl
  where
    go : (b : Bool) → ltb 1 n ≡ b → Each (λ n. 0 < n) (cond b ((n - 1) ∷ ns) ns)
    go true t = let more = ltb-true 1 n t in (omega arith, h.1)
    go false t = h.1

sum-one_less : (ns : List ℕ) → Each (λ n. 0 < n) ns → sum (one_less ns) ≤ sum ns - 1
sum-one_less [] h = omega arith
sum-one_less (n ∷ ns) h = go (ltb 1 n) refl
  where
    go : (b : Bool) → ltb 1 n ≡ b → sum (cond b ((n - 1) ∷ ns) ns) ≤ sum (n ∷ ns) - 1
    go true t = let more = ltb-true 1 n t in omega (arith, sum-cons n ns, sum-cons (n - 1) ns)
    go false t =
        let few : (1 < n) → ⊥ = λ more. false≢true (sym t ∙ lt-ltb 1 n more) in
        let some : 0 < n = h.0 in
        omega (arith, sum-cons n ns)

pub take_keeps : (word : ℕ) (ns : List ℕ) (es : List Entry) → AreGroupsLaidOut ns es → has_word word (oldest_in ns es) ≡ true → AreGroupsLaidOut (one_less ns) (without word es)
take_keeps word ns es h e =
    let few = h.few in
    let within = h.within in
    let short = length-without word es (oldest_has word ns es e) in
    laid_out (one_less ns) (without word es) (after_take word (groups_in ns es)) (take_groups word ns es h e) (one_less_some ns h.some) (omega (arith, sum-one_less ns h.some)) (omega arith) (after_take_sealed word ns es h) (after_take_current word ns es h)

-- ---- full

pub fits-groups_in : (word : ℕ) (ns : List ℕ) (es : List Entry) → AreGroupsLaidOut ns es → fits word (groups_in ns es) ≡ (has_word word (drop (sum ns) es) || ltb (length es) BUFFER_ENTRIES)
fits-groups_in word ns es h = ap (λ n. has_word word (drop (sum ns) es) || ltb n BUFFER_ENTRIES) (entry_count-groups_in ns es h.within)

full_from : (a : Bool) (n : ℕ) → n ≤ BUFFER_ENTRIES → (a || ltb n BUFFER_ENTRIES) ≡ false → (a ≡ false) × (n ≡ BUFFER_ENTRIES)
full_from true n few h = absurd (cc)
full_from false n few h = (refl, (let at : (n < BUFFER_ENTRIES) → ⊥ = λ below. false≢true (sym h ∙ lt-ltb n BUFFER_ENTRIES below) in omega arith))

full_to : (a : Bool) (n : ℕ) → (a ≡ false) × (n ≡ BUFFER_ENTRIES) → (a || ltb n BUFFER_ENTRIES) ≡ false
full_to a n h = rw (h.0, h.1) refl

-- a store finds no entry exactly where its word is not in the open group and all entries are used
pub full_is : (word : ℕ) (ns : List ℕ) (es : List Entry) (b : Groups) → groups_in ns es ≡ b → AreGroupsLaidOut ns es
    → ((has_word word (drop (sum ns) es) ≡ false) × (length es ≡ BUFFER_ENTRIES) → fits word b ≡ false) × (fits word b ≡ false → (has_word word (drop (sum ns) es) ≡ false) × (length es ≡ BUFFER_ENTRIES))
full_is word ns es b view h =
    let same : fits word b ≡ (has_word word (drop (sum ns) es) || ltb (length es) BUFFER_ENTRIES) = ap (fits word) (sym view) ∙ fits-groups_in word ns es h in (
      λ full. same ∙ full_to (has_word word (drop (sum ns) es)) (length es) full,
      λ none. full_from (has_word word (drop (sum ns) es)) (length es) h.few (sym same ∙ none),
    )

pub no_length : {A : Type 0} (xs : List A) → (length xs == 0) ≡ is_nil xs
no_length [] = refl
no_length (x ∷ xs) = ne_eqb (length (x ∷ xs)) 0 (λ none. absurd (omega arith))

pub is_empty-groups_in : (ns : List ℕ) (es : List Entry) → AreGroupsLaidOut ns es → (length es == 0) ≡ is_empty (groups_in ns es)
is_empty-groups_in [] es h = no_length es
is_empty-groups_in (n ∷ ns) es h =
    let some : 0 < n = h.some.0 in
    let w = h.within in
    ne_eqb (length es) 0 (λ none. absurd (omega (arith, sum-cons n ns)))

-- ---- one group after another

pub length-sealed_in : (ns : List ℕ) (es : List Entry) → length (sealed_in ns es) ≡ length ns
length-sealed_in [] es = refl
length-sealed_in (n ∷ ns) es = ap suc (length-sealed_in ns (drop n es))

pub length-groups_of : (ns : List ℕ) (es : List Entry) → length (groups_of (groups_in ns es)) ≡ length ns + 1
length-groups_of ns es = omega (arith, length-append (sealed_in ns es) (drop (sum ns) es ∷ []), length-sealed_in ns es)

pub group_sealed : (ns : List ℕ) (i : ℕ) (es : List Entry) (current : List Entry) → i < length ns
    → get_or (sealed_in ns es ++ current ∷ []) i [] ≡ take (get_or ns i 0) (drop (sum (take i ns)) es)
group_sealed [] i es current h = absurd (omega arith)
group_sealed (m ∷ ns) zero es current h = refl
group_sealed (m ∷ ns) (suc i) es current h =
    group_sealed ns i (drop m es) current (omega arith) ∙ ap (take (get_or ns i 0)) (sym (drop_of_more m (take i ns) es))

pub group_current : (ns : List ℕ) (es : List Entry) (current : List Entry) → get_or (sealed_in ns es ++ current ∷ []) (length ns) [] ≡ current
group_current [] es current = refl
group_current (m ∷ ns) es current = group_current ns (drop m es) current

pub sum-take-at : (ns : List ℕ) (i : ℕ) → i < length ns → sum (take i ns) + get_or ns i 0 ≤ sum ns
sum-take-at [] i h = absurd (omega arith)
sum-take-at (m ∷ ns) zero h = omega (arith, sum-cons m ns)
sum-take-at (m ∷ ns) (suc i) h = omega (arith, sum-take-at ns i (omega arith), sum-cons m ns, sum-cons m (take i ns))

pub sum-take-le : (ns : List ℕ) (i : ℕ) → sum (take i ns) ≤ sum ns
sum-take-le ns i = sum_by-take-le (λ x. x) ns i
