-- Where a word has its entry in a list, and what a change there leaves.
use Rattle.std.proofs.Common.{◌≡◌, ℕ, zero, suc, ◌+◌, ◌<◌, ◌≤◌, Bool, true, false, cond, ◌||◌, List, [], ◌∷◌, ◌++◌, length, get_or, set, take, drop, Option, Some, None, refl, sym, ap, subst, ◌∙◌, arith, ◌⊎◌, inl, inr, append_assoc, take-append-drop}
use Rattle.std.proofs.lemmas.List.{take-set-le, drop-set-add, get_or-drop}
use Rattle.std.specs.Prelude.{◌==◌, nat_lt, is_some}
use Rattle.std.specs.List.{Any, remove, position_or_len}
use Rattle.std.proofs.lemmas.Bool.{false≢true, eqb-true, eq-eqb, ne_eqb}
use Rattle.std.proofs.lemmas.Grind.{common_steps}
use Rattle.store_buffer.specs.declared.entry.Entry.{Entry}
use Rattle.store_buffer.specs.declared.entry.Store.{Store}
use Rattle.store_buffer.specs.Entry.{blank_entry, joined, has_word, entry_of, with_store, without}
use Rattle.store_buffer.specs.Groups.{HaveDistinctWords}
use Rattle.store_buffer.specs.Layout.{place_of}

-- the first entry of a word stands here
pub record IsPlace (word : ℕ) (es : List Entry) (i : ℕ) : Type 0 where
  pub within : i < length es
  pub has : has_word word es ≡ true
  pub entry : (d : Entry) → get_or es i d ≡ entry_of word es
  pub removed : remove es i ≡ without word es
  pub joins : (s : Store) → s.word ≡ word → set es i (joined s (entry_of word es)) ≡ with_store s es

here : (word : ℕ) (e : Entry) (es : List Entry) → (e.word == word) ≡ true → IsPlace word (e ∷ es) zero
here word e es t =
    record {
      within = omega arith;
      has = rw t refl;
      entry = λ d. rw t refl;
      removed = rw t refl;
      joins = λ s own. rw (own, t) refl;
    }

behind : (word n m : ℕ) (e : Entry) (es : List Entry) → m ≡ suc n → (e.word == word) ≡ false → IsPlace word es n → IsPlace word (e ∷ es) m
behind word n m e es next t p =
    rw next
    (record {
      within = let h = p.within in omega arith;
      has = rw t p.has;
      entry = λ d. rw t (p.entry d);
      removed = rw t (ap (λ xs. e ∷ xs) p.removed);
      joins = λ s own. rw (own, t) (ap (λ xs. e ∷ xs) (p.joins s own));
    })

abbrev place : ℕ → List Entry → ℕ
place word es = position_or_len (λ (e : Entry). e.word == word) es

first : (word : ℕ) (es : List Entry) → ((has_word word es ≡ false) × (place word es ≡ length es)) ⊎ IsPlace word es (place word es)
first word [] = inl (refl, refl)
first word (e ∷ es) = go (e.word == word) refl (first word es)
  where
    go : (b : Bool) → (e.word == word) ≡ b → ((has_word word es ≡ false) × (place word es ≡ length es)) ⊎ IsPlace word es (place word es)
        → ((has_word word (e ∷ es) ≡ false) × (place word (e ∷ es) ≡ length (e ∷ es))) ⊎ IsPlace word (e ∷ es) (place word (e ∷ es))
    go true t h = inr (rw t (here word e es t))
    go false t (inl h) = inl (rw t h.0, rw t (let l = h.1 in omega arith))
    go false t (inr h) = inr (rw t (behind word (place word es) (1 + place word es) e es (omega arith) t h))

abbrev Answer : ℕ → List Entry → Option ℕ → Type 0
Answer word es None = has_word word es ≡ false
Answer word es (Some i) = IsPlace word es i

pub place_answer : (word : ℕ) (es : List Entry) → Answer word es (place_of word es)
place_answer word es = elim (first word es) [
  | inl h ↦ (let t : nat_lt (place word es) (length es) ≡ false = let e = h.1 in grind (arith, common_steps) in rw t h.0)
  | inr h ↦ (let t : nat_lt (place word es) (length es) ≡ true = let e = h.within in grind (arith, common_steps) in rw t h)
]

pub is_place : (word i : ℕ) (es : List Entry) → place_of word es ≡ Some i → IsPlace word es i
is_place word i es e = subst (Answer word es) e (place_answer word es)

pub no_place : (word : ℕ) (es : List Entry) → place_of word es ≡ None → has_word word es ≡ false
no_place word es e = subst (Answer word es) e (place_answer word es)

pub place_found : (word : ℕ) (es : List Entry) → is_some (place_of word es) ≡ has_word word es
place_found word es = go (place_of word es) (place_answer word es)
  where
    go : (o : Option ℕ) → Answer word es o → is_some o ≡ has_word word es
    go None h = sym h
    go (Some i) h = sym h.has

-- a store to a word that has no entry makes one at the end
pub with_store-new : (s : Store) (es : List Entry) → has_word s.word es ≡ false → with_store s es ≡ es ++ joined s (blank_entry s.word) ∷ []
with_store-new s [] h = refl
with_store-new s (e ∷ es) h = go (e.word == s.word) refl h (with_store-new s es)
  where
    go : (b : Bool) → (e.word == s.word) ≡ b → (b || has_word s.word es) ≡ false
        → (has_word s.word es ≡ false → with_store s es ≡ es ++ joined s (blank_entry s.word) ∷ [])
        → with_store s (e ∷ es) ≡ (e ∷ es) ++ joined s (blank_entry s.word) ∷ []
    go true t absent rest = absurd (cc)
    go false t absent rest = rw t (ap (λ xs. e ∷ xs) (rest absent))

pub with_store-old : (s : Store) (es : List Entry) → has_word s.word es ≡ true → length (with_store s es) ≡ length es
with_store-old s [] h = cc
with_store-old s (e ∷ es) h = go (e.word == s.word) refl h (with_store-old s es)
  where
    go : (b : Bool) → (e.word == s.word) ≡ b → (b || has_word s.word es) ≡ true
        → (has_word s.word es ≡ true → length (with_store s es) ≡ length es)
        → length (with_store s (e ∷ es)) ≡ length (e ∷ es)
    go true t found rest = rw t refl
    go false t found rest = rw t (let l = rest found in omega arith)

-- ---- two lists of entries, one after the other

pub has_word-append : (word : ℕ) (xs ys : List Entry) → has_word word (xs ++ ys) ≡ (has_word word xs || has_word word ys)
has_word-append word [] ys = refl
has_word-append word (e ∷ xs) ys = go (e.word == word) (has_word-append word xs ys)
  where
    go : (b : Bool) → has_word word (xs ++ ys) ≡ (has_word word xs || has_word word ys)
        → (b || has_word word (xs ++ ys)) ≡ ((b || has_word word xs) || has_word word ys)
    go true h = refl
    go false h = h

pub entry_of-append : (word : ℕ) (xs ys : List Entry) → has_word word xs ≡ true → entry_of word (xs ++ ys) ≡ entry_of word xs
entry_of-append word [] ys h = cc
entry_of-append word (e ∷ xs) ys h = go (e.word == word) h (entry_of-append word xs ys)
  where
    go : (b : Bool) → (b || has_word word xs) ≡ true → (has_word word xs ≡ true → entry_of word (xs ++ ys) ≡ entry_of word xs)
        → cond b e (entry_of word (xs ++ ys)) ≡ cond b e (entry_of word xs)
    go true found rest = refl
    go false found rest = rest found

pub without-append : (word : ℕ) (xs ys : List Entry) → has_word word xs ≡ true → without word (xs ++ ys) ≡ without word xs ++ ys
without-append word [] ys h = cc
without-append word (e ∷ xs) ys h = go (e.word == word) h (without-append word xs ys)
  where
    go : (b : Bool) → (b || has_word word xs) ≡ true → (has_word word xs ≡ true → without word (xs ++ ys) ≡ without word xs ++ ys)
        → cond b (xs ++ ys) (e ∷ without word (xs ++ ys)) ≡ cond b xs (e ∷ without word xs) ++ ys
    go true found rest = refl
    go false found rest = ap (λ zs. e ∷ zs) (rest found)

pub length-without : (word : ℕ) (xs : List Entry) → has_word word xs ≡ true → length (without word xs) + 1 ≡ length xs
length-without word [] h = cc
length-without word (e ∷ xs) h = go (e.word == word) h (length-without word xs)
  where
    go : (b : Bool) → (b || has_word word xs) ≡ true → (has_word word xs ≡ true → length (without word xs) + 1 ≡ length xs)
        → length (cond b xs (e ∷ without word xs)) + 1 ≡ length (e ∷ xs)
    go true found rest = omega arith
    go false found rest = let l = rest found in omega arith

-- ---- no two entries of a word

pub has_word-with_store : (word : ℕ) (s : Store) (es : List Entry) → has_word word (with_store s es) ≡ ((s.word == word) || has_word word es)
has_word-with_store word s [] = refl
has_word-with_store word s (e ∷ es) = go (e.word == s.word) refl (has_word-with_store word s es)
  where
    swapped : (a b c : Bool) → (a || (b || c)) ≡ (b || (a || c))
    swapped true true c = refl
    swapped true false c = refl
    swapped false b c = refl

    twice : (a c : Bool) → (a || c) ≡ (a || (a || c))
    twice true c = refl
    twice false c = refl

    go : (b : Bool) → (e.word == s.word) ≡ b → has_word word (with_store s es) ≡ ((s.word == word) || has_word word es)
        → has_word word (cond b (joined s e ∷ es) (e ∷ with_store s es)) ≡ ((s.word == word) || ((e.word == word) || has_word word es))
    go true t h =
        let same : e.word ≡ s.word = eqb-true e.word s.word t in
        rw same (twice (s.word == word) (has_word word es))
    go false t h = rw h (swapped (e.word == word) (s.word == word) (has_word word es))

pub HaveDistinctWords-with_store : (s : Store) (es : List Entry) → HaveDistinctWords es → HaveDistinctWords (with_store s es)
HaveDistinctWords-with_store s [] d = (refl, tt)
HaveDistinctWords-with_store s (e ∷ es) d = go (e.word == s.word) refl (HaveDistinctWords-with_store s es d.1)
  where
    go : (b : Bool) → (e.word == s.word) ≡ b → HaveDistinctWords (with_store s es) → HaveDistinctWords (cond b (joined s e ∷ es) (e ∷ with_store s es))
    go true t h = d
    go false t h = (
      has_word-with_store e.word s es ∙ ap (λ b. b || has_word e.word es) (ne_eqb s.word e.word (λ same. false≢true (sym t ∙ eq-eqb e.word s.word (sym same)))) ∙ d.0,
      h,
    )

pub has_word-without : (word other : ℕ) (es : List Entry) → has_word word es ≡ false → has_word word (without other es) ≡ false
has_word-without word other [] h = refl
has_word-without word other (e ∷ es) h = go (e.word == other) (or_parts _ _ h) (has_word-without word other es (or_parts _ _ h).1)
  where
    or_parts : (a b : Bool) → (a || b) ≡ false → (a ≡ false) × (b ≡ false)
    or_parts true b absent = absurd (cc)
    or_parts false b absent = (refl, absent)

    go : (b : Bool) → ((e.word == word) ≡ false) × (has_word word es ≡ false) → has_word word (without other es) ≡ false
        → has_word word (cond b es (e ∷ without other es)) ≡ false
    go true parts rest = parts.1
    go false parts rest = rw (parts.0, rest) refl

pub HaveDistinctWords-without : (word : ℕ) (es : List Entry) → HaveDistinctWords es → HaveDistinctWords (without word es)
HaveDistinctWords-without word [] d = tt
HaveDistinctWords-without word (e ∷ es) d = go (e.word == word) (HaveDistinctWords-without word es d.1)
  where
    go : (b : Bool) → HaveDistinctWords (without word es) → HaveDistinctWords (cond b es (e ∷ without word es))
    go true h = d.1
    go false h = (has_word-without e.word word es d.0, h)

-- ---- a store is taken in behind the front

pub put-joins : (s : Store) (start i : ℕ) (es : List Entry) (d : Entry) → place_of s.word (drop start es) ≡ Some i
    → set es (start + i) (joined s (get_or es (start + i) d)) ≡ take start es ++ with_store s (drop start es)
put-joins s start i es d at =
    let p = is_place s.word i (drop start es) at in
    let x = joined s (get_or es (start + i) d) in
    let here : get_or es (start + i) d ≡ entry_of s.word (drop start es) = sym (get_or-drop start es i d) ∙ p.entry d in
    let low : start ≤ start + i = omega arith in
    sym (take-append-drop start (set es (start + i) x))
    ∙ ap (λ front. front ++ drop start (set es (start + i) x)) (take-set-le start es (start + i) x low)
    ∙ ap (λ rest. take start es ++ rest) (drop-set-add start es i x ∙ ap (λ e. set (drop start es) i (joined s e)) here ∙ p.joins s refl)

pub put-adds : (s : Store) (start : ℕ) (es : List Entry) → has_word s.word (drop start es) ≡ false
    → es ++ joined s (blank_entry s.word) ∷ [] ≡ take start es ++ with_store s (drop start es)
put-adds s start es none =
    let e = joined s (blank_entry s.word) in
    ap (λ xs. xs ++ e ∷ []) (sym (take-append-drop start es)) ∙ append_assoc (take start es) (drop start es) (e ∷ [])
    ∙ ap (λ rest. take start es ++ rest) (sym (with_store-new s (drop start es) none))

any_at : (word : ℕ) (es : List Entry) (k : ℕ) (x : Entry) → k < length es → get_or es k x ≡ x → x.word ≡ word → has_word word es ≡ true
any_at word [] k x h is own = absurd (omega arith)
any_at word (e ∷ es) zero x h is own = ap (λ b. b || has_word word es) (eq-eqb e.word word (ap (λ (y : Entry). y.word) is ∙ own))
any_at word (e ∷ es) (suc k) x h is own = go (e.word == word) (any_at word es k x (omega arith) is own)
  where
    go : (b : Bool) → has_word word es ≡ true → (b || has_word word es) ≡ true
    go true found = refl
    go false found = found

pub any_has : (word : ℕ) (es : List Entry) → Any (λ (e : Entry). e.word ≡ word) es → has_word word es ≡ true
any_has word es h = any_at word es h.0 h.1 h.2 h.3 h.4
