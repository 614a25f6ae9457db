-- The last element of a list that passes a test, and tests of neighbouring addresses.
use Rattle.std.proofs.Common.{◌≡◌, ℕ, zero, suc, ◌+◌, ◌<◌, ◌≤◌, List, [], ◌∷◌, ◌++◌, Bool, true, false, Option, Some, None, refl, cond, sym, ap, ◌∙◌, ◌⊎◌, inl, inr, arith, subst}
use Rattle.std.specs.Prelude.{filter, nat_eq}
use Rattle.std.specs.List.{last_or, list_all, list_any, range_with_len}
use Rattle.std.proofs.lemmas.Bool.{and_parts, eqb-false, eqb-true, or_from, or_left, or_parts, or_right}
use Rattle.std.proofs.lemmas.List.{append-nil, append_assoc}

-- ---- the last

-- an element passes, and none behind it does
pub record Last {X : Type 0} (test : X → Bool) (xs : List X) : Type 0 where
  pub front : List X
  pub last : X
  pub back : List X
  pub whole : xs ≡ front ++ last ∷ back
  pub passes : test last ≡ true
  pub none : list_any test back ≡ false

pub found : {X : Type 0} (test : X → Bool) (xs : List X) → (list_any test xs ≡ false) ⊎ Last test xs
found test [] = inl refl
found {X = X} test (x ∷ rest) = go (test x) refl (found test rest)
  where
    go : (b : Bool) → test x ≡ b → (list_any test rest ≡ false) ⊎ Last test rest → (list_any test (x ∷ rest) ≡ false) ⊎ Last test (x ∷ rest)
    go b e (inr l) = inr (record { front = x ∷ l.front; last = l.last; back = l.back; whole = ap (λ ys. x ∷ ys) l.whole; passes = l.passes; none = l.none })
    go true e (inl n) = inr (record { front = []; last = x; back = rest; whole = refl; passes = e; none = n })
    go false e (inl n) = inl (or_from (test x) (list_any test rest) e n)

filtered_none : {X : Type 0} (test : X → Bool) (xs : List X) → list_any test xs ≡ false → filter test xs ≡ []
filtered_none test [] e = refl
filtered_none test (x ∷ rest) e = let s = or_parts (test x) (list_any test rest) e in rw (s.0, filtered_none test rest s.1) refl

pub last_end : {X : Type 0} (o : Option X) (xs : List X) (x : X) → last_or o (xs ++ x ∷ []) ≡ Some x
last_end o [] x = refl
last_end o (y ∷ xs) x = last_end (Some y) xs x

filtered_at : {X : Type 0} (test : X → Bool) (front : List X) (x : X) (back : List X) → test x ≡ true → list_any test back ≡ false → filter test (front ++ x ∷ back) ≡ filter test front ++ x ∷ []
filtered_at test [] x back e n = rw (e, filtered_none test back n) refl
filtered_at test (y ∷ front) x back e n = go (test y) (filtered_at test front x back e n)
  where
    go : (b : Bool) → filter test (front ++ x ∷ back) ≡ filter test front ++ x ∷ [] → cond b (y ∷ filter test (front ++ x ∷ back)) (filter test (front ++ x ∷ back)) ≡ cond b (y ∷ filter test front) (filter test front) ++ x ∷ []
    go true rest = ap (λ ys. y ∷ ys) rest
    go false rest = rest

-- behind others it is the last
pub last_is : {X : Type 0} (test : X → Bool) (others : List X) (front : List X) (x : X) (back : List X) → test x ≡ true → list_any test back ≡ false → last_or None (others ++ filter test (front ++ x ∷ back)) ≡ Some x
last_is test others front x back e n =
    ap (λ ys. last_or None (others ++ ys)) (filtered_at test front x back e n)
    ∙ ap (last_or None) (sym (append_assoc others (filter test front) (x ∷ [])))
    ∙ last_end None (others ++ filter test front) x

pub last_of_found : {X : Type 0} (test : X → Bool) (xs : List X) (l : Last test xs) → last_or None (filter test xs) ≡ Some l.last
last_of_found test xs l = ap (λ ys. last_or None (filter test ys)) l.whole ∙ last_is test [] l.front l.last l.back l.passes l.none

pub last_of_none : {X : Type 0} (test : X → Bool) (xs : List X) → list_any test xs ≡ false → last_or None (filter test xs) ≡ None
last_of_none test xs e = ap (last_or None) (filtered_none test xs e)

pub none_filtered : {X : Type 0} (test : X → Bool) (others xs : List X) → list_any test xs ≡ false → last_or None (others ++ filter test xs) ≡ last_or None others
none_filtered test others xs e = ap (λ ys. last_or None (others ++ ys)) (filtered_none test xs e) ∙ ap (last_or None) (append-nil others)

-- ---- neighbouring addresses

pub any_address : (test : ℕ → Bool) (a n x : ℕ) → a ≤ x → x < a + n → test x ≡ true → list_any test (range_with_len a n) ≡ true
any_address test a zero x l k e = absurd (omega (arith, l, k))
any_address test a (suc n) x l k e = go (nat_eq a x) refl (λ m. any_address test (a + 1) n x m (omega (arith, k)) e)
  where
    go : (b : Bool) → nat_eq a x ≡ b → (a + 1 ≤ x → list_any test (range_with_len (a + 1) n) ≡ true) → list_any test (range_with_len a (suc n)) ≡ true
    go true f later = or_left (test a) (list_any test (range_with_len (a + 1) n)) (subst (λ y. test y ≡ true) (sym (eqb-true a x f)) e)
    go false f later = or_right (test a) (list_any test (range_with_len (a + 1) n)) (later (omega (arith, l, eqb-false a x f)))

pub all_addresses : (test : ℕ → Bool) (a n x : ℕ) → list_all test (range_with_len a n) ≡ true → a ≤ x → x < a + n → test x ≡ true
all_addresses test a zero x h l k = absurd (omega (arith, l, k))
all_addresses test a (suc n) x h l k =
    let s = and_parts (test a) (list_all test (range_with_len (a + 1) n)) h in
    go (nat_eq a x) refl s.0 (λ m. all_addresses test (a + 1) n x s.1 m (omega (arith, k)))
  where
    go : (b : Bool) → nat_eq a x ≡ b → test a ≡ true → (a + 1 ≤ x → test x ≡ true) → test x ≡ true
    go true f here later = subst (λ y. test y ≡ true) (eqb-true a x f) here
    go false f here later = later (omega (arith, l, eqb-false a x f))
