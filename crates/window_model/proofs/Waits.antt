-- Laws of sets of positions: what is in a set are elements of a list that are of some kind, as the set is made and as an element leaves.
use Rattle.std.proofs.Common.{◌≡◌, ℕ, zero, suc, ◌<◌, List, [], ◌∷◌, ◌++◌, Bool, true, false, Option, Some, None, refl, sym, ap, ◌∙◌, ◌||◌, arith, subst}
use Rattle.std.specs.Prelude.{nat_eq, slice_get}
use Rattle.std.specs.List.{list_any, remove}
use Rattle.std.specs.Option.{option_map_or}
use Rattle.std.proofs.lemmas.Bool.{false≢true, and_parts, eq-eqb, eqb-false, eqb-true, or_left, or_right}
use Rattle.window_model.specs.Waits.{Waits, has_any, none, of_registers, only, stood_at, those, when, without, ◌∪◌}
use Rattle.window_model.proofs.Positions.{at_append, at_remove}

-- one of two tests
pub either : (P : Type 0) (a b : Bool) → (a || b) ≡ true → (a ≡ true → P) → (b ≡ true → P) → P
either P true b e f g = f refl
either P false b e f g = g e

-- an element at a position is of some kind
pub record At {X : Type 0} (P : X → Type 0) (xs : List X) (k : ℕ) : Type 0 where
  pub element : X
  pub stands : slice_get xs k ≡ Some element
  pub is : P element

-- what is in the set are elements of this kind
abbrev pub Only : {X : Type 0} → (X → Type 0) → List X → Waits → Type 0
Only P xs s = (k : ℕ) → s k ≡ true → At P xs k

pub only_none : {X : Type 0} (P : X → Type 0) (xs : List X) → Only P xs none
only_none P xs k e = absurd (false≢true e)

pub only_union : {X : Type 0} (P : X → Type 0) (xs : List X) (s t : Waits) → Only P xs s → Only P xs t → Only P xs (s ∪ t)
only_union P xs s t f g k e = either (At P xs k) (s k) (t k) e (f k) (g k)

pub only_when : {X : Type 0} (P : X → Type 0) (xs : List X) (c : Bool) (s : Waits) → (c ≡ true → Only P xs s) → Only P xs (when c s)
only_when P xs c s f k e = let h = and_parts c (s k) e in f h.0 k h.1

pub only_one : {X : Type 0} (P : X → Type 0) (xs : List X) (p : ℕ) (a : X) → slice_get xs p ≡ Some a → P a → Only P xs (only p)
only_one P xs p a e h k m = record { element = a; stands = ap (slice_get xs) (eqb-true k p m) ∙ e; is = h }

pub only_registers : {X : Type 0} (P : X → Type 0) (xs : List X) (registers : ℕ → Waits) (rs : List ℕ)
    → ((r k : ℕ) → list_any (nat_eq r) rs ≡ true → registers r k ≡ true → At P xs k) → Only P xs (of_registers registers rs)
only_registers P xs registers [] f k e = absurd (false≢true e)
only_registers P xs registers (q ∷ rest) f k e =
    either (At P xs k) (registers q k) (of_registers registers rest k) e
    (λ h. f q k (or_left (nat_eq q q) (list_any (nat_eq q) rest) (same q)) h)
    (only_registers P xs registers rest (λ r j m h. f r j (or_right (nat_eq r q) (list_any (nat_eq r) rest) m) h) k)
  where
    same : (n : ℕ) → nat_eq n n ≡ true
    same n = eq-eqb n n refl

pub only_weaker : {X : Type 0} (P Q : X → Type 0) (xs : List X) (s : Waits) → ((k : ℕ) (a : X) → slice_get xs k ≡ Some a → P a → Q a) → Only P xs s → Only Q xs s
only_weaker P Q xs s w f k e = let h = f k e in record { element = h.element; stands = h.stands; is = w k h.element h.stands h.is }

pub only_longer : {X : Type 0} (P : X → Type 0) (xs ys : List X) (s : Waits) → Only P xs s → Only P (xs ++ ys) s
only_longer P xs ys s f k e = let h = f k e in record { element = h.element; stands = at_append xs ys k h.element h.stands; is = h.is }

pub only_without : {X : Type 0} (P : X → Type 0) (xs : List X) (p : ℕ) (s : Waits) → Only P xs s → Only P (remove xs p) (without p s)
only_without P xs p s f k e = let h = f (stood_at p k) e in record { element = h.element; stands = at_remove xs p k ∙ h.stands; is = h.is }

-- ---- those that pass a test

pub record Those {X : Type 0} (test : X → Bool) (xs : List X) (k : ℕ) : Type 0 where
  pub element : X
  pub stands : slice_get xs k ≡ Some element
  pub passes : test element ≡ true

pub those_are : {X : Type 0} (test : X → Bool) (xs : List X) (k : ℕ) → those test xs k ≡ true → Those test xs k
those_are {X = X} test xs k e = go (slice_get xs k) refl e
  where
    go : (o : Option X) → slice_get xs k ≡ o → option_map_or test o false ≡ true → Those test xs k
    go None f h = absurd (false≢true h)
    go (Some a) f h = record { element = a; stands = f; passes = h }

pub those_at : {X : Type 0} (test : X → Bool) (xs : List X) (k : ℕ) (a : X) → slice_get xs k ≡ Some a → test a ≡ true → those test xs k ≡ true
those_at test xs k a e h = ap (λ o. option_map_or test o false) e ∙ h

-- an element leaves: the same test of those that stay
pub those_without : {X : Type 0} (test : X → Bool) (xs : List X) (p k : ℕ) → without p (those test xs) k ≡ those test (remove xs p) k
those_without test xs p k = ap (λ o. option_map_or test o false) (sym (at_remove xs p k))

-- ---- whether a set has any of the first positions

pub has_any_at : (n : ℕ) (s : Waits) (k : ℕ) → k < n → s k ≡ true → has_any n s ≡ true
has_any_at zero s k l e = absurd (omega (arith, l))
has_any_at (suc n) s k l e = go (nat_eq k n) refl (λ m. has_any_at n s k m e)
  where
    go : (b : Bool) → nat_eq k n ≡ b → (k < n → has_any n s ≡ true) → has_any (suc n) s ≡ true
    go true h below = or_left (s n) (has_any n s) (subst (λ j. s j ≡ true) (eqb-true k n h) e)
    go false h below = or_right (s n) (has_any n s) (below (omega (arith, l, eqb-false k n h)))

pub has_any_none : (n : ℕ) (s : Waits) → ((k : ℕ) → k < n → s k ≡ true → ⊥) → has_any n s ≡ false
has_any_none zero s f = refl
has_any_none (suc n) s f = go (s n) refl (has_any_none n s (λ k l. f k (omega (arith, l))))
  where
    go : (b : Bool) → s n ≡ b → has_any n s ≡ false → (b || has_any n s) ≡ false
    go true e ih = absurd (f n (omega arith) e)
    go false e ih = ih
