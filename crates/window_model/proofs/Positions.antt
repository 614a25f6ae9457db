-- What stands at a position of a list, as it grows at its end and as an element leaves it.
use Rattle.std.proofs.Common.{◌≡◌, ℕ, zero, suc, ◌+◌, ◌<◌, ◌≤◌, List, [], ◌∷◌, ◌++◌, Some, refl, cond, sym, ap, ◌∙◌, ⊎_elim, arith, length, add-one, subst}
use Rattle.std.specs.Prelude.{map, slice_get}
use Rattle.std.specs.List.{remove}
use Rattle.std.proofs.lemmas.Bool.{cases_lt, lt-ltb, le-ltb}
use Rattle.std.proofs.lemmas.Option.{none-some, same_Some}
use Rattle.window_model.specs.Waits.{stood_at}

-- ---- at the end of a list

pub at_append : {X : Type 0} (xs ys : List X) (k : ℕ) (a : X) → slice_get xs k ≡ Some a → slice_get (xs ++ ys) k ≡ Some a
at_append [] ys k a e = absurd (none-some a e)
at_append (x ∷ xs) ys zero a e = e
at_append (x ∷ xs) ys (suc k) a e = at_append xs ys k a e

pub at_end : {X : Type 0} (xs : List X) (a : X) → slice_get (xs ++ a ∷ []) (length xs) ≡ Some a
at_end [] a = refl
at_end (x ∷ xs) a = at_end xs a

-- in a list with one more, an element is the new one or stood there
pub at_longer : {X : Type 0} (P : X → Type 0) (xs : List X) (b : X) (k : ℕ) (a : X) → slice_get (xs ++ b ∷ []) k ≡ Some a → (slice_get xs k ≡ Some a → P a) → (k ≡ length xs → P b) → P a
at_longer P [] b zero a e old new = subst P (same_Some b a e) (new refl)
at_longer P [] b (suc k) a e old new = absurd (none-some a e)
at_longer P (x ∷ xs) b zero a e old new = old e
at_longer P (x ∷ xs) b (suc k) a e old new = at_longer P xs b k a e old (λ h. new (ap (λ n. suc n) h))

-- ---- an element leaves

pub stood_before : (p k : ℕ) → k < p → stood_at p k ≡ k
stood_before p k l = ap (λ b. cond b k (k + 1)) (lt-ltb k p l)

pub stood_behind : (p k : ℕ) → p ≤ k → stood_at p k ≡ k + 1
stood_behind p k l = ap (λ b. cond b k (k + 1)) (le-ltb k p l)

stood_suc : (p k : ℕ) → stood_at (suc p) (suc k) ≡ suc (stood_at p k)
stood_suc p k =
    let next : suc k + 1 ≡ suc (k + 1) = omega arith in
    ⊎_elim
    (λ l. stood_before (suc p) (suc k) (omega (arith, l)) ∙ ap (λ n. suc n) (sym (stood_before p k l)))
    (λ l. stood_behind (suc p) (suc k) (omega (arith, l)) ∙ (next ∙ ap (λ n. suc n) (sym (stood_behind p k l))))
    (cases_lt k p)

-- what is at k now stood where `stood_at` says
pub at_remove : {X : Type 0} (xs : List X) (p k : ℕ) → slice_get (remove xs p) k ≡ slice_get xs (stood_at p k)
at_remove [] zero k = refl
at_remove [] (suc p) k = refl
at_remove (x ∷ xs) zero k = sym (ap (slice_get (x ∷ xs)) (stood_behind zero k (omega arith) ∙ add-one k))
at_remove (x ∷ xs) (suc p) zero = sym (ap (slice_get (x ∷ xs)) (stood_before (suc p) zero (omega arith)))
at_remove (x ∷ xs) (suc p) (suc k) = at_remove xs p k ∙ sym (ap (slice_get (x ∷ xs)) (stood_suc p k))

pub map-remove : {X Y : Type 0} (f : X → Y) (xs : List X) (p : ℕ) → map f (remove xs p) ≡ remove (map f xs) p
map-remove f [] zero = refl
map-remove f [] (suc p) = refl
map-remove f (x ∷ xs) zero = refl
map-remove f (x ∷ xs) (suc p) = ap (λ ys. f x ∷ ys) (map-remove f xs p)

pub length_remove : {X : Type 0} (xs : List X) (k : ℕ) → k < length xs → suc (length (remove xs k)) ≡ length xs
length_remove [] k l = absurd (omega (arith, l))
length_remove (x ∷ xs) zero l = refl
length_remove (x ∷ xs) (suc k) l = ap (λ n. suc n) (length_remove xs k (omega (arith, l)))
