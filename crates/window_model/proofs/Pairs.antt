-- Two lists whose elements belong together one by one.
use Rattle.std.proofs.Common.{◌≡◌, ℕ, zero, suc, List, [], ◌∷◌, ◌++◌, Some, ap, length, refl, subst}
use Rattle.std.specs.Prelude.{map, slice_get}
use Rattle.std.specs.List.{remove}
use Rattle.std.proofs.lemmas.Option.{none-some, same_Some}
use Rattle.window_model.specs.Pairs.{Pairs}

pub pairs_length : {X Y : Type 0} (R : X → Y → Type 0) (xs : List X) (ys : List Y) → Pairs R xs ys → length xs ≡ length ys
pairs_length R [] [] h = refl
pairs_length R [] (y ∷ ys) h = absurd h
pairs_length R (x ∷ xs) [] h = absurd h
pairs_length R (x ∷ xs) (y ∷ ys) h = ap (λ n. suc n) (pairs_length R xs ys h.1)

pub pairs_append : {X Y : Type 0} (R : X → Y → Type 0) (xs : List X) (ys : List Y) (us : List X) (vs : List Y) → Pairs R xs ys → Pairs R us vs → Pairs R (xs ++ us) (ys ++ vs)
pairs_append R [] [] us vs h k = k
pairs_append R [] (y ∷ ys) us vs h k = absurd h
pairs_append R (x ∷ xs) [] us vs h k = absurd h
pairs_append R (x ∷ xs) (y ∷ ys) us vs h k = (h.0, pairs_append R xs ys us vs h.1 k)

pub pairs_weaker : {X Y : Type 0} (R Q : X → Y → Type 0) (xs : List X) (ys : List Y) → ((k : ℕ) (x : X) (y : Y) → slice_get ys k ≡ Some y → R x y → Q x y) → Pairs R xs ys → Pairs Q xs ys
pairs_weaker R Q [] [] f h = tt
pairs_weaker R Q [] (y ∷ ys) f h = absurd h
pairs_weaker R Q (x ∷ xs) [] f h = absurd h
pairs_weaker R Q (x ∷ xs) (y ∷ ys) f h = (f zero x y refl h.0, pairs_weaker R Q xs ys (λ k u v e. f (suc k) u v e) h.1)

pub pairs_map : {X Y Z : Type 0} (R : X → Y → Type 0) (Q : Z → Y → Type 0) (change : X → Z) (xs : List X) (ys : List Y) → ((k : ℕ) (x : X) (y : Y) → slice_get ys k ≡ Some y → R x y → Q (change x) y) → Pairs R xs ys → Pairs Q (map change xs) ys
pairs_map R Q change [] [] f h = tt
pairs_map R Q change [] (y ∷ ys) f h = absurd h
pairs_map R Q change (x ∷ xs) [] f h = absurd h
pairs_map R Q change (x ∷ xs) (y ∷ ys) f h = (f zero x y refl h.0, pairs_map R Q change xs ys (λ k u v e. f (suc k) u v e) h.1)

pub pairs_remove : {X Y : Type 0} (R : X → Y → Type 0) (xs : List X) (ys : List Y) (k : ℕ) → Pairs R xs ys → Pairs R (remove xs k) (remove ys k)
pairs_remove R [] [] zero h = tt
pairs_remove R [] [] (suc k) h = tt
pairs_remove R [] (y ∷ ys) k h = absurd h
pairs_remove R (x ∷ xs) [] k h = absurd h
pairs_remove R (x ∷ xs) (y ∷ ys) zero h = h.1
pairs_remove R (x ∷ xs) (y ∷ ys) (suc k) h = (h.0, pairs_remove R xs ys k h.1)

-- ---- what belongs to the one at a position

pub record Beside {X Y : Type 0} (R : X → Y → Type 0) (ys : List Y) (x : X) (k : ℕ) : Type 0 where
  pub other : Y
  pub stands : slice_get ys k ≡ Some other
  pub belongs : R x other

pub pairs_left : {X Y : Type 0} (R : X → Y → Type 0) (xs : List X) (ys : List Y) (k : ℕ) (x : X) → Pairs R xs ys → slice_get xs k ≡ Some x → Beside R ys x k
pairs_left R [] ys k x h e = absurd (none-some x e)
pairs_left R (u ∷ xs) [] k x h e = absurd h
pairs_left R (u ∷ xs) (v ∷ ys) zero x h e = record { other = v; stands = refl; belongs = subst (λ y. R y v) (same_Some u x e) h.0 }
pairs_left R (u ∷ xs) (v ∷ ys) (suc k) x h e = let b = pairs_left R xs ys k x h.1 e in record { other = b.other; stands = b.stands; belongs = b.belongs }

pub pairs_right : {X Y : Type 0} (R : X → Y → Type 0) (xs : List X) (ys : List Y) (k : ℕ) (y : Y) → Pairs R xs ys → slice_get ys k ≡ Some y → Beside (λ v u. R u v) xs y k
pairs_right R xs [] k y h e = absurd (none-some y e)
pairs_right R [] (v ∷ ys) k y h e = absurd h
pairs_right R (u ∷ xs) (v ∷ ys) zero y h e = record { other = u; stands = refl; belongs = subst (λ z. R u z) (same_Some v y e) h.0 }
pairs_right R (u ∷ xs) (v ∷ ys) (suc k) y h e = let b = pairs_right R xs ys k y h.1 e in record { other = b.other; stands = b.stands; belongs = b.belongs }
