-- An operation stands at one position in two lists that are in program order, where up to it both have the same operations.
use Rattle.std.proofs.Common.{◌≡◌, ℕ, zero, suc, ◌<◌, ◌≤◌, List, [], ◌∷◌, Some, refl, sym, ap, ◌∙◌, arith}
use Rattle.std.specs.Prelude.{slice_get}
use Rattle.std.proofs.lemmas.Option.{none-some, same_Some}
use Rattle.memory_model.specs.declared.operation.Operation.{Operation}
use Rattle.window_model.proofs.following.Remaining.{IsAt}

abbrev pub AreSorted : List Operation → Type 0
AreSorted ops = (i j : ℕ) (a b : Operation) → slice_get ops i ≡ Some a → slice_get ops j ≡ Some b → i < j → a.place < b.place

abbrev pub HasAll : (bound : ℕ) → List Operation → List Operation → Type 0
HasAll bound xs ys = (k : ℕ) (y : Operation) → slice_get ys k ≡ Some y → y.place ≤ bound → IsAt xs y

behind_sorted : (x : Operation) (xs : List Operation) → AreSorted (x ∷ xs) → AreSorted xs
behind_sorted x xs s i j a b e f l = s (suc i) (suc j) a b e f (omega (arith, l))

-- what stands behind x and isn't x stands in the rest
behind_all : (bound : ℕ) (x y : Operation) (xs ys : List Operation) → AreSorted (x ∷ xs) → AreSorted (y ∷ ys) → y.place ≤ bound → HasAll bound (x ∷ xs) (y ∷ ys) → HasAll bound xs ys
behind_all bound x y xs ys sx sy low all k z e l = go at.position at.stands
  where
    at : IsAt (x ∷ xs) z
    at = all (suc k) z e l

    go : (p : ℕ) → slice_get (x ∷ xs) p ≡ Some z → IsAt xs z
    go (suc p) f = record { position = p; stands = f }
    go zero f = first (all 0 y refl low).position (all 0 y refl low).stands
      where
        -- then z is x, and y, which stands before z, stands in x's list
        first : (q : ℕ) → slice_get (x ∷ xs) q ≡ Some y → IsAt xs z
        first zero g =
            let one = ap (λ (o : Operation). o.place) (same_Some x z f) in
            let two = ap (λ (o : Operation). o.place) (same_Some x y g) in
            let later = sy 0 (suc k) y z refl e (omega arith) in
            absurd (omega (arith, one, two, later))
        first (suc q) g =
            let one = ap (λ (o : Operation). o.place) (same_Some x z f) in
            let later = sy 0 (suc k) y z refl e (omega arith) in
            let before = sx 0 (suc q) x y refl g (omega arith) in
            absurd (omega (arith, one, later, before))

pub same_position : (xs ys : List Operation) (i j : ℕ) (b : Operation) → AreSorted xs → AreSorted ys → HasAll b.place xs ys → HasAll b.place ys xs → slice_get xs i ≡ Some b → slice_get ys j ≡ Some b → i ≡ j
same_position [] ys i j b sx sy into onto e f = absurd (none-some b e)
same_position (x ∷ xs) [] i j b sx sy into onto e f = absurd (none-some b f)
same_position (x ∷ xs) (y ∷ ys) zero zero b sx sy into onto e f = refl
same_position (x ∷ xs) (y ∷ ys) zero (suc j) b sx sy into onto e f =
    let l = sy 0 (suc j) y b refl f (omega arith) in
    let at = into 0 y refl (omega (arith, l)) in
    absurd (not_before at.position at.stands l)
  where
    not_before : (q : ℕ) → slice_get (x ∷ xs) q ≡ Some y → y.place < b.place → ⊥
    not_before zero g l = let same = ap (λ (o : Operation). o.place) (sym (same_Some x y g) ∙ same_Some x b e) in omega (arith, same, l)
    not_before (suc q) g l = let same = ap (λ (o : Operation). o.place) (same_Some x b e) in let p = sx 0 (suc q) x y refl g (omega arith) in omega (arith, same, p, l)
same_position (x ∷ xs) (y ∷ ys) (suc i) zero b sx sy into onto e f =
    let l = sx 0 (suc i) x b refl e (omega arith) in
    let at = onto 0 x refl (omega (arith, l)) in
    absurd (not_before at.position at.stands l)
  where
    not_before : (q : ℕ) → slice_get (y ∷ ys) q ≡ Some x → x.place < b.place → ⊥
    not_before zero g l = let same = ap (λ (o : Operation). o.place) (sym (same_Some y x g) ∙ same_Some y b f) in omega (arith, same, l)
    not_before (suc q) g l = let same = ap (λ (o : Operation). o.place) (same_Some y b f) in let p = sy 0 (suc q) y x refl g (omega arith) in omega (arith, same, p, l)
same_position (x ∷ xs) (y ∷ ys) (suc i) (suc j) b sx sy into onto e f =
    let lx = sx 0 (suc i) x b refl e (omega arith) in
    let ly = sy 0 (suc j) y b refl f (omega arith) in
    ap (λ n. suc n) (same_position xs ys i j b (behind_sorted x xs sx) (behind_sorted y ys sy) (behind_all b.place x y xs ys sx sy (omega (arith, ly)) into) (behind_all b.place y x ys xs sy sx (omega (arith, lx)) onto) e f)
