-- A stable sort by address gives the names as by_address does, and the last at or below an address stands before the first above it.
use Rattle.std.proofs.Common.{◌≡◌, ℕ, zero, suc, ◌<◌, ◌≤◌, Bool, true, false, cond, List, [], ◌∷◌, length, get_or, filter, nat_cmp, is_lt, Some, None, refl, sym, ap, ◌∙◌, arith, inl, inr, suc-le-suc, zero-le}
use Rattle.std.proofs.lemmas.Bool.{cond-true, cond-false, cases_Bool}
use Rattle.std.proofs.lemmas.Bool.Decides.{nat_tests}
use Rattle.std.specs.Prelude.{nat_lt, nat_le}
use Rattle.std.specs.List.Sorted.{ties, IsNonDecreasingBy, IsStableByKey}
use Rattle.elf_symbols.specs.Named.{Named}
use Rattle.elf_symbols.specs.Lookups.{last_below, or_this}
use Rattle.elf_symbols.specs.Order.{by_address, put_in}

abbrev place : Named → ℕ
place s = s.address

abbrev same_place : Named → Named → Bool
same_place = ties (λ x y. is_lt (nat_cmp (place x) (place y)))

ties_at : (m n : ℕ) → (ties (λ x y. is_lt (nat_cmp x y)) m n ≡ true → m ≡ n) × (m ≡ n → ties (λ x y. is_lt (nat_cmp x y)) m n ≡ true)
ties_at m n = (λ h. grind (arith, nat_tests), λ h. grind (arith, nat_tests))

same_place-true : (x y : Named) → same_place x y ≡ true → place x ≡ place y
same_place-true x y = (ties_at (place x) (place y)).0

same_place-from : (x y : Named) → place x ≡ place y → same_place x y ≡ true
same_place-from x y = (ties_at (place x) (place y)).1

filter-kept : (p : Named → Bool) (y : Named) (ys : List Named) → p y ≡ true → filter p (y ∷ ys) ≡ y ∷ filter p ys
filter-kept p y ys h = cond-true _ _ _ h

filter-dropped : (p : Named → Bool) (y : Named) (ys : List Named) → p y ≡ false → filter p (y ∷ ys) ≡ filter p ys
filter-dropped p y ys h = cond-false _ _ _ h

is_below : (m n : ℕ) → nat_lt m n ≡ true → m < n
is_below m n h = grind (arith, nat_tests)

is_not_below : (m n : ℕ) → nat_lt m n ≡ false → n ≤ m
is_not_below m n h = grind (arith, nat_tests)

-- a name goes in without a change of the order of those that tie
filter-put_in : (x c : Named) (ds : List Named) → filter (same_place x) (put_in c ds) ≡ filter (same_place x) (c ∷ ds)
filter-put_in x c [] = refl
filter-put_in x c (d ∷ ds) =
    let p = same_place x in
    elim (cases_Bool (nat_lt (place d) (place c))) [
      | inr stays ↦ ap (filter p) (cond-false _ _ _ stays)
      | inl past ↦
          let lower = is_below (place d) (place c) past in
          ap (filter p) (cond-true _ _ _ past)
          ∙ elim (cases_Bool (p d)) [
            | inr without ↦
                filter-dropped p d (put_in c ds) without ∙ filter-put_in x c ds
                ∙ ap (λ l. cond (p c) (c ∷ l) l) (sym (filter-dropped p d ds without))
            | inl with ↦
                elim (cases_Bool (p c)) [
                  | inl both ↦ absurd (omega (arith, same_place-true x c both, same_place-true x d with))
                  | inr only ↦
                      filter-kept p d (put_in c ds) with ∙ ap (λ l. d ∷ l) (filter-put_in x c ds ∙ filter-dropped p c ds only)
                      ∙ sym (filter-dropped p c (d ∷ ds) only ∙ filter-kept p d ds with)
                ]
          ]
    ]

filter-by_address : (x : Named) (cs : List Named) → filter (same_place x) (by_address cs) ≡ filter (same_place x) cs
filter-by_address x [] = refl
filter-by_address x (c ∷ cs) =
    filter-put_in x c (by_address cs) ∙ ap (λ l. cond (same_place x c) (c ∷ l) l) (filter-by_address x cs)

abbrev AreAtLeast : ℕ → List Named → Type 0
AreAtLeast n [] = Unit {0}
AreAtLeast n (y ∷ ys) = (n ≤ place y) × AreAtLeast n ys

abbrev Rises : List Named → Type 0
Rises [] = Unit {0}
Rises (y ∷ ys) = AreAtLeast (place y) ys × Rises ys

AreAtLeast-le : (n m : ℕ) (ys : List Named) → n ≤ m → AreAtLeast m ys → AreAtLeast n ys
AreAtLeast-le n m [] le h = tt
AreAtLeast-le n m (y ∷ ys) le h = let first = h.0 in (omega arith, AreAtLeast-le n m ys le h.1)

AreAtLeast-put_in : (n : ℕ) (c : Named) (ys : List Named) → n ≤ place c → AreAtLeast n ys → AreAtLeast n (put_in c ys)
AreAtLeast-put_in n c [] le h = (le, tt)
AreAtLeast-put_in n c (y ∷ ys) le h =
    elim (cases_Bool (nat_lt (place y) (place c))) [
      | inl past ↦ rw (cond-true _ (y ∷ put_in c ys) (c ∷ y ∷ ys) past) (h.0, AreAtLeast-put_in n c ys le h.1)
      | inr stays ↦ rw (cond-false _ (y ∷ put_in c ys) (c ∷ y ∷ ys) stays) (le, h)
    ]

Rises-put_in : (c : Named) (ys : List Named) → Rises ys → Rises (put_in c ys)
Rises-put_in c [] h = (tt, tt)
Rises-put_in c (y ∷ ys) h =
    elim (cases_Bool (nat_lt (place y) (place c))) [
      | inl past ↦
          let lower = is_below (place y) (place c) past in
          rw (cond-true _ (y ∷ put_in c ys) (c ∷ y ∷ ys) past) (AreAtLeast-put_in (place y) c ys (omega arith) h.0, Rises-put_in c ys h.1)
      | inr stays ↦
          let le = is_not_below (place y) (place c) stays in
          rw (cond-false _ (y ∷ put_in c ys) (c ∷ y ∷ ys) stays) ((le, AreAtLeast-le (place c) (place y) ys le h.0), h)
    ]

Rises-by_address : (cs : List Named) → Rises (by_address cs)
Rises-by_address [] = tt
Rises-by_address (c ∷ cs) = Rises-put_in c (by_address cs) (Rises-by_address cs)

AreAtLeast-at : (n : ℕ) (ys : List Named) → ((j : ℕ) (d : Named) → j < length ys → n ≤ place (get_or ys j d)) → AreAtLeast n ys
AreAtLeast-at n [] h = tt
AreAtLeast-at n (y ∷ ys) h = (h zero y (suc-le-suc zero-le), AreAtLeast-at n ys (λ j d lt. h (suc j) d (suc-le-suc lt)))

Rises-from_sort : (ys : List Named) → IsNonDecreasingBy place ys → Rises ys
Rises-from_sort [] h = tt
Rises-from_sort (y ∷ ys) h = (
  AreAtLeast-at (place y) ys (λ j d lt. h zero (suc j) d zero-le (suc-le-suc lt)),
  Rises-from_sort ys (λ i j d le lt. h (suc i) (suc j) d (suc-le-suc le) (suc-le-suc lt)),
)

-- one that ties with x occurs among them
AreAtLeast-found : (n : ℕ) (x : Named) (ys : List Named) (w : Named) (ws : List Named) → AreAtLeast n ys → filter (same_place x) ys ≡ w ∷ ws → n ≤ place x
AreAtLeast-found n x [] w ws h e = cc
AreAtLeast-found n x (y ∷ ys) w ws h e =
    elim (cases_Bool (same_place x y)) [
      | inl with ↦ omega (arith, h.0, same_place-true x y with)
      | inr without ↦ AreAtLeast-found n x ys w ws h.1 (sym (filter-dropped (same_place x) y ys without) ∙ e)
    ]

same_from_places : (ys zs : List Named) → Rises ys → Rises zs → ((x : Named) → filter (same_place x) ys ≡ filter (same_place x) zs) → ys ≡ zs
same_from_places [] [] left right same = refl
same_from_places [] (z ∷ zs) left right same =
    let clash = same z ∙ filter-kept (same_place z) z zs (same_place-from z z refl) in cc
same_from_places (y ∷ ys) [] left right same =
    let clash = sym (same y) ∙ filter-kept (same_place y) y ys (same_place-from y y refl) in cc
same_from_places (y ∷ ys) (z ∷ zs) left right same =
    let at_y = filter-kept (same_place y) y ys (same_place-from y y refl) in
    let at_z = filter-kept (same_place z) z zs (same_place-from z z refl) in
    let up = AreAtLeast-found (place z) y (z ∷ zs) y _ (omega arith, right.0) (sym (same y) ∙ at_y) in
    let down = AreAtLeast-found (place y) z (y ∷ ys) z _ (omega arith, left.0) (same z ∙ at_z) in
    let heads = sym at_y ∙ same y ∙ filter-kept (same_place y) z zs (same_place-from y z (omega arith)) in
    let head : y ≡ z = cc in
    let tails : (x : Named) → filter (same_place x) ys ≡ filter (same_place x) zs =
    λ x. elim (cases_Bool (same_place x y)) [
      | inl with ↦
          let both = sym (filter-kept (same_place x) y ys with) ∙ same x ∙ filter-kept (same_place x) z zs (ap (same_place x) (sym head) ∙ with) in cc
      | inr without ↦
          sym (filter-dropped (same_place x) y ys without) ∙ same x ∙ filter-dropped (same_place x) z zs (ap (same_place x) (sym head) ∙ without)
    ] in
    ap (λ w. w ∷ ys) head ∙ ap (λ l. z ∷ l) (same_from_places ys zs left.1 right.1 tails)

pub by_address-from_sort : (xs ys : List Named) → IsNonDecreasingBy place ys → IsStableByKey place nat_cmp xs ys → ys ≡ by_address xs
by_address-from_sort xs ys sorted stable =
    same_from_places ys (by_address xs) (Rises-from_sort ys sorted) (Rises-by_address xs) (λ x. stable x ∙ sym (filter-by_address x xs))

is_at_most : (m n : ℕ) → m ≤ n → nat_le m n ≡ true
is_at_most m n h = grind (arith, nat_tests)

is_above : (m n : ℕ) → nat_le m n ≡ false → n < m
is_above m n h = grind (arith, nat_tests)

-- where the first k and no others are at or below an address, the last of the k is the last at or below it
pub last_below-none : (xs : List Named) (a : ℕ) → ((j : ℕ) (d : Named) → j < length xs → nat_le (place (get_or xs j d)) a ≡ false) → last_below xs a ≡ None
last_below-none [] a h = refl
last_below-none (x ∷ xs) a h =
    ap (λ o. or_this o a x) (last_below-none xs a (λ j d lt. h (suc j) d (suc-le-suc lt)))
    ∙ cond-false _ _ _ (h zero x (suc-le-suc zero-le))

pub last_below-at : (xs : List Named) (a k : ℕ) (d : Named) → k < length xs → nat_le (place (get_or xs k d)) a ≡ true
    → ((j : ℕ) (e : Named) → k < j → j < length xs → nat_le (place (get_or xs j e)) a ≡ false)
    → last_below xs a ≡ Some (get_or xs k d)
last_below-at [] a k d inside low h = absurd (omega arith)
last_below-at (x ∷ xs) a zero d inside low h =
    ap (λ o. or_this o a x) (last_below-none xs a (λ j e lt. h (suc j) e (suc-le-suc zero-le) (suc-le-suc lt)))
    ∙ cond-true _ _ _ low
last_below-at (x ∷ xs) a (suc k) d inside low h =
    ap (λ o. or_this o a x) (last_below-at xs a k d (omega arith) low (λ j e above lt. h (suc j) e (suc-le-suc above) (suc-le-suc lt)))
