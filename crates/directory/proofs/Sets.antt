-- Lists of the harts that a test names, and the places of a byte's ones.
use Rattle.std.proofs.Common.{◌≡◌, ◌≢◌, ℕ, zero, suc, ◌+◌, ◌<◌, ◌≤◌, Bool, true, false, cond, not, ◌&&◌, ◌||◌, nat_eq, [], ◌∷◌, get_or, zero-add, refl, sym, ap, ◌∙◌, arith, inl, inr, ◌⊎◌, w8, ◌^◌}
use Rattle.std.specs.Prelude.{filter, All}
use Rattle.std.proofs.lemmas.List.Elements.{All-filter, All-from_get_or}
use Rattle.std.proofs.lemmas.List.FromFn.{get_or-range_with_len, length-range_with_len}
use Rattle.std.specs.List.{range_with_len}
use Rattle.std.specs.Int.{bit_at, trailing_zeros}
use Rattle.std.proofs.lemmas.Bool.{cases_eq}
use Rattle.std.proofs.lemmas.Nat.Bits.{bit_at-trailing_zeros}
use Rattle.directory.specs.Harts.{harts_below, has, members}

abbrev found : (ℕ → Bool) → ℕ → ℕ → ℕ → Bool
found p a n q = has (filter p (range_with_len a n)) q

found_out : (p : ℕ → Bool) (a n q : ℕ) → (q < a) ⊎ (a + n ≤ q) → found p a n q ≡ false
found_out p a zero q out = refl
found_out p a (suc n) q out =
    let d : nat_eq a q ≡ false = apart out in
    go (p a) d (found_out p (a + 1) n q (further out))
  where
    apart : (q < a) ⊎ (a + suc n ≤ q) → nat_eq a q ≡ false
    apart (inl l) = grind (arith, l)
    apart (inr l) = grind (arith, l)

    further : (q < a) ⊎ (a + suc n ≤ q) → (q < a + 1) ⊎ (a + 1 + n ≤ q)
    further (inl l) = inl (omega arith)
    further (inr l) = inr (omega arith)

    go : (b : Bool) → nat_eq a q ≡ false → found p (a + 1) n q ≡ false → has (cond b (a ∷ filter p (range_with_len (a + 1) n)) (filter p (range_with_len (a + 1) n))) q ≡ false
    go true d rest = rw d rest
    go false d rest = rest

found_in : (p : ℕ → Bool) (a n q : ℕ) → a ≤ q → q < a + n → found p a n q ≡ p q
found_in p a zero q l u = absurd (omega arith)
found_in p a (suc n) q l u = go (cases_eq a q) (found_in p (a + 1) n q)
  where
    at : (b : Bool) → p a ≡ b → a ≡ q → has (cond b (a ∷ filter p (range_with_len (a + 1) n)) (filter p (range_with_len (a + 1) n))) q ≡ p q
    at true e same = let t : nat_eq a q ≡ true = grind (arith, same) in rw t (sym e ∙ ap p same)
    at false e same = found_out p (a + 1) n q (inl (omega arith)) ∙ sym e ∙ ap p same

    off : (b : Bool) → a ≢ q → found p (a + 1) n q ≡ p q → has (cond b (a ∷ filter p (range_with_len (a + 1) n)) (filter p (range_with_len (a + 1) n))) q ≡ p q
    off true d rest = let f : nat_eq a q ≡ false = grind (arith, d) in rw f rest
    off false d rest = rest

    go : (a ≡ q) ⊎ (a ≢ q) → (a + 1 ≤ q → q < a + 1 + n → found p (a + 1) n q ≡ p q) → found p a (suc n) q ≡ p q
    go (inl e) rest = at (p a) refl e
    go (inr d) rest = off (p a) d (rest (omega arith) (omega arith))

-- the list has a hart where the test names it
pub has-harts_below : (n : ℕ) (p : ℕ → Bool) (hart : ℕ) → hart < n → has (harts_below n p) hart ≡ p hart
unfolding harts_below
has-harts_below n p hart l = found_in p 0 n hart (omega arith) (omega arith)

pub has-harts_below_out : (n : ℕ) (p : ℕ → Bool) (hart : ℕ) → n ≤ hart → has (harts_below n p) hart ≡ false
unfolding harts_below
has-harts_below_out n p hart l = found_out p 0 n hart (inr (omega arith))

same_from : (p q : ℕ → Bool) (a n : ℕ) → ((h : ℕ) → a ≤ h → h < a + n → p h ≡ q h) → filter p (range_with_len a n) ≡ filter q (range_with_len a n)
same_from p q a zero same = refl
same_from p q a (suc n) same =
    let here : p a ≡ q a = same a (omega arith) (omega arith) in
    let rest : filter p (range_with_len (a + 1) n) ≡ filter q (range_with_len (a + 1) n) = same_from p q (a + 1) n (λ h l u. same h (omega arith) (omega arith)) in
    rw (here, rest) refl

-- two tests that name the same harts give one list
pub harts_below-same : (n : ℕ) (p q : ℕ → Bool) → ((h : ℕ) → h < n → p h ≡ q h) → harts_below n p ≡ harts_below n q
unfolding harts_below
harts_below-same n p q same = same_from p q 0 n (λ h l u. same h (omega arith))

none_from : (p : ℕ → Bool) (a n : ℕ) → ((h : ℕ) → a ≤ h → h < a + n → p h ≡ false) → filter p (range_with_len a n) ≡ []
none_from p a zero none = refl
none_from p a (suc n) none =
    let here : p a ≡ false = none a (omega arith) (omega arith) in
    rw here (none_from p (a + 1) n (λ h l u. none h (omega arith) (omega arith)))

pub harts_below-none : (n : ℕ) (p : ℕ → Bool) → ((h : ℕ) → h < n → p h ≡ false) → harts_below n p ≡ []
unfolding harts_below
harts_below-none n p none = none_from p 0 n (λ h l u. none h (omega arith))

fewer : (p : ℕ → Bool) (a n m : ℕ) → n ≤ m → ((h : ℕ) → a + n ≤ h → h < a + m → p h ≡ false) → filter p (range_with_len a m) ≡ filter p (range_with_len a n)
fewer p a zero m l none = none_from p a m (λ h lo hi. none h (omega arith) (omega arith))
fewer p a (suc n) zero l none = absurd (omega arith)
fewer p a (suc n) (suc m) l none =
    let rest : filter p (range_with_len (a + 1) m) ≡ filter p (range_with_len (a + 1) n) = fewer p (a + 1) n m (omega arith) (λ h lo hi. none h (omega arith) (omega arith)) in
    rw rest refl

-- the list is as short as the harts that the test can name
pub harts_below-fewer : (n m : ℕ) (p : ℕ → Bool) → n ≤ m → ((h : ℕ) → n ≤ h → h < m → p h ≡ false) → harts_below m p ≡ harts_below n p
unfolding harts_below
harts_below-fewer n m p l none = fewer p 0 n m l (λ h lo hi. none h (omega arith) (omega arith))

first_from : (p : ℕ → Bool) (a n t : ℕ) → a ≤ t → t < a + n → p t ≡ true → ((i : ℕ) → i < t → p i ≡ false) → filter p (range_with_len a n) ≡ t ∷ filter (λ h. not (nat_eq h t) && p h) (range_with_len a n)
first_from p a zero t l u passes below = absurd (omega arith)
first_from p a (suc n) t l u passes below = go (cases_eq a t) (first_from p (a + 1) n t)
  where
    go : (a ≡ t) ⊎ (a ≢ t) → (a + 1 ≤ t → t < a + 1 + n → p t ≡ true → ((i : ℕ) → i < t → p i ≡ false) → filter p (range_with_len (a + 1) n) ≡ t ∷ filter (λ h. not (nat_eq h t) && p h) (range_with_len (a + 1) n)) → filter p (range_with_len a (suc n)) ≡ t ∷ filter (λ h. not (nat_eq h t) && p h) (range_with_len a (suc n))
    go (inl e) rest =
        let here : p a ≡ true = ap p e ∙ passes in
        let t_is : nat_eq a t ≡ true = grind (arith, e) in
        let later : filter p (range_with_len (a + 1) n) ≡ filter (λ h. not (nat_eq h t) && p h) (range_with_len (a + 1) n) =
        same_from p (λ h. not (nat_eq h t) && p h) (a + 1) n (λ h lo hi. let off : nat_eq h t ≡ false = grind (arith, e, lo) in rw off refl) in
        rw (here, t_is, later, e) refl
    go (inr d) rest =
        let here : p a ≡ false = below a (omega arith) in
        let t_is : nat_eq a t ≡ false = grind (arith, d) in
        rw (here, t_is) (rest (omega arith) (omega arith) passes below)

range_below : (n : ℕ) → All (λ h. h < n) (range_with_len 0 n)
range_below n =
    All-from_get_or (λ h. h < n) (range_with_len 0 n) 0 (λ i l.
    let bound : i < n = omega (arith, length-range_with_len 0 n) in
    let is : get_or (range_with_len 0 n) i 0 ≡ i = get_or-range_with_len 0 n i 0 bound ∙ zero-add i in
    rw is bound)

-- each of them is one of the n harts
pub harts_below-below : (n : ℕ) (p : ℕ → Bool) → All (λ h. h < n) (harts_below n p)
unfolding harts_below
harts_below-below n p = All-filter p (λ h. h < n) (range_with_len 0 n) (range_below n)

pub has-members : (bits hart : ℕ) → hart < 8 → has (members bits) hart ≡ nat_eq (bit_at bits hart) 1
unfolding members
has-members bits hart l = has-harts_below 8 (λ h. nat_eq (bit_at bits h) 1) hart l

pub members-with : (bits later hart : ℕ) → bit_at later hart ≡ 1 → ((i : ℕ) → i ≢ hart → bit_at later i ≡ bit_at bits i) → members later ≡ harts_below 8 (λ h. nat_eq h hart || has (members bits) h)
unfolding members
members-with bits later hart one others = harts_below-same 8 _ _ (λ h l. go h l (cases_eq h hart))
  where
    go : (h : ℕ) → h < 8 → (h ≡ hart) ⊎ (h ≢ hart) → nat_eq (bit_at later h) 1 ≡ (nat_eq h hart || has (members bits) h)
    go h l (inl e) =
        let t : nat_eq h hart ≡ true = grind (arith, e) in
        rw t (ap (λ i. nat_eq (bit_at later i) 1) e ∙ ap (λ n. nat_eq n 1) one)
    go h l (inr d) =
        let f : nat_eq h hart ≡ false = grind (arith, d) in
        rw f (ap (λ n. nat_eq n 1) (others h d) ∙ sym (has-members bits h l))

pub members-without : (bits later hart : ℕ) → bit_at later hart ≡ 0 → ((i : ℕ) → i < 8 → i ≢ hart → bit_at later i ≡ bit_at bits i) → members later ≡ harts_below 8 (λ h. not (nat_eq h hart) && has (members bits) h)
unfolding members
members-without bits later hart nought others = harts_below-same 8 _ _ (λ h l. go h l (cases_eq h hart))
  where
    go : (h : ℕ) → h < 8 → (h ≡ hart) ⊎ (h ≢ hart) → nat_eq (bit_at later h) 1 ≡ (not (nat_eq h hart) && has (members bits) h)
    go h l (inl e) =
        let t : nat_eq h hart ≡ true = grind (arith, e) in
        rw t (ap (λ i. nat_eq (bit_at later i) 1) e ∙ ap (λ n. nat_eq n 1) nought)
    go h l (inr d) =
        let f : nat_eq h hart ≡ false = grind (arith, d) in
        rw f (ap (λ n. nat_eq n 1) (others h l d) ∙ sym (has-members bits h l))

-- the least of a byte's ones stands in front of the others
pub members-first : (bits : ℕ) → 0 < bits → bits < 2 ^ 8 → members bits ≡ trailing_zeros w8 bits ∷ harts_below 8 (λ h. not (nat_eq h (trailing_zeros w8 bits)) && has (members bits) h)
unfolding members harts_below
members-first bits some l =
    let t : ℕ = trailing_zeros w8 bits in
    let lowest : (t < 8) × (bit_at bits t ≡ 1) × ((i : ℕ) → i < t → bit_at bits i ≡ 0) = bit_at-trailing_zeros w8 bits some l in
    first_from (λ h. nat_eq (bit_at bits h) 1) 0 8 t (omega arith) lowest.0 (ap (λ n. nat_eq n 1) lowest.1) (λ i u. ap (λ n. nat_eq n 1) (lowest.2 i u))
    ∙ ap (λ hs. t ∷ hs) (harts_below-same 8 (λ h. not (nat_eq h t) && nat_eq (bit_at bits h) 1) _ (λ h u. ap (λ b. not (nat_eq h t) && b) (sym (has-members bits h u))))
