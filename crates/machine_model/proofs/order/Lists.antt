-- Laws of lists that orders need: pairs, filters, and what a load sees of an order.
use Rattle.std.proofs.Common.{◌≡◌, ℕ, List, [], ◌∷◌, ◌++◌, Bool, true, false, Option, Some, None, refl, cond, sym, ap, ◌∙◌, not, ◌&&◌, ◌||◌, append_assoc}
use Rattle.std.specs.List.{AllByRecursion as Each, filter, list_any, last_or}
use Rattle.std.proofs.lemmas.Bool.{false≢true}
use Rattle.std.proofs.lemmas.List.Elements.{filter-append}
use Rattle.memory_model.specs.declared.operation.Operation.{Operation}
use Rattle.memory_model.specs.Operations.{same, precedes, stores_to}
use Rattle.memory_model.specs.Order.{byte_from, candidates}
use Rattle.memory_model.proofs.Lists.{Each-append, Each-left, Each-right, Each-weaker, Each-both, Each-filter, Each-kept, Pairwise-append, Pairwise-filter, Pairwise}

pub Each-always : {X : Type 0} (P : X → Type 0) → ((x : X) → P x) → (xs : List X) → Each P xs
Each-always P f [] = tt
Each-always P f (x ∷ xs) = (f x, Each-always P f xs)

-- ---- pairs

pub Pairwise-left : {X : Type 0} (R : X → X → Type 0) (xs ys : List X) → Pairwise R (xs ++ ys) → Pairwise R xs
Pairwise-left R [] ys a = tt
Pairwise-left R (x ∷ xs) ys a = (Each-left (R x) xs ys a.0, Pairwise-left R xs ys a.1)

pub Pairwise-right : {X : Type 0} (R : X → X → Type 0) (xs ys : List X) → Pairwise R (xs ++ ys) → Pairwise R ys
Pairwise-right R [] ys a = a
Pairwise-right R (x ∷ xs) ys a = Pairwise-right R xs ys a.1

pub Pairwise-across : {X : Type 0} (R : X → X → Type 0) (xs ys : List X) → Pairwise R (xs ++ ys) → Each (λ x. Each (R x) ys) xs
Pairwise-across R [] ys a = tt
Pairwise-across R (x ∷ xs) ys a = (Each-right (R x) xs ys a.0, Pairwise-across R xs ys a.1)

pub Pairwise-weaker : {X : Type 0} (R S : X → X → Type 0) (P : X → Type 0) → ((x y : X) → P x → P y → R x y → S x y) → (xs : List X) → Each P xs → Pairwise R xs → Pairwise S xs
Pairwise-weaker R S P f [] e a = tt
Pairwise-weaker R S P f (x ∷ xs) e a =
    (Each-weaker (λ y. P y × R x y) (S x) (λ y h. f x y e.0 h.0 h.1) xs (Each-both P (R x) xs e.1 a.0), Pairwise-weaker R S P f xs e.1 a.1)

-- those that don't pass a test
abbrev pub others : {X : Type 0} → (X → Bool) → List X → List X
others p xs = filter (λ x. not (p x)) xs

-- the elements that pass a test are taken out of g to the front of it: each pair that changes its order must be free
pub Pairwise-moved : {X : Type 0} (R : X → X → Type 0) (p : X → Bool) (done g rest : List X) → Pairwise R (done ++ (g ++ rest)) → Each (λ a. Each (λ b. p a ≡ true → not (p b) ≡ true → R a b) g) g
    → Pairwise R ((done ++ filter p g) ++ (others p g ++ rest))
Pairwise-moved R p done g rest h free =
    let tail = Pairwise-right R done (g ++ rest) h in
    let whole = Pairwise-left R g rest tail in
    let out = filter p g in
    let stay = others p g in
    let moved : Each (λ a. Each (R a) stay) out =
    Each-weaker (λ a. (p a ≡ true) × Each (λ b. p a ≡ true → not (p b) ≡ true → R a b) g) (λ a. Each (R a) stay)
    (λ a k. Each-weaker (λ b. (not (p b) ≡ true) × (p a ≡ true → not (p b) ≡ true → R a b)) (R a) (λ b m. m.1 k.0 m.0) stay
    (Each-filter (λ b. p a ≡ true → not (p b) ≡ true → R a b) (λ x. not (p x)) g k.1))
    out (Each-filter (λ a. Each (λ b. p a ≡ true → not (p b) ≡ true → R a b) g) p g free) in
    let cross = Pairwise-across R g rest tail in
    let back : Pairwise R (stay ++ rest) = Pairwise-append R stay rest (Pairwise-filter R (λ x. not (p x)) g whole) (Pairwise-right R g rest tail) (Each-kept (λ x. Each (R x) rest) (λ x. not (p x)) g cross) in
    let middle : Pairwise R (out ++ (stay ++ rest)) =
    Pairwise-append R out (stay ++ rest) (Pairwise-filter R p g whole) back
    (Each-weaker (λ x. Each (R x) stay × Each (R x) rest) (λ x. Each (R x) (stay ++ rest)) (λ x k. Each-append (R x) stay rest k.0 k.1) out
    (Each-both (λ x. Each (R x) stay) (λ x. Each (R x) rest) out moved (Each-kept (λ x. Each (R x) rest) p g cross))) in
    let first : Each (λ x. Each (R x) (out ++ (stay ++ rest))) done =
    Each-weaker (λ x. Each (R x) (g ++ rest)) (λ x. Each (R x) (out ++ (stay ++ rest)))
    (λ x k. Each-append (R x) out (stay ++ rest) (Each-kept (R x) p g (Each-left (R x) g rest k)) (Each-append (R x) stay rest (Each-kept (R x) (λ x. not (p x)) g (Each-left (R x) g rest k)) (Each-right (R x) g rest k)))
    done (Pairwise-across R done (g ++ rest) h) in
    rw append_assoc (Pairwise-append R done (out ++ (stay ++ rest)) (Pairwise-left R done (g ++ rest) h) middle first)

-- an element comes in between
pub Pairwise-between : {X : Type 0} (R : X → X → Type 0) (done ys : List X) (i : X) → Pairwise R (done ++ ys) → Each (R i) ys → Each (λ x. R x i) done → Pairwise R (done ++ (i ∷ ys))
Pairwise-between R done ys i h after before =
    Pairwise-append R done (i ∷ ys) (Pairwise-left R done ys h) (after, Pairwise-right R done ys h)
    (Each-both (λ x. R x i) (λ x. Each (R x) ys) done before (Pairwise-across R done ys h))

pub Each-between : {X : Type 0} (P : X → Type 0) (done ys : List X) (i : X) → Each P (done ++ ys) → P i → Each P ((done ++ i ∷ []) ++ ys)
Each-between P done ys i h p = rw (append_assoc done (i ∷ []) ys) (Each-append P done (i ∷ ys) (Each-left P done ys h) (p, Each-right P done ys h))

pub Each-push : {X : Type 0} (P : X → Type 0) (xs ys : List X) (s : X) → Each P (xs ++ ys) → P s → Each P (xs ++ (ys ++ s ∷ []))
Each-push P xs ys s h p = rw (← append_assoc) (Each-append P (xs ++ ys) (s ∷ []) h (p, tt))

pub Each-moved : {X : Type 0} (P : X → Type 0) (p : X → Bool) (done g rest : List X) → Each P (done ++ (g ++ rest)) → Each P ((done ++ filter p g) ++ (others p g ++ rest))
Each-moved P p done g rest h =
    let tail = Each-right P done (g ++ rest) h in
    Each-append P (done ++ filter p g) (others p g ++ rest) (Each-append P done (filter p g) (Each-left P done (g ++ rest) h) (Each-kept P p g (Each-left P g rest tail)))
    (Each-append P (others p g) rest (Each-kept P (λ x. not (p x)) g (Each-left P g rest tail)) (Each-right P g rest tail))

-- ---- filters

filter_both_at : {X : Type 0} (p q : X → Bool) (b : Bool) (x : X) (xs ys : List X) → p x ≡ b → filter q xs ≡ ys → filter q (cond b (x ∷ xs) xs) ≡ cond (b && q x) (x ∷ ys) ys
filter_both_at p q true x xs ys e f = rw f refl
filter_both_at p q false x xs ys e f = f

pub filter-filter : {X : Type 0} (p q : X → Bool) (xs : List X) → filter q (filter p xs) ≡ filter (λ x. p x && q x) xs
filter-filter p q [] = refl
filter-filter p q (x ∷ xs) = filter_both_at p q (p x) x (filter p xs) (filter (λ x. p x && q x) xs) refl (filter-filter p q xs)

-- ---- what a load sees of an order in which it stands in the first part

choose_append : (c : Bool) (s : Operation) (a b m : List Operation) → a ≡ b ++ m → cond c (s ∷ a) a ≡ cond c (s ∷ b) b ++ m
choose_append true s a b m e = ap (λ ys. s ∷ ys) e
choose_append false s a b m e = e

candidates_at : (b c : Bool) (s : Operation) (fa fb va vb m : List Operation) → fa ≡ fb ++ m → (b ≡ false → va ≡ vb ++ m)
    → cond b fa (cond c (s ∷ va) va) ≡ cond b fb (cond c (s ∷ vb) vb) ++ m
candidates_at true c s fa fb va vb m e f = e
candidates_at false c s fa fb va vb m e f = choose_append c s va vb m (f refl)

or_right : (a b : Bool) → a ≡ false → (a || b) ≡ true → b ≡ true
or_right true b e h = absurd (false≢true (sym e))
or_right false b e h = h

pub candidates-append : (load : Operation) (x : ℕ) (xs ys : List Operation) → list_any (λ s. same s load) xs ≡ true
    → candidates (xs ++ ys) load x ≡ candidates xs load x ++ filter (λ t. stores_to x t && precedes t load) ys
candidates-append load x [] ys h = absurd (false≢true h)
candidates-append load x (s ∷ xs) ys h =
    candidates_at (same s load) (stores_to x s) s _ _ _ _ _ (filter-append (λ t. stores_to x t && precedes t load) xs ys)
    (λ e. candidates-append load x xs ys (or_right (same s load) (list_any (λ s. same s load) xs) e h))

-- ---- the last of two lists

pub last_or-append : {X : Type 0} (o : Option X) (xs ys : List X) → last_or o (xs ++ ys) ≡ last_or (last_or o xs) ys
last_or-append o [] ys = refl
last_or-append o (x ∷ xs) ys = last_or-append (Some x) xs ys

-- a byte after these stores is that after the later ones, over a memory that has had the earlier ones
pub byte_from-later : (image : ℕ → ℕ) (x : ℕ) (o : Option Operation) (xs : List Operation) → byte_from image x (last_or o xs) ≡ byte_from (λ y. byte_from image y o) x (last_or None xs)
byte_from-later image x o [] = refl
byte_from-later image x o (s ∷ xs) = byte_from-later image x (Some s) xs ∙ sym (byte_from-later (λ y. byte_from image y o) x (Some s) xs)
