-- Laws of lists by recursion: what is true of each element, of each two, and of tests.
use Rattle.std.proofs.Common.{◌≡◌, List, [], ◌∷◌, ◌++◌, Bool, true, false, refl, cond, sym, ap, subst, ◌||◌, ◌⊎◌, inl, inr}
use Rattle.std.specs.List.{AllByRecursion as Each, Contains, filter, list_any, list_all}
use Rattle.std.proofs.lemmas.Bool.{false≢true, and_parts, and_from}
use Rattle.std.proofs.lemmas.List.Elements.{All-contains, All-contains_itself, All-from_recursion, recursion_from_All}

-- R holds of each two elements, the earlier one first
abbrev pub Pairwise : {X : Type 0} → (X → X → Type 0) → List X → Type 0
Pairwise R [] = Unit {0}
Pairwise R (a ∷ rest) = Each (R a) rest × Pairwise R rest

-- x is an element, by recursion
abbrev pub Member : {X : Type 0} → X → List X → Type 0
Member a [] = ⊥
Member a (x ∷ xs) = (a ≡ x) ⊎ Member a xs

pub Each-append : {X : Type 0} (P : X → Type 0) (xs ys : List X) → Each P xs → Each P ys → Each P (xs ++ ys)
Each-append P [] ys a b = b
Each-append P (x ∷ xs) ys a b = (a.0, Each-append P xs ys a.1 b)

pub Each-left : {X : Type 0} (P : X → Type 0) (xs ys : List X) → Each P (xs ++ ys) → Each P xs
Each-left P [] ys a = tt
Each-left P (x ∷ xs) ys a = (a.0, Each-left P xs ys a.1)

pub Each-right : {X : Type 0} (P : X → Type 0) (xs ys : List X) → Each P (xs ++ ys) → Each P ys
Each-right P [] ys a = a
Each-right P (x ∷ xs) ys a = Each-right P xs ys a.1

pub Each-weaker : {X : Type 0} (P Q : X → Type 0) → ((x : X) → P x → Q x) → (xs : List X) → Each P xs → Each Q xs
Each-weaker P Q f [] a = tt
Each-weaker P Q f (x ∷ xs) a = (f x a.0, Each-weaker P Q f xs a.1)

pub Each-both : {X : Type 0} (P Q : X → Type 0) (xs : List X) → Each P xs → Each Q xs → Each (λ x. P x × Q x) xs
Each-both P Q [] a b = tt
Each-both P Q (x ∷ xs) a b = ((a.0, b.0), Each-both P Q xs a.1 b.1)

filter_at : {X : Type 0} (P : X → Type 0) (b : Bool) (x : X) (xs : List X) → (b ≡ true → P x) → Each P xs → Each P (cond b (x ∷ xs) xs)
filter_at P true x xs a b = (a refl, b)
filter_at P false x xs a b = b

pub Each-filter : {X : Type 0} (P : X → Type 0) (p : X → Bool) (xs : List X) → Each P xs → Each (λ x. (p x ≡ true) × P x) (filter p xs)
Each-filter P p [] a = tt
Each-filter P p (x ∷ xs) a = filter_at (λ x. (p x ≡ true) × P x) (p x) x (filter p xs) (λ e. (e, a.0)) (Each-filter P p xs a.1)

pub Each-kept : {X : Type 0} (P : X → Type 0) (p : X → Bool) (xs : List X) → Each P xs → Each P (filter p xs)
Each-kept P p xs a = Each-weaker (λ x. (p x ≡ true) × P x) P (λ x h. h.1) (filter p xs) (Each-filter P p xs a)

pub Pairwise-append : {X : Type 0} (R : X → X → Type 0) (xs ys : List X) → Pairwise R xs → Pairwise R ys → Each (λ x. Each (R x) ys) xs → Pairwise R (xs ++ ys)
Pairwise-append R [] ys a b c = b
Pairwise-append R (x ∷ xs) ys a b c = (Each-append (R x) xs ys a.0 c.0, Pairwise-append R xs ys a.1 b c.1)

pairwise_at : {X : Type 0} (R : X → X → Type 0) (b : Bool) (x : X) (xs : List X) → Each (R x) xs → Pairwise R xs → Pairwise R (cond b (x ∷ xs) xs)
pairwise_at R true x xs a b = (a, b)
pairwise_at R false x xs a b = b

pub Pairwise-filter : {X : Type 0} (R : X → X → Type 0) (p : X → Bool) (xs : List X) → Pairwise R xs → Pairwise R (filter p xs)
Pairwise-filter R p [] a = tt
Pairwise-filter R p (x ∷ xs) a = pairwise_at R (p x) x (filter p xs) (Each-kept (R x) p xs a.0) (Pairwise-filter R p xs a.1)

-- ---- elements

pub Each-at : {X : Type 0} (P : X → Type 0) (a : X) (xs : List X) → Each P xs → Member a xs → P a
Each-at P a [] h m = absurd m
Each-at P a (x ∷ xs) h (inl e) = subst P (sym e) h.0
Each-at P a (x ∷ xs) h (inr m) = Each-at P a xs h.1 m

pub Each-from : {X : Type 0} (P : X → Type 0) (xs : List X) → ((c : X) → Member c xs → P c) → Each P xs
Each-from P [] f = tt
Each-from P (x ∷ xs) f = (f x (inl refl), Each-from P xs (λ c m. f c (inr m)))

pub Member-from_Contains : {X : Type 0} (xs : List X) (a : X) → Contains xs a → Member a xs
Member-from_Contains xs a h = All-contains (λ c. Member c xs) xs a (All-from_recursion (λ c. Member c xs) xs (Each-from (λ c. Member c xs) xs (λ c m. m))) h

pub Contains-from_Member : {X : Type 0} (xs : List X) (a : X) → Member a xs → Contains xs a
Contains-from_Member xs a m = Each-at (Contains xs) a xs (recursion_from_All (Contains xs) xs (All-contains_itself xs)) m

-- an element splits its list
pub record Split {X : Type 0} (a : X) (xs : List X) : Type 0 where
  pub front : List X
  pub back : List X
  pub joined : xs ≡ front ++ a ∷ back

pub split_at : {X : Type 0} (a : X) (xs : List X) → Member a xs → Split a xs
split_at a [] m = absurd m
split_at a (x ∷ xs) (inl e) = record { front = []; back = xs; joined = ap (λ y. y ∷ xs) (sym e) }
split_at a (x ∷ xs) (inr m) = let s = split_at a xs m in record { front = x ∷ s.front; back = s.back; joined = ap (λ ys. x ∷ ys) s.joined }

-- ---- tests

pub Each-from_list_all : {X : Type 0} (p : X → Bool) (xs : List X) → list_all p xs ≡ true → Each (λ x. p x ≡ true) xs
Each-from_list_all p [] e = tt
Each-from_list_all p (x ∷ xs) e = let s = and_parts (p x) (list_all p xs) e in (s.0, Each-from_list_all p xs s.1)

pub list_all-from_Each : {X : Type 0} (p : X → Bool) (xs : List X) → Each (λ x. p x ≡ true) xs → list_all p xs ≡ true
list_all-from_Each p [] h = refl
list_all-from_Each p (x ∷ xs) h = and_from (p x) (list_all p xs) h.0 (list_all-from_Each p xs h.1)

-- where each element that passes the first test passes the second
pub list_any-weaker : {X : Type 0} (p q : X → Bool) (xs : List X) → Each (λ x. p x ≡ true → q x ≡ true) xs → list_any p xs ≡ true → list_any q xs ≡ true
list_any-weaker p q [] h e = e
list_any-weaker p q (x ∷ xs) h e = go (p x) (q x) h.0 e (list_any-weaker p q xs h.1)
  where
    go : (a b : Bool) → (a ≡ true → b ≡ true) → (a || list_any p xs) ≡ true → (list_any p xs ≡ true → list_any q xs ≡ true) → (b || list_any q xs) ≡ true
    go a true f e ih = refl
    go true false f e ih = absurd (false≢true (f refl))
    go false false f e ih = ih e

-- ---- filters and the last element

pub filter_same : {X : Type 0} (p q : X → Bool) (xs : List X) → Each (λ x. p x ≡ q x) xs → filter p xs ≡ filter q xs
filter_same p q [] h = refl
filter_same p q (x ∷ xs) h = rw (h.0, filter_same p q xs h.1) refl

pub filter_none : {X : Type 0} (p : X → Bool) (xs : List X) → Each (λ x. p x ≡ false) xs → filter p xs ≡ []
filter_none p [] h = refl
filter_none p (x ∷ xs) h = rw (h.0, filter_none p xs h.1) refl
