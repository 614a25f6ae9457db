-- What stands behind a load's source in an order, now and as the order grows.
use Rattle.std.proofs.Common.{◌≡◌, ℕ, List, [], ◌∷◌, ◌++◌, Bool, true, false, Option, Some, None, refl, cond, sym, ap, ◌∙◌, subst, not, ◌&&◌, ◌||◌, append-nil}
use Rattle.std.specs.Prelude.{nat_eq}
use Rattle.std.specs.List.{AllByRecursion as Each, filter, list_any, list_all, last_or}
use Rattle.std.proofs.lemmas.Bool.{false≢true, true≢false, and_parts, and_from, or_left, or_right}
use Rattle.memory_model.specs.declared.operation.Operation.{Operation}
use Rattle.memory_model.specs.Legal.{behind, is_atomic_at, up_to}
use Rattle.memory_model.specs.Operations.{same, stores_to}
use Rattle.memory_model.specs.Order.{candidates, last_of, source}
use Rattle.memory_model.proofs.Forms.{same-self, same-swap, candidates-behind}
use Rattle.memory_model.proofs.Lists.{Each-append, Each-kept, Each-weaker, filter_none, list_all-from_Each}
use Rattle.memory_model.proofs.Named.{EachOnce}
use Rattle.machine_model.proofs.order.Lists.{candidates-append}
use Rattle.machine_model.proofs.order.Values.{theirs}

-- ---- members

last_some : (P : Operation → Type 0) (y s : Operation) (ys : List Operation) → last_or (Some y) ys ≡ Some s → P y → Each P ys → P s
last_some P y s [] e q h = let f : y ≡ s = cc in subst P f q
last_some P y s (z ∷ zs) e q h = last_some P z s zs e h.0 h.1

-- the last of a list is one of it
pub last_is : (P : Operation → Type 0) (s : Operation) (ys : List Operation) → last_of ys ≡ Some s → Each P ys → P s
last_is P s [] e h = absurd (none_not e)
  where
    none_not : (last_or {A = Operation} None [] ≡ Some s) → ⊥
    none_not e = cc
last_is P s (y ∷ ys) e h = last_some P y s ys e h.0 h.1

each_candidate : (P : Operation → Type 0) (load : Operation) (x : ℕ) (order : List Operation) → Each P order → Each P (candidates order load x)
each_candidate P load x [] h = tt
each_candidate P load x (s ∷ rest) h = go (same s load) (stores_to x s) (each_candidate P load x rest h.1)
  where
    go : (b c : Bool) → Each P (candidates rest load x) → Each P (cond b (filter (theirs load x) rest) (cond c (s ∷ candidates rest load x) (candidates rest load x)))
    go true c ih = Each-kept P (theirs load x) rest h.1
    go false true ih = (h.0, ih)
    go false false ih = ih

inside : (xs : List Operation) → Each (λ s. list_any (same s) xs ≡ true) xs
inside [] = tt
inside (x ∷ xs) = (or_left (same x x) _ (same-self x), Each-weaker (λ s. list_any (same s) xs ≡ true) (λ s. list_any (same s) (x ∷ xs) ≡ true) (λ s e. or_right (same s x) _ e) xs (inside xs))

source_inside : (order : List Operation) (load s : Operation) (x : ℕ) → source order load x ≡ Some s → list_any (same s) order ≡ true
source_inside order load s x e = last_is (λ t. list_any (same t) order ≡ true) s (candidates order load x) e (each_candidate (λ t. list_any (same t) order ≡ true) load x order (inside order))

-- ---- what is added stands behind

behind_found : (s : Operation) (order out : List Operation) → list_any (same s) order ≡ true → behind (Some s) (order ++ out) ≡ behind (Some s) order ++ out
behind_found s [] out e = absurd (false≢true e)
behind_found s (t ∷ rest) out e = go (same s t) e (behind_found s rest out)
  where
    go : (b : Bool) → (b || list_any (same s) rest) ≡ true → (list_any (same s) rest ≡ true → behind (Some s) (rest ++ out) ≡ behind (Some s) rest ++ out) → cond b (rest ++ out) (behind (Some s) (rest ++ out)) ≡ cond b rest (behind (Some s) rest) ++ out
    go true e ih = refl
    go false e ih = ih e

behind_any : (o : Option Operation) (order out : List Operation) → ((s : Operation) → o ≡ Some s → list_any (same s) order ≡ true) → behind o (order ++ out) ≡ behind o order ++ out
behind_any None order out f = refl
behind_any (Some s) order out f = behind_found s order out (f s refl)

-- a load of the order, none of whose stores is added, has the source that it had
pub behind_more : (order out : List Operation) (r : Operation) (x : ℕ) → list_any (λ s. same s r) order ≡ true → Each (λ t. theirs r x t ≡ false) out → behind (source (order ++ out) r x) (order ++ out) ≡ behind (source order r x) order ++ out
behind_more order out r x m none =
    ap (λ v. behind (last_of v) (order ++ out)) (candidates-append r x order out m ∙ (ap (λ v. candidates order r x ++ v) (filter_none (theirs r x) out none) ∙ append-nil (candidates order r x)))
    ∙ behind_any (source order r x) order out (λ s e. source_inside order r s x e)

-- ---- pairs

pub any_more : (p : Operation → Bool) (xs ys : List Operation) → list_any p xs ≡ true → list_any p (xs ++ ys) ≡ true
any_more p [] ys e = absurd (false≢true e)
any_more p (x ∷ xs) ys e = go (p x) e (any_more p xs ys)
  where
    go : (b : Bool) → (b || list_any p xs) ≡ true → (list_any p xs ≡ true → list_any p (xs ++ ys) ≡ true) → (b || list_any p (xs ++ ys)) ≡ true
    go true e ih = refl
    go false e ih = ih e

same_back : (a b : Operation) → same a b ≡ true → same b a ≡ true
same_back a b e = go (same b a) refl
  where
    go : (c : Bool) → same b a ≡ c → c ≡ true
    go true f = refl
    go false f = absurd (true≢false (sym e ∙ same-swap b a f))

up_to_more : (w : Operation) (xs ys : List Operation) → list_any (same w) xs ≡ true → up_to w (xs ++ ys) ≡ up_to w xs
up_to_more w [] ys e = absurd (false≢true e)
up_to_more w (t ∷ xs) ys e = go (same t w) refl (same w t) refl e (up_to_more w xs ys)
  where
    go : (b : Bool) → same t w ≡ b → (c : Bool) → same w t ≡ c → (c || list_any (same w) xs) ≡ true → (list_any (same w) xs ≡ true → up_to w (xs ++ ys) ≡ up_to w xs) → cond b [] (t ∷ up_to w (xs ++ ys)) ≡ cond b [] (t ∷ up_to w xs)
    go true f c g e ih = refl
    go false f true g e ih = absurd (true≢false (sym (same_back w t g) ∙ f))
    go false f false g e ih = ap (λ v. t ∷ v) (ih e)

-- of this hart, or no store to x
abbrev pub harmless : ℕ → ℕ → Operation → Bool
harmless h x t = nat_eq t.hart h || not (stores_to x t)

pub pair_more : (order out : List Operation) (r w : Operation) (x : ℕ) → list_any (λ s. same s r) order ≡ true → Each (λ t. theirs r x t ≡ false) out → is_atomic_at order r w x ≡ true → is_atomic_at (order ++ out) r w x ≡ true
pair_more order out r w x m none e =
    let es = and_parts (list_any (same w) (behind (source order r x) order)) _ e in
    let line = behind_more order out r x m none in
    subst (λ b. (list_any (same w) b && list_all (harmless w.hart x) (up_to w b)) ≡ true) (sym line)
    (and_from _ _ (any_more (same w) (behind (source order r x) order) out es.0) (ap (list_all (harmless w.hart x)) (up_to_more w (behind (source order r x) order) out es.0) ∙ es.1))

-- ---- the reservation

-- behind the source stands no other hart's store to x
abbrev pub IsFree : ℕ → List Operation → Operation → ℕ → Type 0
IsFree h order r x = Each (λ t. harmless h x t ≡ true) (behind (source order r x) order)

pub free_more : (h : ℕ) (order out : List Operation) (r : Operation) (x : ℕ) → list_any (λ s. same s r) order ≡ true → Each (λ t. theirs r x t ≡ false) out → Each (λ t. harmless h x t ≡ true) out → IsFree h order r x → IsFree h (order ++ out) r x
free_more h order out r x m none quiet k = subst (Each (λ t. harmless h x t ≡ true)) (sym (behind_more order out r x m none)) (Each-append (λ t. harmless h x t ≡ true) (behind (source order r x) order) out k quiet)

any_last : (w : Operation) (xs : List Operation) → list_any (same w) (xs ++ w ∷ []) ≡ true
any_last w [] = or_left (same w w) _ (same-self w)
any_last w (x ∷ xs) = or_right (same w x) _ (any_last w xs)

each_up_to : (P : Operation → Type 0) (w : Operation) (xs : List Operation) → Each P xs → Each P (up_to w (xs ++ w ∷ []))
each_up_to P w [] h = subst (λ b. Each P (cond b [] (w ∷ []))) (sym (same-self w)) tt
each_up_to P w (t ∷ xs) h = go (same t w) (each_up_to P w xs h.1)
  where
    go : (b : Bool) → Each P (up_to w (xs ++ w ∷ [])) → Each P (cond b [] (t ∷ up_to w (xs ++ w ∷ [])))
    go true ih = tt
    go false ih = (h.0, ih)

-- the store conditional comes now
pub atomic_now : (order : List Operation) (r w : Operation) (x : ℕ) → list_any (λ s. same s r) order ≡ true → theirs r x w ≡ false → IsFree w.hart order r x → is_atomic_at (order ++ w ∷ []) r w x ≡ true
atomic_now order r w x m none k =
    let b = behind (source order r x) order in
    subst (λ v. (list_any (same w) v && list_all (harmless w.hart x) (up_to w v)) ≡ true) (sym (behind_more order (w ∷ []) r x m (none, tt)))
    (and_from _ _ (any_last w b) (list_all-from_Each (harmless w.hart x) (up_to w (b ++ w ∷ [])) (each_up_to (λ t. harmless w.hart x t ≡ true) w b k)))

-- ---- the load that reserves comes now

pub none_left : (p : Operation → Bool) (xs : List Operation) → filter p xs ≡ [] → Each (λ t. p t ≡ false) xs
none_left p [] e = tt
none_left p (x ∷ xs) e = go (p x) refl e (none_left p xs)
  where
    some_not : (y : Operation) (ys : List Operation) → y ∷ ys ≡ [] → ⊥
    some_not y ys e = cc

    go : (b : Bool) → p x ≡ b → cond b (x ∷ filter p xs) (filter p xs) ≡ [] → (filter p xs ≡ [] → Each (λ t. p t ≡ false) xs) → Each (λ t. p t ≡ false) (x ∷ xs)
    go true f e ih = absurd (some_not x (filter p xs) e)
    go false f e ih = (f, ih e)

-- behind the last that passes a test, none passes
behind_last : (p : Operation → Bool) (xs : List Operation) → EachOnce xs → Each (λ t. p t ≡ false) (behind (last_of (filter p xs)) xs)
behind_last p [] d = tt
behind_last p (x ∷ xs) d = go (p x) refl (filter p xs) refl (behind_last p xs d.1)
  where
    apart : Each (λ t. same t x ≡ false) (filter p xs)
    apart = Each-kept (λ t. same t x ≡ false) p xs (Each-weaker (λ t. same x t ≡ false) (λ t. same t x ≡ false) (λ t q. same-swap x t q) xs d.0)

    later : (y : Operation) (ys : List Operation) → filter p xs ≡ y ∷ ys → (o : Option Operation) → last_or (Some y) ys ≡ o → Each (λ t. p t ≡ false) (behind o xs) → Each (λ t. p t ≡ false) (behind o (x ∷ xs))
    later y ys f None e k = absurd (some_last y ys e)
      where
        some_last : (y : Operation) (ys : List Operation) → last_or (Some y) ys ≡ None → ⊥
        some_last y [] e = cc
        some_last y (z ∷ zs) e = some_last z zs e
    later y ys f (Some s) e k =
        let other : same s x ≡ false = last_is (λ t. same t x ≡ false) s (y ∷ ys) e (subst (Each (λ t. same t x ≡ false)) f apart) in
        subst (λ b. Each (λ t. p t ≡ false) (cond b xs (behind (Some s) xs))) (sym other) k

    go : (b : Bool) → p x ≡ b → (ys : List Operation) → filter p xs ≡ ys → Each (λ t. p t ≡ false) (behind (last_of (filter p xs)) xs) → Each (λ t. p t ≡ false) (behind (last_of (cond b (x ∷ filter p xs) (filter p xs))) (x ∷ xs))
    go false f [] g k = subst (λ v. Each (λ t. p t ≡ false) (behind (last_of v) (x ∷ xs))) (sym g) (f, none_left p xs g)
    go true f [] g k = subst (λ v. Each (λ t. p t ≡ false) (behind (last_of (x ∷ v)) (x ∷ xs))) (sym g) (subst (λ b. Each (λ t. p t ≡ false) (cond b xs (behind (Some x) xs))) (sym (same-self x)) (none_left p xs g))
    go false f (y ∷ ys) g k = subst (λ v. Each (λ t. p t ≡ false) (behind (last_of v) (x ∷ xs))) (sym g) (later y ys g (last_or (Some y) ys) refl (subst (λ v. Each (λ t. p t ≡ false) (behind (last_of v) xs)) g k))
    go true f (y ∷ ys) g k = subst (λ v. Each (λ t. p t ≡ false) (behind (last_of (x ∷ v)) (x ∷ xs))) (sym g) (later y ys g (last_or (Some y) ys) refl (subst (λ v. Each (λ t. p t ≡ false) (behind (last_of v) xs)) g k))

harmless_none : (h x : ℕ) (t : Operation) → stores_to x t ≡ false → harmless h x t ≡ true
harmless_none h x t e = or_right (nat_eq t.hart h) _ (ap not e)

pub free_now : (h : ℕ) (order : List Operation) (r : Operation) (x : ℕ) → EachOnce order → Each (λ s. same s r ≡ false) order → stores_to x r ≡ false → IsFree h (order ++ r ∷ []) r x
free_now h order r x d first quiet =
    subst (λ o. Each (λ t. harmless h x t ≡ true) (behind o (order ++ r ∷ []))) (sym (ap last_of sees))
    (subst (Each (λ t. harmless h x t ≡ true)) (sym (behind_any (last_of (filter (stores_to x) order)) order (r ∷ []) found))
    (Each-append (λ t. harmless h x t ≡ true) (behind (last_of (filter (stores_to x) order)) order) (r ∷ [])
    (Each-weaker (λ t. stores_to x t ≡ false) (λ t. harmless h x t ≡ true) (harmless_none h x) (behind (last_of (filter (stores_to x) order)) order) (behind_last (stores_to x) order d)) (harmless_none h x r quiet, tt)))
  where
    sees : candidates (order ++ r ∷ []) r x ≡ filter (stores_to x) order
    sees =
        candidates-behind r x order (r ∷ []) first
        ∙ (ap (λ b. filter (stores_to x) order ++ cond b [] (cond (stores_to x r) (r ∷ []) [])) (same-self r) ∙ append-nil (filter (stores_to x) order))

    found : (s : Operation) → last_of (filter (stores_to x) order) ≡ Some s → list_any (same s) order ≡ true
    found s e = last_is (λ t. list_any (same t) order ≡ true) s (filter (stores_to x) order) e (Each-kept (λ t. list_any (same t) order ≡ true) (stores_to x) order (inside order))
