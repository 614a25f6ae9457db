-- Items that are read by their numbers.
use Rattle.std.proofs.Common.{◌≡◌, ℕ, zero, suc, ◌+◌, ◌-◌, ◌<◌, ◌≤◌, List, [], ◌∷◌, ◌++◌, length, Option, Some, None, refl, sym, ap, subst, ◌∙◌, append_assoc, arith}
use Rattle.std.specs.List.{AllByRecursion}
use Rattle.std.proofs.lemmas.List.{append-nil}
use Rattle.text_fields.specs.Fields.{numbered}
use Rattle.text_fields.specs.Reading.{◌>>=◌, numbered_at}
use Rattle.text_fields.proofs.Laws.{bind_some, some_is}
use Rattle.text_fields.proofs.Loops.{fronted, fronted_none, fronted_more}

pub numbered_takes : {A : Type 0} (s : ℕ → A → List ℕ) (f : A → Type 0) (item : ℕ → List ℕ → Option (A × List ℕ)) → ((h : ℕ) (bytes : List ℕ) (x : A) (rest : List ℕ) → item h bytes ≡ Some (x, rest) → (bytes ≡ s h x ++ rest) × f x)
    → (n h : ℕ) (bytes : List ℕ) (xs : List A) (rest : List ℕ) → numbered_at item n h bytes ≡ Some (xs, rest) → (bytes ≡ numbered s h xs ++ rest) × ((length xs ≡ n) × AllByRecursion f xs)
unfolding numbered_at
numbered_takes {A} s f item law zero h bytes xs rest e =
    let made : List A × List ℕ = ([], bytes) in
    subst (λ (y : List A × List ℕ). (bytes ≡ numbered s h y.0 ++ y.1) × ((length y.0 ≡ 0) × AllByRecursion f y.0)) (some_is made (xs, rest) e) (refl, (refl, tt))
numbered_takes {A} s f item law (suc n) h bytes xs rest e =
    let p = bind_some (item h bytes) (λ x. numbered_at item n (suc h) x.1 >>= λ ys. Some (x.0 ∷ ys.0, ys.1)) (xs, rest) e in
    let q = bind_some (numbered_at item n (suc h) p.0.1) (λ ys. Some (p.0.0 ∷ ys.0, ys.1)) (xs, rest) p.2 in
    let first = law h bytes p.0.0 p.0.1 p.1 in
    let others = numbered_takes s f item law n (suc h) p.0.1 q.0.0 q.0.1 q.1 in
    let made : List A × List ℕ = (p.0.0 ∷ q.0.0, q.0.1) in
    subst (λ (y : List A × List ℕ). (bytes ≡ numbered s h y.0 ++ y.1) × ((length y.0 ≡ suc n) × AllByRecursion f y.0)) (some_is made (xs, rest) q.2)
    (first.0 ∙ ap (λ t. s h p.0.0 ++ t) others.0 ∙ sym (append_assoc (s h p.0.0) (numbered s (suc h) q.0.0) q.0.1), (ap suc others.1.0, (first.1, others.1.1)))

-- each item is read again where the items after it follow
pub numbered_again : {A : Type 0} (s : ℕ → A → List ℕ) (f : A → Type 0) (item : ℕ → List ℕ → Option (A × List ℕ)) (top : ℕ) (rest : List ℕ) → ((h : ℕ) (x : A) (more : List A) → suc h + length more ≤ top → f x → item h (s h x ++ (numbered s (suc h) more ++ rest)) ≡ Some (x, numbered s (suc h) more ++ rest))
    → (n h : ℕ) (xs : List A) → length xs ≡ n → h + n ≤ top → AllByRecursion f xs → numbered_at item n h (numbered s h xs ++ rest) ≡ Some (xs, rest)
unfolding numbered_at
numbered_again s f item top rest law zero h [] len le fits = refl
numbered_again s f item top rest law zero h (x ∷ xs) len le fits = absurd (omega arith)
numbered_again s f item top rest law (suc n) h [] len le fits = absurd (omega arith)
numbered_again s f item top rest law (suc n) h (x ∷ xs) len le fits =
    let one = law h x xs (omega arith) fits.0 in
    ap (numbered_at item (suc n) h) (append_assoc (s h x) (numbered s (suc h) xs) rest) ∙ rw (one, numbered_again s f item top rest law n (suc h) xs (omega arith) (omega arith) fits.1) refl

-- ---- loops over items by number

-- what stands in front, and what is still to be read, are all there is
abbrev pub Numbered : {A : Type 0} → (ℕ → List ℕ → Option (A × List ℕ)) → ℕ → ℕ → List A → List ℕ → Option (List A × List ℕ) → Type 0
Numbered item count h front rest total = fronted front (numbered_at item (count - h) h rest) ≡ total

pub numbered_starts : {A : Type 0} (item : ℕ → List ℕ → Option (A × List ℕ)) (count : ℕ) (bytes : List ℕ) → Numbered item count 0 [] bytes (numbered_at item count 0 bytes)
numbered_starts item count bytes = let whole : count - 0 ≡ count = omega arith in rw whole (fronted_none (numbered_at item count 0 bytes))

numbered_step : {A : Type 0} (item : ℕ → List ℕ → Option (A × List ℕ)) (n h : ℕ) (rest : List ℕ) → numbered_at item (suc n) h rest ≡ (item h rest >>= λ x. numbered_at item n (suc h) x.1 >>= λ xs. Some (x.0 ∷ xs.0, xs.1))
unfolding numbered_at
numbered_step item n h rest = refl

numbered_end : {A : Type 0} (item : ℕ → List ℕ → Option (A × List ℕ)) (h : ℕ) (rest : List ℕ) → numbered_at item 0 h rest ≡ Some ([], rest)
unfolding numbered_at
numbered_end item h rest = refl

pub numbered_more : {A : Type 0} (item : ℕ → List ℕ → Option (A × List ℕ)) (count h : ℕ) (front : List A) (rest later : List ℕ) (x : A) (total : Option (List A × List ℕ)) → h < count → item h rest ≡ Some (x, later)
    → Numbered item count h front rest total → Numbered item count (h + 1) (front ++ x ∷ []) later total
numbered_more item count h front rest later x total lt read so_far =
    let one : count - h ≡ suc (count - (h + 1)) = omega arith in
    let next : h + 1 ≡ suc h = omega arith in
    let step : numbered_at item (suc (count - (h + 1))) h rest ≡ (numbered_at item (count - (h + 1)) (suc h) later >>= λ xs. Some (x ∷ xs.0, xs.1)) = numbered_step item (count - (h + 1)) h rest ∙ rw read refl in
    ap (λ k. fronted (front ++ x ∷ []) (numbered_at item (count - (h + 1)) k later)) next
    ∙ sym (fronted_more front x (numbered_at item (count - (h + 1)) (suc h) later))
    ∙ ap (fronted front) (sym step)
    ∙ (rw one at so_far)

pub numbered_fails : {A : Type 0} (item : ℕ → List ℕ → Option (A × List ℕ)) (count h : ℕ) (front : List A) (rest : List ℕ) (total : Option (List A × List ℕ)) → h < count → item h rest ≡ None → Numbered item count h front rest total → total ≡ None
numbered_fails item count h front rest total lt read so_far =
    let one : count - h ≡ suc (count - (h + 1)) = omega arith in
    let step : numbered_at item (suc (count - (h + 1))) h rest ≡ None = numbered_step item (count - (h + 1)) h rest ∙ rw read refl in
    sym (rw one at so_far) ∙ ap (fronted front) step

pub numbered_ends : {A : Type 0} (item : ℕ → List ℕ → Option (A × List ℕ)) (count h : ℕ) (front : List A) (rest : List ℕ) (total : Option (List A × List ℕ)) → count ≤ h → Numbered item count h front rest total → total ≡ Some (front, rest)
numbered_ends {A} item count h front rest total le so_far =
    let none : count - h ≡ 0 = omega arith in
    sym (rw none at so_far) ∙ ap (fronted front) (numbered_end item h rest) ∙ ap (λ (l : List A). Some (l, rest)) (append-nil front)
