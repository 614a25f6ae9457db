-- Lists that leave out elements of lists.
use Rattle.std.proofs.Common.{◌≡◌, inl, inr, refl, sym, ap, subst, arith, ℕ, ◌+◌, ◌-◌, ◌<◌, ◌≤◌, List, [], ◌∷◌, ◌++◌, drop, length, length-append, take, get_or}
use Rattle.std.proofs.lemmas.List.{append-nil, append_assoc, length-drop, take_all, take_more}
use Rattle.machine_types.specs.declared.event.Event.{Event}
use Rattle.schedules.specs.Schedules.{MayAdd}
use Rattle.schedules.specs.Sublists.{IsSublist}

pub whole : {A : Type 0} (xs : List A) → IsSublist xs xs
whole [] = refl
whole (x ∷ xs) = inr (xs, refl, whole xs)

nothing : {A : Type 0} (ys : List A) → IsSublist [] ys
nothing [] = refl
nothing (y ∷ ys) = inl (nothing ys)

pub through : {A : Type 0} (xs ys zs : List A) → IsSublist xs ys → IsSublist ys zs → IsSublist xs zs
through xs ys [] p q = subst (λ l. IsSublist xs l) q p
through xs ys (z ∷ zs) p q =
    elim q [
      | inl left ↦ inl (through xs ys zs p left)
      | inr kept ↦
          elim (subst (λ l. IsSublist xs l) kept.1 p) [
            | inl out ↦ inl (through xs kept.0 zs out kept.2)
            | inr also ↦ inr (also.0, also.1, through also.0 kept.0 zs also.2 kept.2)
          ]
    ]

pub beside : {A : Type 0} (xs ys vs ws : List A) → IsSublist xs ys → IsSublist vs ws → IsSublist (xs ++ vs) (ys ++ ws)
beside xs [] vs ws p q = subst (λ l. IsSublist (l ++ vs) ws) (sym p) q
beside xs (y ∷ ys) vs ws p q =
    elim p [
      | inl left ↦ inl (beside xs ys vs ws left q)
      | inr kept ↦ inr (kept.0 ++ vs, ap (λ l. l ++ vs) kept.1, beside kept.0 ys vs ws kept.2 q)
    ]

-- one more element, that is left out or kept
pub one_left_out : {A : Type 0} (xs ys : List A) (y : A) → IsSublist xs ys → IsSublist xs (ys ++ y ∷ [])
one_left_out xs ys y p = subst (λ l. IsSublist l (ys ++ y ∷ [])) (append-nil xs) (beside xs ys [] (y ∷ []) p (nothing (y ∷ [])))

pub one_more : (xs ys : List Event) (y : Event) (new : List Event) → IsSublist xs ys → MayAdd xs y new → IsSublist new (ys ++ y ∷ [])
one_more xs ys y new p k =
    elim k [
      | inl out ↦ subst (λ l. IsSublist l (ys ++ y ∷ [])) (sym out) (one_left_out xs ys y p)
      | inr kept ↦ subst (λ l. IsSublist l (ys ++ y ∷ [])) (sym kept) (beside xs ys (y ∷ []) (y ∷ []) p (whole (y ∷ [])))
    ]

-- of the first elements of a list, and one more
pub skip_next : (xs events : List Event) (i : ℕ) (d : Event) → i < length events → IsSublist xs (take i events) → IsSublist xs (take (i + 1) events)
skip_next xs events i d below p = subst (IsSublist xs) (sym (take_more events i d below)) (one_left_out xs (take i events) (get_or events i d) p)

pub take_next : (xs events : List Event) (i : ℕ) (d : Event) (new : List Event) → i < length events → MayAdd xs (get_or events i d) new → IsSublist xs (take i events) → IsSublist new (take (i + 1) events)
take_next xs events i d new below k p = subst (IsSublist new) (sym (take_more events i d below)) (one_more xs (take i events) (get_or events i d) new p k)

-- ---- of a list whose first elements are gone through

-- what is kept, and whatever is kept of the rest behind it, is some of all
abbrev pub IsSomeBefore : List Event → List Event → List Event → Type 0
IsSomeBefore xs rest all = (vs : List Event) → IsSublist vs rest → IsSublist (xs ++ vs) all

first_is : (xs : List Event) (d : Event) → 1 ≤ length xs → xs ≡ get_or xs 0 d ∷ take (length xs - 1) (drop 1 xs)
first_is [] d some = absurd (omega (arith, some))
first_is (x ∷ xs) d some = ap (λ (r : List Event). x ∷ r) (sym (take_all (length (x ∷ xs) - 1) (drop 1 (x ∷ xs)) (omega (arith, length-drop 1 (x ∷ xs)))))

pub one_before : (xs rest all : List Event) (d : Event) (new : List Event) → 1 ≤ length rest → MayAdd xs (get_or rest 0 d) new → IsSomeBefore xs rest all → IsSomeBefore new (take (length rest - 1) (drop 1 rest)) all
one_before xs rest all d new some k before vs p =
    elim k [
      | inl out ↦ subst (λ l. IsSublist (l ++ vs) all) (sym out) (go vs (inl p))
      | inr kept ↦
          subst (λ l. IsSublist (l ++ vs) all) (sym kept)
          (subst (λ l. IsSublist l all) (sym (append_assoc xs (get_or rest 0 d ∷ []) vs)) (go (get_or rest 0 d ∷ vs) (inr (vs, refl, p))))
    ]
  where
    go : IsSomeBefore xs (get_or rest 0 d ∷ take (length rest - 1) (drop 1 rest)) all
    go = subst (λ r. IsSomeBefore xs r all) (first_is rest d some) before

pub all_before : (xs rest all : List Event) → IsSomeBefore xs rest all → IsSublist xs all
all_before xs rest all before = subst (λ l. IsSublist l all) (append-nil xs) (before [] (nothing rest))

-- at most one is added
pub at_most_one : (old new : List Event) (e : Event) → MayAdd old e new → length new ≤ length old + 1
at_most_one old new e kept =
    elim kept [
      | inl out ↦ let same : length new ≡ length old = ap length out in omega arith
      | inr more ↦ let same : length new ≡ length (old ++ e ∷ []) = ap length more in omega (arith, length-append old (e ∷ []))
    ]
