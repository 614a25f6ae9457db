-- A hart's operations that are not performed are its waiting stores, in program order.
use Rattle.std.proofs.Common.{◌≡◌, ℕ, ◌<◌, List, [], ◌∷◌, ◌++◌, Bool, true, false, Option, Some, None, refl, cond, sym, ap, ◌∙◌, subst, not, ◌&&◌, ◌||◌, append-nil, arith, length}
use Rattle.std.specs.Prelude.{nat_eq, slice_get, option_and_then}
use Rattle.std.specs.List.{AllByRecursion as Each, filter, filter_map, list_any}
use Rattle.std.proofs.lemmas.Bool.{and_left, and_right, or_from, eqb-true, ne_eqb}
use Rattle.std.proofs.lemmas.List.Elements.{filter-append, filter_map-append}
use Rattle.std.proofs.lemmas.List.Folds.{list_any-append}
use Rattle.memory_model.proofs.Named.{EachOnce}
use Rattle.memory_model.specs.declared.operation.Operation.{Operation}
use Rattle.memory_model.specs.Items.{Item}
use Rattle.memory_model.specs.Operations.{same}
use Rattle.memory_model.proofs.Forms.{same-self, same-swap}
use Rattle.memory_model.proofs.Lists.{Each-append, Each-weaker, Each-both, Each-kept, Pairwise-append, Pairwise-filter, filter_same, filter_none}
use Rattle.machine_model.proofs.order.Lists.{Each-always, Pairwise-left, Pairwise-across, filter-filter, others}
use Rattle.machine_model.proofs.order.Kept.{IsBelow, length_more, get_left, get_new}

-- the operations of a hart's list, in program order
abbrev pub ops_of : List Item → List Operation
ops_of items = filter_map (λ (m : Item). m.operation) items

-- the operation at a place
abbrev pub gave_at : List Item → ℕ → Option Operation
gave_at items k = option_and_then (λ (m : Item). m.operation) (slice_get items k)

-- not among the performed ones
abbrev pub absent : List Operation → Operation → Bool
absent performed a = not (list_any (same a) performed)

-- an operation bears its hart's number, and is found by its place
pub record IsNamed (h : ℕ) (items : List Item) (a : Operation) : Type 0 where
  pub own : a.hart ≡ h
  pub below : a.place < length items
  pub found : gave_at items a.place ≡ Some a

pub record Split (h : ℕ) (items : List Item) (waiting performed : List Operation) : Type 0 where
  pub waits : filter (absent performed) (ops_of items) ≡ waiting
  pub named : Each (IsNamed h items) (ops_of items)
  pub distinct : EachOnce (ops_of items)

same_none : (a : Operation) (xs : List Operation) → Each (λ s. same a s ≡ false) xs → list_any (same a) xs ≡ false
same_none a [] h = refl
same_none a (x ∷ xs) h = or_from _ _ h.0 (same_none a xs h.1)

absent_more : (done out : List Operation) (a : Operation) → absent (done ++ out) a ≡ (absent done a && absent out a)
absent_more done out a = ap not (list_any-append (same a) done out) ∙ de_morgan (list_any (same a) done) (list_any (same a) out)
  where
    de_morgan : (a b : Bool) → not (a || b) ≡ (not a && not b)
    de_morgan true b = refl
    de_morgan false b = refl

pub filter_absent : (done out xs : List Operation) → filter (absent (done ++ out)) xs ≡ filter (absent out) (filter (absent done) xs)
filter_absent done out xs = filter_same (absent (done ++ out)) (λ a. absent done a && absent out a) xs (Each-always (λ a. absent (done ++ out) a ≡ (absent done a && absent out a)) (λ a. absent_more done out a) xs) ∙ sym (filter-filter (absent done) (absent out) xs)

keep_at : (b : Bool) (x : Operation) (xs ys : List Operation) → b ≡ true → xs ≡ ys → cond b (x ∷ xs) xs ≡ x ∷ ys
keep_at b x xs ys e f = ap (λ c. cond c (x ∷ xs) xs) e ∙ ap (λ v. x ∷ v) f

skip_at : (b : Bool) (x : Operation) (xs ys : List Operation) → b ≡ false → xs ≡ ys → cond b (x ∷ xs) xs ≡ ys
skip_at b x xs ys e f = ap (λ c. cond c (x ∷ xs) xs) e ∙ f

all_absent : (out xs : List Operation) → Each (λ a. Each (λ s. same a s ≡ false) out) xs → filter (absent out) xs ≡ xs
all_absent out [] h = refl
all_absent out (x ∷ xs) h = keep_at (absent out x) x _ xs (ap not (same_none x out h.0)) (all_absent out xs h.1)

-- those that leave a group leave the others
leave_rest : (p : Operation → Bool) (g : List Operation) → EachOnce g → filter (absent (filter p g)) g ≡ others p g
leave_rest p [] d = refl
leave_rest p (x ∷ g) d = go (p x) (leave_rest p g d.1)
  where
    apart : Each (λ a. same a x ≡ false) g
    apart = Each-weaker (λ t. same x t ≡ false) (λ t. same t x ≡ false) (λ t q. same-swap x t q) g d.0

    skip : filter (absent (x ∷ filter p g)) g ≡ filter (absent (filter p g)) g
    skip = filter_same (absent (x ∷ filter p g)) (absent (filter p g)) g (Each-weaker (λ a. same a x ≡ false) (λ a. absent (x ∷ filter p g) a ≡ absent (filter p g) a) (λ a q. ap (λ b. not (b || list_any (same a) (filter p g))) q) g apart)

    go : (b : Bool) → filter (absent (filter p g)) g ≡ others p g → filter (absent (cond b (x ∷ filter p g) (filter p g))) (x ∷ g) ≡ cond (not b) (x ∷ others p g) (others p g)
    go true ih = skip_at (absent (x ∷ filter p g) x) x _ _ (ap (λ b. not (b || list_any (same x) (filter p g))) (same-self x)) (skip ∙ ih)
    go false ih = keep_at (absent (filter p g) x) x _ _ (ap not (same_none x (filter p g) (Each-kept (λ t. same x t ≡ false) p g d.0))) ih

-- ---- a new item

named_more : (h : ℕ) (items : List Item) (m : Item) (xs : List Operation) → Each (IsNamed h items) xs → Each (IsNamed h (items ++ m ∷ [])) xs
named_more h items m xs n = Each-weaker (IsNamed h items) (IsNamed h (items ++ m ∷ []))
    (λ a q. record { own = q.own; below = (let l = q.below in rw length_more (omega (arith, l))); found = ap (option_and_then (λ (m : Item). m.operation)) (get_left items m a.place q.below) ∙ q.found }) xs n

ops_more : (items : List Item) (m : Item) (s : Operation) → m.operation ≡ Some s → ops_of (items ++ m ∷ []) ≡ ops_of items ++ s ∷ []
ops_more items m s e = filter_map-append (λ (q : Item). q.operation) items (m ∷ []) ∙ ap (λ v. ops_of items ++ v) (rw e refl)

pub ops_same : (items : List Item) (m : Item) → m.operation ≡ None → ops_of (items ++ m ∷ []) ≡ ops_of items
ops_same items m e = filter_map-append (λ (q : Item). q.operation) items (m ∷ []) ∙ (ap (λ v. ops_of items ++ v) (rw e refl) ∙ append-nil (ops_of items))

unlike : (h : ℕ) (items : List Item) (s a : Operation) → s.place ≡ length items → IsNamed h items a → (same a s ≡ false) × (same s a ≡ false)
unlike h items s a e q =
    let l = q.below in
    (and_right (nat_eq a.hart s.hart) _ (ne_eqb a.place s.place (λ f. absurd (omega (arith, f, e, l)))), and_right (nat_eq s.hart a.hart) _ (ne_eqb s.place a.place (λ f. absurd (omega (arith, f, e, l)))))

new_named : (h : ℕ) (items : List Item) (m : Item) (s : Operation) → m.operation ≡ Some s → s.hart ≡ h → s.place ≡ length items → IsNamed h (items ++ m ∷ []) s
new_named h items m s g mine here = record { own = mine; below = rw length_more (omega (arith, here)); found = ap (option_and_then (λ (m : Item). m.operation)) (get_new items m s.place here) ∙ g }

split_named : (h : ℕ) (items : List Item) (m : Item) (s : Operation) → m.operation ≡ Some s → s.hart ≡ h → s.place ≡ length items → Each (IsNamed h items) (ops_of items) → Each (IsNamed h (items ++ m ∷ [])) (ops_of (items ++ m ∷ []))
split_named h items m s g mine here n =
    subst (Each (IsNamed h (items ++ m ∷ []))) (sym (ops_more items m s g)) (Each-append (IsNamed h (items ++ m ∷ [])) (ops_of items) (s ∷ []) (named_more h items m (ops_of items) n) (new_named h items m s g mine here, tt))

split_distinct : (h : ℕ) (items : List Item) (m : Item) (s : Operation) → m.operation ≡ Some s → s.place ≡ length items → Each (IsNamed h items) (ops_of items) → EachOnce (ops_of items) → EachOnce (ops_of (items ++ m ∷ []))
split_distinct h items m s g here n d =
    subst EachOnce (sym (ops_more items m s g)) (Pairwise-append (λ a b. same a b ≡ false) (ops_of items) (s ∷ []) d (tt, tt)
    (Each-weaker (IsNamed h items) (λ a. Each (λ b. same a b ≡ false) (s ∷ [])) (λ a q. ((unlike h items s a here q).0, tt)) (ops_of items) n))

-- an operation of the hart that is new is none of the performed ones
pub new_name : (h n : ℕ) (s a : Operation) → s.hart ≡ h → s.place ≡ n → IsBelow h n a → same s a ≡ false
new_name h n s a mine here q = go (nat_eq s.hart a.hart) refl
  where
    go : (b : Bool) → nat_eq s.hart a.hart ≡ b → same s a ≡ false
    go true e = let l = q.below (sym (eqb-true s.hart a.hart e) ∙ mine) in and_right (nat_eq s.hart a.hart) _ (ne_eqb s.place a.place (λ f. absurd (omega (arith, f, here, l))))
    go false e = and_left (nat_eq s.hart a.hart) _ e

-- a store joins those that wait
pub split_store : (h : ℕ) (items : List Item) (waiting performed : List Operation) (m : Item) (s : Operation) → m.operation ≡ Some s → s.hart ≡ h → s.place ≡ length items → Each (IsBelow h (length items)) performed → Split h items waiting performed → Split h (items ++ m ∷ []) (waiting ++ s ∷ []) performed
split_store h items waiting performed m s g mine here below k = record {
  waits = ap (filter (absent performed)) (ops_more items m s g) ∙ (filter-append (absent performed) (ops_of items) (s ∷ []) ∙ (ap (λ v. v ++ filter (absent performed) (s ∷ [])) k.waits
      ∙ ap (λ v. waiting ++ v) (keep_at (absent performed s) s [] [] (ap not (same_none s performed (Each-weaker (IsBelow h (length items)) (λ a. same s a ≡ false) (λ a q. new_name h (length items) s a mine here q) performed below))) refl)));
  named = split_named h items m s g mine here k.named;
  distinct = split_distinct h items m s g here k.named k.distinct;
}

-- an operation is performed as it retires
pub split_at_once : (h : ℕ) (items : List Item) (waiting performed : List Operation) (m : Item) (i : Operation) → m.operation ≡ Some i → i.hart ≡ h → i.place ≡ length items → Split h items waiting performed → Split h (items ++ m ∷ []) waiting (performed ++ i ∷ [])
split_at_once h items waiting performed m i g mine here k = record {
  waits = ap (filter (absent (performed ++ i ∷ []))) (ops_more items m i g) ∙ (filter-append (absent (performed ++ i ∷ [])) (ops_of items) (i ∷ []) ∙ (ap (λ v. v ++ filter (absent (performed ++ i ∷ [])) (i ∷ [])) old ∙ (ap (λ v. waiting ++ v) gone ∙ append-nil waiting)));
  named = split_named h items m i g mine here k.named;
  distinct = split_distinct h items m i g here k.named k.distinct;
}
  where
    old : filter (absent (performed ++ i ∷ [])) (ops_of items) ≡ waiting
    old = filter_absent performed (i ∷ []) (ops_of items) ∙ (all_absent (i ∷ []) (filter (absent performed) (ops_of items)) (Each-kept (λ a. Each (λ s. same a s ≡ false) (i ∷ [])) (absent performed) (ops_of items)
        (Each-weaker (IsNamed h items) (λ a. Each (λ s. same a s ≡ false) (i ∷ [])) (λ a q. ((unlike h items i a here q).0, tt)) (ops_of items) k.named)) ∙ k.waits)

    gone : filter (absent (performed ++ i ∷ [])) (i ∷ []) ≡ []
    gone = filter_none (absent (performed ++ i ∷ [])) (i ∷ []) (absent_more performed (i ∷ []) i ∙ and_right (absent performed i) (absent (i ∷ []) i) (ap (λ b. not (b || false)) (same-self i)), tt)

-- an item with no operation
pub split_item : (h : ℕ) (items : List Item) (waiting performed : List Operation) (m : Item) → m.operation ≡ None → Split h items waiting performed → Split h (items ++ m ∷ []) waiting performed
split_item h items waiting performed m g k = record {
  waits = ap (filter (absent performed)) (ops_same items m g) ∙ k.waits;
  named = subst (Each (IsNamed h (items ++ m ∷ []))) (sym (ops_same items m g)) (named_more h items m (ops_of items) k.named);
  distinct = subst EachOnce (sym (ops_same items m g)) k.distinct;
}

pub turned : (xs ys : List Operation) → Each (λ a. Each (λ b. same a b ≡ false) ys) xs → Each (λ b. Each (λ a. same b a ≡ false) xs) ys
turned [] ys h = Each-always (λ b. Each (λ a. same b a ≡ false) []) (λ b. tt) ys
turned (x ∷ xs) ys h = Each-both (λ b. same b x ≡ false) (λ b. Each (λ a. same b a ≡ false) xs) ys (Each-weaker (λ b. same x b ≡ false) (λ b. same b x ≡ false) (λ b q. same-swap x b q) ys h.0) (turned xs ys h.1)

-- those that wait are distinct
pub waiting_distinct : (h : ℕ) (items : List Item) (waiting performed : List Operation) → Split h items waiting performed → EachOnce waiting
waiting_distinct h items waiting performed k = subst EachOnce k.waits (Pairwise-filter (λ a b. same a b ≡ false) (absent performed) (ops_of items) k.distinct)

-- some of the group that stands first are performed
pub split_drain : (h : ℕ) (items : List Item) (g rest performed : List Operation) (p : Operation → Bool) → Split h items (g ++ rest) performed → Split h items (others p g ++ rest) (performed ++ filter p g)
split_drain h items g rest performed p k =
    let d : EachOnce (g ++ rest) = waiting_distinct h items (g ++ rest) performed k in
    record {
      waits = filter_absent performed (filter p g) (ops_of items) ∙ (ap (filter (absent (filter p g))) k.waits ∙ (filter-append (absent (filter p g)) g rest
          ∙ (ap (λ v. v ++ filter (absent (filter p g)) rest) (leave_rest p g (Pairwise-left (λ a b. same a b ≡ false) g rest d)) ∙ ap (λ v. others p g ++ v) (all_absent (filter p g) rest (turned (filter p g) rest (Each-kept (λ a. Each (λ b. same a b ≡ false) rest) p g (Pairwise-across (λ a b. same a b ≡ false) g rest d)))))));
      named = k.named;
      distinct = k.distinct;
    }

-- another hart's operations are performed
pub split_foreign : (h : ℕ) (items : List Item) (waiting performed out : List Operation) → Each (λ s. s.hart ≡ h → ⊥) out → Split h items waiting performed → Split h items waiting (performed ++ out)
split_foreign h items waiting performed out foreign k = record {
  waits = filter_absent performed out (ops_of items) ∙ (all_absent out (filter (absent performed) (ops_of items)) (Each-kept (λ a. Each (λ s. same a s ≡ false) out) (absent performed) (ops_of items)
      (Each-weaker (IsNamed h items) (λ a. Each (λ s. same a s ≡ false) out) (λ a q. Each-weaker (λ s. s.hart ≡ h → ⊥) (λ s. same a s ≡ false) (λ s o. and_left (nat_eq a.hart s.hart) _ (ne_eqb a.hart s.hart (λ e. o (sym e ∙ q.own)))) out foreign) (ops_of items) k.named)) ∙ k.waits);
  named = k.named;
  distinct = k.distinct;
}

-- those that wait aren't performed
pub waiting_absent : (h : ℕ) (items : List Item) (waiting performed : List Operation) → Split h items waiting performed → Each (λ a. absent performed a ≡ true) waiting
waiting_absent h items waiting performed k = subst (Each (λ a. absent performed a ≡ true)) k.waits (passing (absent performed) (ops_of items))
  where
    at : (p : Operation → Bool) (b : Bool) (x : Operation) (xs : List Operation) → p x ≡ b → Each (λ a. p a ≡ true) xs → Each (λ a. p a ≡ true) (cond b (x ∷ xs) xs)
    at p true x xs e h = (e, h)
    at p false x xs e h = h

    passing : (p : Operation → Bool) (xs : List Operation) → Each (λ a. p a ≡ true) (filter p xs)
    passing p [] = tt
    passing p (x ∷ xs) = at p (p x) x (filter p xs) refl (passing p xs)

pub waiting_named : (h : ℕ) (items : List Item) (waiting performed : List Operation) → Split h items waiting performed → Each (IsNamed h items) waiting
waiting_named h items waiting performed k = subst (Each (IsNamed h items)) k.waits (Each-kept (IsNamed h items) (absent performed) (ops_of items) k.named)
