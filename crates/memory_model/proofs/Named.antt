-- Operations bear the names that they are found by, so an order has no operation twice; the completed order is an order.
use Rattle.std.proofs.Common.{◌≡◌, ℕ, zero, suc, ◌+◌, ◌≤◌, List, [], ◌∷◌, ◌++◌, Bool, true, false, Option, Some, None, refl, cond, sym, ap, ◌∙◌, subst, not, inl, inr, arith}
use Rattle.std.specs.Prelude.{nat_eq, option_and_then, slice_get}
use Rattle.std.specs.List.{AllByRecursion as Each, filter, cons_option, list_any}
use Rattle.std.proofs.lemmas.Bool.{false≢true, and_parts, and_from, or_left, or_right, or_from, or_parts, and_left, and_right, eq-eqb, eqb-true, ne_eqb, not-true}
use Rattle.std.proofs.lemmas.List.Folds.{list_any-append}
use Rattle.hart.specs.Image.{Initial}
use Rattle.hart.specs.Annotations.{Annotations}
use Rattle.hart.specs.Instr.{Instr}
use Rattle.hart.specs.Rows.{decoded}
use Rattle.hart.specs.Meaning.{Access, Private, Loads, Stores, DoesLr, DoesSc, DoesAmo, Fences, Calls, access_of}
use Rattle.hart.specs.declared.retired.Retired.{Retired}
use Rattle.hart.specs.declared.state.Hart.{Hart}
use Rattle.hart.specs.Run.{after, after_instr, at_reset}
use Rattle.trace_recorder.specs.History.{History}
use Rattle.trace_recorder.specs.declared.operation.OpId.{OpId}
use Rattle.memory_model.specs.declared.operation.Operation.{Operation}
use Rattle.memory_model.specs.Operations.{same}
use Rattle.memory_model.specs.Items.{Item, operation_of_access, succeeded, operation_of_entry, annotations_of, items_from, items_of_harts, has_operation}
use Rattle.memory_model.specs.Traces.{is_named, is_among, is_distinct, names_from, names_of_harts, names_in, operation_at, operations_at, instructions}
use Rattle.memory_model.specs.Laws.{CompletedIsOrder}
use Rattle.memory_model.proofs.Lists.{Member, Pairwise, Each-append, Each-weaker, Each-filter, Each-kept, Each-at, Each-from, Pairwise-append, Pairwise-filter, Each-from_list_all, list_all-from_Each}

-- ---- an operation bears the name that it is found by

same_value : {X : Type 0} (a b : X) → Some a ≡ Some b → a ≡ b
same_value a b e = cc

pub record Bears (hart place : ℕ) (a : Operation) : Type 0 where
  pub hart_is : a.hart ≡ hart
  pub place_is : a.place ≡ place

bears_by : (hart place : ℕ) (r a : Operation) → r.hart ≡ hart → r.place ≡ place → Some r ≡ Some a → Bears hart place a
bears_by hart place r a h p e = let f = same_value r a e in record { hart_is = ap (λ (o : Operation). o.hart) (sym f) ∙ h; place_is = ap (λ (o : Operation). o.place) (sym f) ∙ p }

none_is_not : {X : Type 0} (a : X) → None ≡ Some a → ⊥
none_is_not a e = cc

tried_bears : (hart place : ℕ) (ok : Bool) (r a : Operation) → r.hart ≡ hart → r.place ≡ place → cond ok (Some r) None ≡ Some a → Bears hart place a
tried_bears hart place true r a h p e = bears_by hart place r a h p e
tried_bears hart place false r a h p e = absurd (none_is_not a e)

operation_bears : (hart place : ℕ) (bits : Annotations) (entry : Retired) (access : Access) (a : Operation) → operation_of_access hart place bits entry access ≡ Some a → Bears hart place a
operation_bears hart place bits entry (Loads address bytes) a e = bears_by hart place _ a refl refl e
operation_bears hart place bits entry (Stores address bytes value) a e = bears_by hart place _ a refl refl e
operation_bears hart place bits entry (DoesLr address) a e = bears_by hart place _ a refl refl e
operation_bears hart place bits entry (DoesSc address value) a e = tried_bears hart place (succeeded entry.sc_ok) _ a refl refl e
operation_bears hart place bits entry (DoesAmo address op operand) a e = bears_by hart place _ a refl refl e
operation_bears hart place bits entry Private a e = absurd (none_is_not a e)
operation_bears hart place bits entry Fences a e = absurd (none_is_not a e)
operation_bears hart place bits entry (Calls number argument) a e = absurd (none_is_not a e)

given_bears : (place : ℕ) (hart : Hart) (entry : Retired) (i : Option Instr) (a : Operation) → operation_of_entry place hart entry i ≡ Some a → Bears hart.id place a
given_bears place hart entry None a e = absurd (none_is_not a e)
given_bears place hart entry (Some i) a e = operation_bears hart.id place (annotations_of i) entry (access_of i hart.regs) a e

id-after_instr : (hart : Hart) (entry : Retired) (o : Option Instr) → (after_instr hart entry o).id ≡ hart.id
id-after_instr hart entry None = refl
id-after_instr hart entry (Some i) = refl

pub id-after : (hart : Hart) (entry : Retired) → (after hart entry).id ≡ hart.id
id-after hart entry = id-after_instr hart entry (decoded entry.word)

gave_at : Option Item → Option Operation
gave_at o = option_and_then (λ (m : Item). m.operation) o

item_bears : (place : ℕ) (hart : Hart) (entries : List Retired) (k : ℕ) (a : Operation) → gave_at (slice_get (items_from place hart entries) k) ≡ Some a → Bears hart.id (place + k) a
unfolding gave_at
item_bears place hart [] k a e = absurd (none_is_not a e)
item_bears place hart (entry ∷ rest) zero a e = let b = given_bears place hart entry (decoded entry.word) a e in record { hart_is = b.hart_is; place_is = b.place_is ∙ omega arith }
item_bears place hart (entry ∷ rest) (suc k) a e =
    let b = item_bears (place + 1) (after hart entry) rest k a e in record { hart_is = b.hart_is ∙ id-after hart entry; place_is = b.place_is ∙ omega arith }

-- of an instruction of a hart's list
pub listed_bears : (place : ℕ) (hart : Hart) (entries : List Retired) (k : ℕ) (m : Item) (a : Operation) → slice_get (items_from place hart entries) k ≡ Some m → m.operation ≡ Some a → Bears hart.id (place + k) a
unfolding gave_at
listed_bears place hart entries k m a e f = item_bears place hart entries k a (ap gave_at e ∙ f)

found_bears : (image : Initial) (harts id : ℕ) (lists : List (List Retired)) (k place : ℕ) (a : Operation) → gave_at (option_and_then (λ (items : List Item). slice_get items place) (slice_get (items_of_harts image harts id lists) k)) ≡ Some a → Bears (id + k) place a
unfolding gave_at
found_bears image harts id [] k place a e = absurd (none_is_not a e)
found_bears image harts id (entries ∷ rest) zero place a e =
    let b = item_bears 0 (at_reset image id harts) entries place a e in record { hart_is = b.hart_is ∙ omega arith; place_is = b.place_is ∙ omega arith }
found_bears image harts id (entries ∷ rest) (suc k) place a e = let b = found_bears image harts (id + 1) rest k place a e in record { hart_is = b.hart_is ∙ omega arith; place_is = b.place_is }

pub operation_at-bears : (t : History) (name : OpId) (a : Operation) → operation_at (instructions t) name ≡ Some a → Bears name.hart name.place a
unfolding gave_at
operation_at-bears t name a e = let b = found_bears t.image _ 0 t.entries name.hart name.place a e in record { hart_is = b.hart_is ∙ omega arith; place_is = b.place_is }

-- ---- distinct names

pub is_named-self : (n : OpId) → is_named n n ≡ true
is_named-self n = and_from _ _ (eq-eqb n.hart n.hart refl) (eq-eqb n.place n.place refl)

pub is_named-swap : (a b : OpId) → is_named a b ≡ false → is_named b a ≡ false
is_named-swap a b e = go (is_named b a) refl
  where
    go : (c : Bool) → is_named b a ≡ c → is_named b a ≡ false
    go false f = f
    go true f =
        let s = and_parts (nat_eq b.hart a.hart) (nat_eq b.place a.place) f in
        absurd (false≢true (sym e ∙ and_from _ _ (eq-eqb a.hart b.hart (sym (eqb-true b.hart a.hart s.0))) (eq-eqb a.place b.place (sym (eqb-true b.place a.place s.1)))))

pub none_among : {X : Type 0} (p : X → Bool) (xs : List X) → Each (λ x. p x ≡ false) xs → list_any p xs ≡ false
none_among p [] h = refl
none_among p (x ∷ xs) h = or_from (p x) (list_any p xs) h.0 (none_among p xs h.1)

pub each_not : {X : Type 0} (p : X → Bool) (xs : List X) → list_any p xs ≡ false → Each (λ x. p x ≡ false) xs
each_not p [] e = tt
each_not p (x ∷ xs) e = let s = or_parts (p x) (list_any p xs) e in (s.0, each_not p xs s.1)

abbrev pub Apart : OpId → OpId → Type 0
Apart a b = is_named a b ≡ false

pub Pairwise-from_is_distinct : (xs : List OpId) → is_distinct xs ≡ true → Pairwise Apart xs
Pairwise-from_is_distinct [] e = tt
Pairwise-from_is_distinct (x ∷ xs) e = let s = and_parts (not (is_among xs x)) (is_distinct xs) e in (each_not (is_named x) xs (not-true _ s.0), Pairwise-from_is_distinct xs s.1)

pub is_distinct-from_Pairwise : (xs : List OpId) → Pairwise Apart xs → is_distinct xs ≡ true
is_distinct-from_Pairwise [] h = refl
is_distinct-from_Pairwise (x ∷ xs) h = and_from _ _ (ap (λ b. not b) (none_among (is_named x) xs h.0)) (is_distinct-from_Pairwise xs h.1)

-- ---- an order has no operation twice

abbrev pub EachOnce : List Operation → Type 0
EachOnce order = Pairwise (λ a b. same a b ≡ false) order

other_operations : (t : History) (name : OpId) (a : Operation) (rest : List OpId) → operation_at (instructions t) name ≡ Some a → Each (λ n. is_named name n ≡ false) rest → Each (λ b. same a b ≡ false) (operations_at (instructions t) rest)
other_operations t name a [] e h = tt
other_operations t name a (n ∷ rest) e h = go (operation_at (instructions t) n) refl (other_operations t name a rest e h.1)
  where
    go : (o : Option Operation) → operation_at (instructions t) n ≡ o → Each (λ b. same a b ≡ false) (operations_at (instructions t) rest) → Each (λ b. same a b ≡ false) (cons_option o (operations_at (instructions t) rest))
    go None f ih = ih
    go (Some b) f ih = let p = operation_at-bears t name a e in let q = operation_at-bears t n b f in (rw (p.hart_is, p.place_is, q.hart_is, q.place_is) h.0, ih)

pub operations_distinct : (t : History) (order : List OpId) → Pairwise Apart order → EachOnce (operations_at (instructions t) order)
operations_distinct t [] h = tt
operations_distinct t (name ∷ rest) h = go (operation_at (instructions t) name) refl (operations_distinct t rest h.1)
  where
    go : (o : Option Operation) → operation_at (instructions t) name ≡ o → EachOnce (operations_at (instructions t) rest) → EachOnce (cons_option o (operations_at (instructions t) rest))
    go None f ih = ih
    go (Some a) f ih = (other_operations t name a rest f h.0, ih)

-- ---- the names of a trace's operations are distinct

pub from_place : (hart place : ℕ) (entries : List Retired) → Each (λ n. (n.hart ≡ hart) × (place ≤ n.place)) (names_from hart place entries)
from_place hart place [] = tt
from_place hart place (entry ∷ rest) = go (has_operation entry) (Each-weaker (λ n. (n.hart ≡ hart) × (place + 1 ≤ n.place)) (λ n. (n.hart ≡ hart) × (place ≤ n.place)) (λ n h. let l = h.1 in (h.0, omega arith)) (names_from hart (place + 1) rest) (from_place hart (place + 1) rest))
  where
    go : (b : Bool) → Each (λ n. (n.hart ≡ hart) × (place ≤ n.place)) (names_from hart (place + 1) rest) → Each (λ n. (n.hart ≡ hart) × (place ≤ n.place)) (cond b (record { hart = hart; place = place } ∷ names_from hart (place + 1) rest) (names_from hart (place + 1) rest))
    go true h = ((refl, omega arith), h)
    go false h = h

later_apart : (hart place : ℕ) (n : OpId) → place + 1 ≤ n.place → is_named (record { hart = hart; place = place }) n ≡ false
later_apart hart place n l = and_right (nat_eq hart n.hart) (nat_eq place n.place) (ne_eqb place n.place (λ e. absurd (omega (arith, e, l))))

names_from-apart : (hart place : ℕ) (entries : List Retired) → Pairwise Apart (names_from hart place entries)
names_from-apart hart place [] = tt
names_from-apart hart place (entry ∷ rest) = go (has_operation entry) (names_from-apart hart (place + 1) rest)
  where
    go : (b : Bool) → Pairwise Apart (names_from hart (place + 1) rest) → Pairwise Apart (cond b (record { hart = hart; place = place } ∷ names_from hart (place + 1) rest) (names_from hart (place + 1) rest))
    go true h = (Each-weaker (λ n. (n.hart ≡ hart) × (place + 1 ≤ n.place)) (Apart (record { hart = hart; place = place })) (λ n h. later_apart hart place n h.1) (names_from hart (place + 1) rest) (from_place hart (place + 1) rest), h)
    go false h = h

pub from_hart : (id : ℕ) (lists : List (List Retired)) → Each (λ n. id ≤ n.hart) (names_of_harts id lists)
from_hart id [] = tt
from_hart id (entries ∷ rest) =
    Each-append (λ n. id ≤ n.hart) (names_from id 0 entries) (names_of_harts (id + 1) rest) (Each-weaker (λ n. (n.hart ≡ id) × (0 ≤ n.place)) (λ n. id ≤ n.hart) (λ n h. let e = h.0 in omega arith) (names_from id 0 entries) (from_place id 0 entries))
    (Each-weaker (λ n. id + 1 ≤ n.hart) (λ n. id ≤ n.hart) (λ n h. omega arith) (names_of_harts (id + 1) rest) (from_hart (id + 1) rest))

names_of_harts-apart : (id : ℕ) (lists : List (List Retired)) → Pairwise Apart (names_of_harts id lists)
names_of_harts-apart id [] = tt
names_of_harts-apart id (entries ∷ rest) =
    Pairwise-append Apart (names_from id 0 entries) (names_of_harts (id + 1) rest) (names_from-apart id 0 entries) (names_of_harts-apart (id + 1) rest)
    (Each-weaker (λ a. (a.hart ≡ id) × (0 ≤ a.place)) (λ a. Each (Apart a) (names_of_harts (id + 1) rest))
    (λ a h. Each-weaker (λ n. id + 1 ≤ n.hart) (Apart a) (λ n l. let e = h.0 in and_left (nat_eq a.hart n.hart) (nat_eq a.place n.place) (ne_eqb a.hart n.hart (λ f. absurd (omega (arith, e, f, l))))) (names_of_harts (id + 1) rest) (from_hart (id + 1) rest))
    (names_from id 0 entries) (from_place id 0 entries))

-- ---- the completed order

among_member : (names : List OpId) (n : OpId) → Member n names → is_among names n ≡ true
among_member [] n m = absurd m
among_member (x ∷ xs) n (inl e) = or_left (is_named n x) (is_among xs n) (subst (λ (y : OpId). is_named n y ≡ true) e (is_named-self n))
among_member (x ∷ xs) n (inr m) = or_right (is_named n x) (is_among xs n) (among_member xs n m)

member_filter : (p : OpId → Bool) (xs : List OpId) (n : OpId) → Member n xs → p n ≡ true → Member n (filter p xs)
member_filter p [] n m e = absurd m
member_filter p (x ∷ xs) n (inl f) e = go (p x) (ap p (sym f) ∙ e)
  where
    go : (b : Bool) → b ≡ true → Member n (cond b (x ∷ filter p xs) (filter p xs))
    go true g = inl f
    go false g = absurd (false≢true g)
member_filter p (x ∷ xs) n (inr m) e = go (p x) (member_filter p xs n m e)
  where
    go : (b : Bool) → Member n (filter p xs) → Member n (cond b (x ∷ filter p xs) (filter p xs))
    go true h = inr h
    go false h = h

pub completed_is_order : CompletedIsOrder
completed_is_order t only once = record {
  only = list_all-from_Each (is_among names) (performed ++ waiting) (Each-append (λ n. is_among names n ≡ true) performed waiting (Each-from_list_all (is_among names) performed only) (Each-kept (λ n. is_among names n ≡ true) missing names (Each-from (λ n. is_among names n ≡ true) names (among_member names))));
  once = is_distinct-from_Pairwise (performed ++ waiting) (Pairwise-append Apart performed waiting (Pairwise-from_is_distinct performed once) (Pairwise-filter Apart missing names (names_of_harts-apart 0 t.entries)) (Each-from (λ a. Each (Apart a) waiting) performed (λ a m. Each-weaker (λ n. (missing n ≡ true) × Unit {0}) (Apart a) (λ n h. is_named-swap n a (Each-at (λ b. is_named n b ≡ false) a performed (each_not (is_named n) performed (not-true _ h.0)) m)) waiting (Each-filter (λ n. Unit {0}) missing names (Each-from (λ n. Unit {0}) names (λ n m. tt))))));
  every = list_all-from_Each (is_among (performed ++ waiting)) names (Each-from (λ n. is_among (performed ++ waiting) n ≡ true) names (λ n m. go n m (is_among performed n) refl));
}
  where
    performed : List OpId
    performed = t.performed

    names : List OpId
    names = names_in t

    missing : OpId → Bool
    missing n = not (is_among performed n)

    waiting : List OpId
    waiting = filter missing names

    go : (n : OpId) → Member n names → (b : Bool) → is_among performed n ≡ b → is_among (performed ++ waiting) n ≡ true
    go n m true e = list_any-append (is_named n) performed waiting ∙ or_left (is_among performed n) (is_among waiting n) e
    go n m false e = list_any-append (is_named n) performed waiting ∙ or_right (is_among performed n) (is_among waiting n) (among_member waiting n (member_filter missing names n m (ap (λ b. not b) e)))
