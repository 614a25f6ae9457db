-- The computing forms of "in order" and of the source say what the readers' forms say.
use Rattle.std.proofs.Common.{◌≡◌, ℕ, ◌+◌, ◌<◌, List, [], ◌∷◌, ◌++◌, Bool, true, false, None, refl, cond, sym, ap, ◌∙◌, subst, not, ◌&&◌, ◌||◌, arith, inl, inr, length}
use Rattle.std.specs.Prelude.{nat_eq, IsTrue}
use Rattle.std.specs.List.{AllByRecursion as Each, Contains, filter, list_any, last_or}
use Rattle.std.proofs.lemmas.Bool.{false≢true, true≢false, ltb-true, lt-ltb, le-ltb, and_from, and_parts, eq-eqb, eqb-true, or_left, or_right, not-true}
use Rattle.std.proofs.lemmas.List.Elements.{filter-append}
use Rattle.hart.specs.MemoryModel.{MemoryModel}
use Rattle.memory_model.specs.declared.operation.Operation.{Operation}
use Rattle.memory_model.specs.Operations.{same, precedes, stores_to}
use Rattle.memory_model.specs.Order.{Respects, before, position_in, in_order, none_must_precede, candidates, source, is_visible, last_visible}
use Rattle.memory_model.specs.Items.{Item}
use Rattle.memory_model.specs.Rules.{Rule, rules, items_of, preserved}
use Rattle.memory_model.specs.Traces.{instructions, operations_at}
use Rattle.memory_model.specs.Laws.{OrderFormsAgree, SourceFormsAgree}
use Rattle.memory_model.proofs.Lists.{Member, Pairwise, Each-weaker, Each-both, Each-at, Each-from, Each-right, Member-from_Contains, Contains-from_Member, split_at, filter_same}
use Rattle.memory_model.proofs.Named.{EachOnce, Pairwise-from_is_distinct, operations_distinct}

-- ---- names

pub same-self : (a : Operation) → same a a ≡ true
same-self a = and_from _ _ (eq-eqb a.hart a.hart refl) (eq-eqb a.place a.place refl)

pub same-swap : (a b : Operation) → same a b ≡ false → same b a ≡ false
same-swap a b e = go (same b a) refl
  where
    go : (c : Bool) → same b a ≡ c → same b a ≡ false
    go false f = f
    go true f =
        let s = and_parts (nat_eq b.hart a.hart) (nat_eq b.place a.place) f in
        absurd (false≢true (sym e ∙ and_from _ _ (eq-eqb a.hart b.hart (sym (eqb-true b.hart a.hart s.0))) (eq-eqb a.place b.place (sym (eqb-true b.place a.place s.1)))))

-- ---- places

pub place_head : (a x : Operation) (xs : List Operation) → same a x ≡ true → position_in (x ∷ xs) a ≡ 0
place_head a x xs e = rw e refl

pub place_tail : (a x : Operation) (xs : List Operation) → same a x ≡ false → position_in (x ∷ xs) a ≡ 1 + position_in xs a
place_tail a x xs e = rw e refl

-- ---- in order, as a fact by recursion

abbrev pub Ordered : (Operation → Operation → Bool) → List Operation → Type 0
Ordered must order = Pairwise (λ a b. must b a ≡ false) order

none-from_Each : (must : Operation → Operation → Bool) (a : Operation) (xs : List Operation) → Each (λ b. must b a ≡ false) xs → none_must_precede must a xs ≡ true
none-from_Each must a [] h = refl
none-from_Each must a (x ∷ xs) h = and_from _ _ (ap (λ b. not b) h.0) (none-from_Each must a xs h.1)

Each-from_none : (must : Operation → Operation → Bool) (a : Operation) (xs : List Operation) → none_must_precede must a xs ≡ true → Each (λ b. must b a ≡ false) xs
Each-from_none must a [] e = tt
Each-from_none must a (x ∷ xs) e = let s = and_parts (not (must x a)) (none_must_precede must a xs) e in (not-true _ s.0, Each-from_none must a xs s.1)

pub in_order-from_Ordered : (must : Operation → Operation → Bool) (xs : List Operation) → Ordered must xs → in_order must xs ≡ true
in_order-from_Ordered must [] h = refl
in_order-from_Ordered must (x ∷ xs) h = and_from _ _ (none-from_Each must x xs h.0) (in_order-from_Ordered must xs h.1)

pub Ordered-from_in_order : (must : Operation → Operation → Bool) (xs : List Operation) → in_order must xs ≡ true → Ordered must xs
Ordered-from_in_order must [] e = tt
Ordered-from_in_order must (x ∷ xs) e = let s = and_parts (none_must_precede must x xs) (in_order must xs) e in (Each-from_none must x xs s.0, Ordered-from_in_order must xs s.1)

-- ---- and as places

KeepsMembers : (Operation → Operation → Bool) → List Operation → Type 0
KeepsMembers must order = (a b : Operation) → Member a order → Member b order → IsTrue (must a b) → IsTrue (before order a b)

keeps-from_Ordered : (must : Operation → Operation → Bool) → ((a : Operation) → must a a ≡ false) → (xs : List Operation) → EachOnce xs → Ordered must xs → KeepsMembers must xs
unfolding KeepsMembers
keeps-from_Ordered must irr [] d o a b ma mb t = absurd ma
keeps-from_Ordered must irr (x ∷ xs) d o a b (inl ea) (inl eb) t = absurd (false≢true (sym (irr x) ∙ (ap (λ y. must y x) (sym ea) ∙ (ap (must a) (sym eb) ∙ t))))
keeps-from_Ordered must irr (x ∷ xs) d o a b (inl ea) (inr mb) t =
    let f : same b x ≡ false = same-swap x b (Each-at (λ c. same x c ≡ false) b xs d.0 mb) in
    lt-ltb _ _ (rw (place_head a x xs (rw ea (same-self x)), place_tail b x xs f) (omega arith))
keeps-from_Ordered must irr (x ∷ xs) d o a b (inr ma) (inl eb) t = absurd (false≢true (sym (Each-at (λ c. must c x ≡ false) a xs o.0 ma) ∙ (ap (must a) (sym eb) ∙ t)))
keeps-from_Ordered must irr (x ∷ xs) d o a b (inr ma) (inr mb) t =
    let fa : same a x ≡ false = same-swap x a (Each-at (λ c. same x c ≡ false) a xs d.0 ma) in
    let fb : same b x ≡ false = same-swap x b (Each-at (λ c. same x c ≡ false) b xs d.0 mb) in
    let l = ltb-true (position_in xs a) (position_in xs b) (keeps-from_Ordered must irr xs d.1 o.1 a b ma mb t) in
    lt-ltb _ _ (rw (place_tail a x xs fa, place_tail b x xs fb) (omega arith))

Ordered-from_keeps : (must : Operation → Operation → Bool) (xs : List Operation) → EachOnce xs → KeepsMembers must xs → Ordered must xs
unfolding KeepsMembers
Ordered-from_keeps must [] d k = tt
Ordered-from_keeps must (x ∷ xs) d k = (
  Each-from (λ c. must c x ≡ false) xs (λ c m. free c m (must c x) refl),
  Ordered-from_keeps must xs d.1 (λ a b ma mb t.
      let fa : same a x ≡ false = same-swap x a (Each-at (λ c. same x c ≡ false) a xs d.0 ma) in
      let fb : same b x ≡ false = same-swap x b (Each-at (λ c. same x c ≡ false) b xs d.0 mb) in
      let l = ltb-true (position_in (x ∷ xs) a) (position_in (x ∷ xs) b) (k a b (inr ma) (inr mb) t) in
      let ea = place_tail a x xs fa in let eb = place_tail b x xs fb in lt-ltb _ _ (omega (arith, l, ea, eb))),
)
  where
    free : (c : Operation) → Member c xs → (v : Bool) → must c x ≡ v → must c x ≡ false
    free c m false e = e
    free c m true e =
        let l = ltb-true (position_in (x ∷ xs) c) (position_in (x ∷ xs) x) (k c x (inr m) (inl refl) e) in
        let z = place_head x x xs (same-self x) in absurd (omega (arith, l, z))

-- for a test by which nothing must come before itself
pub Respects-from_in_order : (must : Operation → Operation → Bool) → ((a : Operation) → must a a ≡ false) → (xs : List Operation) → EachOnce xs → in_order must xs ≡ true → Respects must xs
unfolding KeepsMembers
Respects-from_in_order must irr xs d e = λ a b ca cb t. keeps-from_Ordered must irr xs d (Ordered-from_in_order must xs e) a b (Member-from_Contains xs a ca) (Member-from_Contains xs b cb) t

pub in_order-from_Respects : (must : Operation → Operation → Bool) (xs : List Operation) → EachOnce xs → Respects must xs → in_order must xs ≡ true
unfolding KeepsMembers
in_order-from_Respects must xs d k = in_order-from_Ordered must xs (Ordered-from_keeps must xs d (λ a b ma mb t. k a b (Contains-from_Member xs a ma) (Contains-from_Member xs b mb) t))

-- no operation precedes itself
preserved-self : (model : MemoryModel) (harts : List (List Item)) (order : List Operation) (a : Operation) → preserved model harts order a a ≡ false
preserved-self model harts order a = ap (λ (b : Bool). (nat_eq a.hart a.hart && b) && list_any (λ (r : Rule). r.asks model (items_of harts a.hart) order a a) rules) (le-ltb a.place a.place (omega arith)) ∙ go (nat_eq a.hart a.hart)
  where
    go : (b : Bool) → ((b && false) && list_any (λ (r : Rule). r.asks model (items_of harts a.hart) order a a) rules) ≡ false
    go true = refl
    go false = refl

pub order_forms_agree : OrderFormsAgree
order_forms_agree model t order o =
    let d = operations_distinct t order (Pairwise-from_is_distinct order o.once) in (
      λ e. Respects-from_in_order (preserved model (instructions t) (operations_at (instructions t) order)) (preserved-self model (instructions t) (operations_at (instructions t) order)) (operations_at (instructions t) order) d e,
      λ k. in_order-from_Respects (preserved model (instructions t) (operations_at (instructions t) order)) (operations_at (instructions t) order) d k,
    )

-- ---- the source of a byte

candidates_behind_at : (b c : Bool) (s : Operation) (fa va f w : List Operation) → b ≡ false → va ≡ f ++ w → cond b fa (cond c (s ∷ va) va) ≡ cond c (s ∷ f) f ++ w
candidates_behind_at true c s fa va f w e h = absurd (true≢false e)
candidates_behind_at false true s fa va f w e h = ap (λ ys. s ∷ ys) h
candidates_behind_at false false s fa va f w e h = h

-- what a load sees where it stands behind the first part
pub candidates-behind : (load : Operation) (x : ℕ) (xs ys : List Operation) → Each (λ s. same s load ≡ false) xs → candidates (xs ++ ys) load x ≡ filter (stores_to x) xs ++ candidates ys load x
candidates-behind load x [] ys h = refl
candidates-behind load x (s ∷ xs) ys h = candidates_behind_at (same s load) (stores_to x s) s _ _ _ _ h.0 (candidates-behind load x xs ys h.1)

place_front : (a : Operation) (xs ys : List Operation) → list_any (λ s. same a s) xs ≡ true → position_in (xs ++ ys) a < length xs
place_front a [] ys e = absurd (false≢true e)
place_front a (x ∷ xs) ys e = go (same a x) refl (place_front a xs ys)
  where
    go : (c : Bool) → same a x ≡ c → (list_any (λ s. same a s) xs ≡ true → position_in (xs ++ ys) a < length xs) → position_in ((x ∷ xs) ++ ys) a < length (x ∷ xs)
    go true f ih = rw (place_head a x (xs ++ ys) f) (omega arith)
    go false f ih = let l = ih (rw f at e) in rw (place_tail a x (xs ++ ys) f) (omega arith)

place_back : (a : Operation) (xs ys : List Operation) → Each (λ s. same a s ≡ false) xs → position_in (xs ++ ys) a ≡ length xs + position_in ys a
place_back a [] ys h = omega arith
place_back a (x ∷ xs) ys h = let e = place_back a xs ys h.1 in rw (place_tail a x (xs ++ ys) h.0) (omega arith)

pub source_at : (xs ys : List Operation) (load : Operation) (x : ℕ) → Each (λ s. (same load s ≡ false) × (same s load ≡ false)) xs → Each (λ s. (same load s ≡ false) × (same s load ≡ false)) ys → Each (λ s. list_any (λ t. same s t) xs ≡ true) xs → Each (λ s. Each (λ t. same s t ≡ false) xs) ys
    → last_visible (xs ++ load ∷ ys) load x ≡ source (xs ++ load ∷ ys) load x
source_at xs ys load x dx dy inx iny =
    let order = xs ++ load ∷ ys in
    let at : position_in order load ≡ length xs = place_back load xs (load ∷ ys) (Each-weaker (λ s. (same load s ≡ false) × (same s load ≡ false)) (λ s. same load s ≡ false) (λ s h. h.0) xs dx) ∙ (ap (λ n. length xs + n) (place_head load load ys (same-self load)) ∙ omega arith) in
    let front : filter (is_visible order load x) xs ≡ filter (stores_to x) xs =
    filter_same (is_visible order load x) (stores_to x) xs (Each-weaker (λ s. ((same load s ≡ false) × (same s load ≡ false)) × (list_any (λ t. same s t) xs ≡ true)) (λ s. is_visible order load x s ≡ stores_to x s)
    (λ s h. let l = place_front s xs (load ∷ ys) h.1 in let b : before order s load ≡ true = lt-ltb _ _ (rw at l) in rw (h.0.1, b) (and_true_right (stores_to x s))) xs (Each-both (λ s. (same load s ≡ false) × (same s load ≡ false)) (λ s. list_any (λ t. same s t) xs ≡ true) xs dx inx)) in
    let back : filter (is_visible order load x) ys ≡ filter (λ t. stores_to x t && precedes t load) ys =
    filter_same (is_visible order load x) (λ t. stores_to x t && precedes t load) ys (Each-weaker (λ s. ((same load s ≡ false) × (same s load ≡ false)) × Each (λ t. same s t ≡ false) xs) (λ s. is_visible order load x s ≡ (stores_to x s && precedes s load))
    (λ s h. let l = place_back s xs (load ∷ ys) h.1 in let b : before order s load ≡ false = le-ltb _ _ (rw (at, l) (omega arith)) in rw (h.0.1, b) (and_true_middle (stores_to x s) (precedes s load))) ys (Each-both (λ s. (same load s ≡ false) × (same s load ≡ false)) (λ s. Each (λ t. same s t ≡ false) xs) ys dy iny)) in
    ap (last_or None) (filter-append (is_visible order load x) xs (load ∷ ys) ∙ (ap (λ v. v ++ filter (is_visible order load x) (load ∷ ys)) front
    ∙ (ap (λ v. filter (stores_to x) xs ++ v) (at_load (same-self load) ∙ back) ∙ sym (candidates-behind load x xs (load ∷ ys) (Each-weaker (λ s. (same load s ≡ false) × (same s load ≡ false)) (λ s. same s load ≡ false) (λ s h. h.1) xs dx) ∙ ap (λ v. filter (stores_to x) xs ++ v) (sees_own (same-self load))))))
  where
    and_true_right : (a : Bool) → (a && true && true) ≡ a
    and_true_right true = refl
    and_true_right false = refl

    and_true_middle : (a b : Bool) → (a && true && b) ≡ (a && b)
    and_true_middle true b = refl
    and_true_middle false b = refl

    unseen : (a b c : Bool) → b ≡ true → (a && not b && c) ≡ false
    unseen true b c e = rw e refl
    unseen false b c e = refl

    at_load : same load load ≡ true → filter (is_visible (xs ++ load ∷ ys) load x) (load ∷ ys) ≡ filter (is_visible (xs ++ load ∷ ys) load x) ys
    at_load e = ap (λ c. cond c (load ∷ filter (is_visible (xs ++ load ∷ ys) load x) ys) (filter (is_visible (xs ++ load ∷ ys) load x) ys)) (unseen (stores_to x load) (same load load) (before (xs ++ load ∷ ys) load load || precedes load load) e)

    sees_own : same load load ≡ true → candidates (load ∷ ys) load x ≡ filter (λ t. stores_to x t && precedes t load) ys
    sees_own e = rw e refl

-- ---- a distinct list, round one of its operations

pub distinct_front : (xs ys : List Operation) (load : Operation) → EachOnce (xs ++ load ∷ ys) → Each (λ s. (same load s ≡ false) × (same s load ≡ false)) xs
distinct_front [] ys load d = tt
distinct_front (x ∷ xs) ys load d = let e : same x load ≡ false = (Each-right (λ s. same x s ≡ false) xs (load ∷ ys) d.0).0 in ((same-swap x load e, e), distinct_front xs ys load d.1)

pub distinct_back : (xs ys : List Operation) (load : Operation) → EachOnce (xs ++ load ∷ ys) → Each (λ s. (same load s ≡ false) × (same s load ≡ false)) ys
distinct_back [] ys load d = Each-weaker (λ s. same load s ≡ false) (λ s. (same load s ≡ false) × (same s load ≡ false)) (λ s e. (e, same-swap load s e)) ys d.0
distinct_back (x ∷ xs) ys load d = distinct_back xs ys load d.1

pub distinct_across : (xs ys : List Operation) (load : Operation) → EachOnce (xs ++ load ∷ ys) → Each (λ s. Each (λ t. same s t ≡ false) xs) ys
distinct_across [] ys load d = Each-from (λ s. Unit {0}) ys (λ s m. tt)
distinct_across (x ∷ xs) ys load d =
    Each-both (λ s. same s x ≡ false) (λ s. Each (λ t. same s t ≡ false) xs) ys (Each-weaker (λ s. same x s ≡ false) (λ s. same s x ≡ false) (λ s e. same-swap x s e) ys (Each-right (λ s. same x s ≡ false) xs (load ∷ ys) d.0).1) (distinct_across xs ys load d.1)

any_member : (xs : List Operation) (s : Operation) → Member s xs → list_any (λ t. same s t) xs ≡ true
any_member [] s m = absurd m
any_member (x ∷ xs) s (inl e) = or_left (same s x) (list_any (λ t. same s t) xs) (subst (λ (y : Operation). same s y ≡ true) e (same-self s))
any_member (x ∷ xs) s (inr m) = or_right (same s x) (list_any (λ t. same s t) xs) (any_member xs s m)

source_in : (front back : List Operation) (load : Operation) (x : ℕ) → EachOnce (front ++ load ∷ back) → source (front ++ load ∷ back) load x ≡ last_visible (front ++ load ∷ back) load x
source_in front back load x d =
    sym (source_at front back load x (distinct_front front back load d) (distinct_back front back load d) (Each-from (λ s. list_any (λ t. same s t) front ≡ true) front (any_member front)) (distinct_across front back load d))

source_of_member : (operations : List Operation) (load : Operation) (x : ℕ) → EachOnce operations → Contains operations load → source operations load x ≡ last_visible operations load x
source_of_member operations load x d there =
    let s = split_at load operations (Member-from_Contains operations load there) in
    subst (λ (o : List Operation). source o load x ≡ last_visible o load x) (sym s.joined) (source_in s.front s.back load x (subst EachOnce s.joined d))

pub source_forms_agree : SourceFormsAgree
source_forms_agree t order load x o there = source_of_member (operations_at (instructions t) order) load x (operations_distinct t order (Pairwise-from_is_distinct order o.once)) there
