-- The test of the atomicity axiom at a byte says what a reader means by it.
use Rattle.std.proofs.Common.{◌≡◌, ℕ, suc, ◌+◌, ◌<◌, ◌≤◌, List, [], ◌∷◌, ◌++◌, Bool, true, false, Option, Some, None, refl, cond, sym, ap, ◌∙◌, subst, not, ◌&&◌, ◌||◌, ◌⊎◌, inl, inr, length, arith}
use Rattle.std.specs.Prelude.{nat_eq, IsTrue}
use Rattle.std.specs.List.{AllByRecursion as Each, Contains, filter, last_or, list_all, list_any}
use Rattle.std.proofs.lemmas.Bool.{false≢true, and_from, and_parts, eq-eqb, eqb-true, lt-ltb, ltb-true, or_left, or_right}
use Rattle.std.proofs.lemmas.List.{append_assoc}
use Rattle.memory_model.specs.Apart.{AtomicityFormsAgree, IsKeptFor, StandsBefore}
use Rattle.memory_model.specs.declared.operation.Operation.{Operation}
use Rattle.memory_model.specs.Legal.{behind, is_atomic_at, up_to}
use Rattle.memory_model.specs.Operations.{precedes, same, stores_to}
use Rattle.memory_model.specs.Order.{before, candidates, last_of, position_in, source}
use Rattle.memory_model.specs.Traces.{instructions, operations_at}
use Rattle.memory_model.proofs.Forms.{distinct_across, distinct_back, distinct_front, place_head, place_tail, same-self, same-swap}
use Rattle.memory_model.proofs.Lists.{Member, Pairwise, Contains-from_Member, Member-from_Contains, Each-at, Each-from, Each-from_list_all, Each-right, list_all-from_Each, split_at}
use Rattle.memory_model.proofs.Named.{EachOnce, Pairwise-from_is_distinct, operations_distinct}

-- ---- members

Member-left : (xs ys : List Operation) (a : Operation) → Member a xs → Member a (xs ++ ys)
Member-left [] ys a m = absurd m
Member-left (x ∷ xs) ys a (inl e) = inl e
Member-left (x ∷ xs) ys a (inr m) = inr (Member-left xs ys a m)

Member-right : (xs ys : List Operation) (a : Operation) → Member a ys → Member a (xs ++ ys)
Member-right [] ys a m = m
Member-right (x ∷ xs) ys a m = inr (Member-right xs ys a m)

Member-cases : (xs ys : List Operation) (a : Operation) → Member a (xs ++ ys) → Member a xs ⊎ Member a ys
Member-cases [] ys a m = inr m
Member-cases (x ∷ xs) ys a (inl e) = inl (inl e)
Member-cases (x ∷ xs) ys a (inr m) = at (Member-cases xs ys a m)
  where
    at : Member a xs ⊎ Member a ys → Member a (x ∷ xs) ⊎ Member a ys
    at (inl there) = inl (inr there)
    at (inr there) = inr there

-- of a list whose operations have names of their own, two of one name are one
same-member : (xs : List Operation) (a b : Operation) → EachOnce xs → Member a xs → Member b xs → same a b ≡ true → a ≡ b
same-member [] a b d ma mb e = absurd ma
same-member (x ∷ xs) a b d (inl ea) (inl eb) e = ea ∙ sym eb
same-member (x ∷ xs) a b d (inl ea) (inr mb) e = absurd (false≢true (sym (Each-at (λ c. same x c ≡ false) b xs d.0 mb) ∙ subst (λ (y : Operation). same y b ≡ true) ea e))
same-member (x ∷ xs) a b d (inr ma) (inl eb) e = absurd (false≢true (sym (same-swap x a (Each-at (λ c. same x c ≡ false) a xs d.0 ma)) ∙ subst (λ (y : Operation). same a y ≡ true) eb e))
same-member (x ∷ xs) a b d (inr ma) (inr mb) e = same-member xs a b d.1 ma mb e

any-member : (xs : List Operation) (w : Operation) → Member w xs → list_any (same w) xs ≡ true
any-member [] w m = absurd m
any-member (x ∷ xs) w (inl e) = or_left (same w x) (list_any (same w) xs) (subst (λ (y : Operation). same w y ≡ true) e (same-self w))
any-member (x ∷ xs) w (inr m) = or_right (same w x) (list_any (same w) xs) (any-member xs w m)

record Namesake (w : Operation) (xs : List Operation) : Type 0 where
  operation : Operation
  there : Member operation xs
  named : same w operation ≡ true

Namesake-from_any : (w : Operation) (xs : List Operation) → list_any (same w) xs ≡ true → Namesake w xs
Namesake-from_any w [] e = absurd (false≢true e)
Namesake-from_any w (x ∷ xs) e = at (same w x) refl (Namesake-from_any w xs)
  where
    at : (b : Bool) → same w x ≡ b → (list_any (same w) xs ≡ true → Namesake w xs) → Namesake w (x ∷ xs)
    at true f others = record { operation = x; there = inl refl; named = f }
    at false f others =
        let o = others (subst (λ c. (c || list_any (same w) xs) ≡ true) f e) in
        record { operation = o.operation; there = inr o.there; named = o.named }

-- ---- places round one operation

place-front : (xs ys : List Operation) (t : Operation) → Member t xs → position_in (xs ++ ys) t < length xs
place-front [] ys t m = absurd m
place-front (x ∷ xs) ys t m = at (same t x) refl m (place-front xs ys t)
  where
    at : (b : Bool) → same t x ≡ b → Member t (x ∷ xs) → (Member t xs → position_in (xs ++ ys) t < length xs) → position_in (x ∷ (xs ++ ys)) t < suc (length xs)
    at true e m later = rw (place_head t x (xs ++ ys) e) (omega arith)
    at false e (inl i) later = absurd (false≢true (sym e ∙ subst (λ (y : Operation). same t y ≡ true) i (same-self t)))
    at false e (inr m) later = let l = later m in rw (place_tail t x (xs ++ ys) e) (omega (arith, l))

place-behind : (xs ys : List Operation) (t : Operation) → Each (λ x. same t x ≡ false) xs → position_in (xs ++ ys) t ≡ length xs + position_in ys t
place-behind [] ys t h = omega arith
place-behind (x ∷ xs) ys t h = let l = place-behind xs ys t h.1 in let e = place_tail t x (xs ++ ys) h.0 in omega (arith, e, l)

apart-from : (xs ys : List Operation) (w : Operation) → EachOnce (xs ++ w ∷ ys) → Each (λ s. same w s ≡ false) xs
apart-from xs ys w d = Each-from (λ s. same w s ≡ false) xs (λ s m. (Each-at (λ s. (same w s ≡ false) × (same s w ≡ false)) s xs (distinct_front xs ys w d) m).0)

place-at : (xs ys : List Operation) (w : Operation) → EachOnce (xs ++ w ∷ ys) → position_in (xs ++ w ∷ ys) w ≡ length xs
place-at xs ys w d = place-behind xs (w ∷ ys) w (apart-from xs ys w d) ∙ rw (place_head w w ys (same-self w)) (omega arith)

before-front : (xs ys : List Operation) (w t : Operation) → EachOnce (xs ++ w ∷ ys) → Member t xs → before (xs ++ w ∷ ys) t w ≡ true
before-front xs ys w t d m = let l = place-front xs (w ∷ ys) t m in let e = place-at xs ys w d in lt-ltb _ _ (omega (arith, l, e))

place-back : (xs ys : List Operation) (w t : Operation) → EachOnce (xs ++ w ∷ ys) → Member t ys → length xs < position_in (xs ++ w ∷ ys) t
place-back xs ys w t d m =
    let e = place-behind xs (w ∷ ys) t (Each-from (λ x. same t x ≡ false) xs (λ x n. Each-at (λ y. same t y ≡ false) x xs (Each-at (λ s. Each (λ y. same s y ≡ false) xs) t ys (distinct_across xs ys w d) m) n)) in
    let f = place_tail t w ys (Each-at (λ s. (same w s ≡ false) × (same s w ≡ false)) t ys (distinct_back xs ys w d) m).1 in
    omega (arith, e, f)

before-back : (xs ys : List Operation) (w t : Operation) → EachOnce (xs ++ w ∷ ys) → Member t ys → before (xs ++ w ∷ ys) w t ≡ true
before-back xs ys w t d m = let l = place-back xs ys w t d m in let e = place-at xs ys w d in lt-ltb _ _ (omega (arith, l, e))

-- what stands before w stands in front of it
front-from_before : (xs ys : List Operation) (w t : Operation) → EachOnce (xs ++ w ∷ ys) → Member t (xs ++ w ∷ ys) → before (xs ++ w ∷ ys) t w ≡ true → Member t xs
front-from_before xs ys w t d m e = at (Member-cases xs (w ∷ ys) t m)
  where
    l : position_in (xs ++ w ∷ ys) t < length xs
    l = subst (λ n. position_in (xs ++ w ∷ ys) t < n) (place-at xs ys w d) (ltb-true (position_in (xs ++ w ∷ ys) t) (position_in (xs ++ w ∷ ys) w) e)

    at : Member t xs ⊎ Member t (w ∷ ys) → Member t xs
    at (inl there) = there
    at (inr (inl i)) = let p = subst (λ (y : Operation). position_in (xs ++ w ∷ ys) y ≡ length xs) (sym i) (place-at xs ys w d) in absurd (omega (arith, l, p))
    at (inr (inr there)) = let p = place-back xs ys w t d there in absurd (omega (arith, l, p))

-- and what w stands before, behind it
back-from_before : (xs ys : List Operation) (w t : Operation) → EachOnce (xs ++ w ∷ ys) → Member t (xs ++ w ∷ ys) → before (xs ++ w ∷ ys) w t ≡ true → Member t ys
back-from_before xs ys w t d m e = at (Member-cases xs (w ∷ ys) t m)
  where
    l : length xs < position_in (xs ++ w ∷ ys) t
    l = subst (λ n. n < position_in (xs ++ w ∷ ys) t) (place-at xs ys w d) (ltb-true (position_in (xs ++ w ∷ ys) w) (position_in (xs ++ w ∷ ys) t) e)

    at : Member t xs ⊎ Member t (w ∷ ys) → Member t ys
    at (inl there) = let p = place-front xs (w ∷ ys) t there in absurd (omega (arith, l, p))
    at (inr (inl i)) = let p = subst (λ (y : Operation). position_in (xs ++ w ∷ ys) y ≡ length xs) (sym i) (place-at xs ys w d) in absurd (omega (arith, l, p))
    at (inr (inr there)) = there

-- ---- what stands behind, and up to

behind-split : (xs ys : List Operation) (s : Operation) → Each (λ x. same s x ≡ false) xs → behind (Some s) (xs ++ s ∷ ys) ≡ ys
behind-split [] ys s h = rw (same-self s) refl
behind-split (x ∷ xs) ys s h = ap (λ b. cond b (xs ++ s ∷ ys) (behind (Some s) (xs ++ s ∷ ys))) h.0 ∙ behind-split xs ys s h.1

up_to-split : (xs ys : List Operation) (w : Operation) → Each (λ x. same x w ≡ false) xs → up_to w (xs ++ w ∷ ys) ≡ xs
up_to-split [] ys w h = rw (same-self w) refl
up_to-split (x ∷ xs) ys w h = ap (λ b. cond b [] (x ∷ up_to w (xs ++ w ∷ ys))) h.0 ∙ ap (λ zs. x ∷ zs) (up_to-split xs ys w h.1)

-- ---- a source stands in the order

filter-member : (p : Operation → Bool) (xs : List Operation) (s : Operation) → Member s (filter p xs) → Member s xs
filter-member p [] s m = m
filter-member p (x ∷ xs) s m = at (p x) m (filter-member p xs s)
  where
    at : (b : Bool) → Member s (cond b (x ∷ filter p xs) (filter p xs)) → (Member s (filter p xs) → Member s xs) → Member s (x ∷ xs)
    at true (inl e) later = inl e
    at true (inr n) later = inr (later n)
    at false n later = inr (later n)

candidate-member : (xs : List Operation) (load : Operation) (x : ℕ) (s : Operation) → Member s (candidates xs load x) → Member s xs
candidate-member [] load x s m = m
candidate-member (t ∷ rest) load x s m = at (same t load) (stores_to x t) m (candidate-member rest load x s)
  where
    at : (b c : Bool) → Member s (cond b (filter (λ u. stores_to x u && precedes u load) rest) (cond c (t ∷ candidates rest load x) (candidates rest load x))) → (Member s (candidates rest load x) → Member s rest) → Member s (t ∷ rest)
    at true c n later = inr (filter-member (λ u. stores_to x u && precedes u load) rest s n)
    at false true (inl e) later = inl e
    at false true (inr n) later = inr (later n)
    at false false n later = inr (later n)

last-member : (o : Option Operation) (xs : List Operation) (s : Operation) → last_or o xs ≡ Some s → (o ≡ Some s) ⊎ Member s xs
last-member o [] s e = inl e
last-member o (x ∷ xs) s e = at (last-member (Some x) xs s e)
  where
    at : (Some x ≡ Some s) ⊎ Member s xs → (o ≡ Some s) ⊎ Member s (x ∷ xs)
    at (inl i) = inr (inl (sym (ap (λ (p : Option Operation). unwrapped p) i)))
      where
        unwrapped : Option Operation → Operation
        unwrapped None = x
        unwrapped (Some y) = y
    at (inr m) = inr (inr m)

source-member : (order : List Operation) (load : Operation) (x : ℕ) (s : Operation) → source order load x ≡ Some s → Member s order
source-member order load x s e = at (last-member None (candidates order load x) s e)
  where
    at : (None ≡ Some s) ⊎ Member s (candidates order load x) → Member s order
    at (inl i) = cc
    at (inr m) = candidate-member order load x s m

-- ---- the order behind a source

record Behind (order : List Operation) (from : Option Operation) : Type 0 where
  front : List Operation
  joined : order ≡ front ++ behind from order
  within : (t : Operation) → Member t order → StandsBefore order from t → Member t (behind from order)
  stands : (t : Operation) → Member t (behind from order) → StandsBefore order from t

behind-store : (xs ys : List Operation) (s : Operation) → EachOnce (xs ++ s ∷ ys) → Behind (xs ++ s ∷ ys) (Some s)
behind-store xs ys s d =
    let e : behind (Some s) (xs ++ s ∷ ys) ≡ ys = behind-split xs ys s (apart-from xs ys s d) in
    record {
      front = xs ++ s ∷ [];
      joined = sym (append_assoc xs (s ∷ []) ys) ∙ ap (λ zs. xs ++ s ∷ [] ++ zs) (sym e);
      within = λ t m b. subst (Member t) (sym e) (back-from_before xs ys s t d m b);
      stands = λ t m. before-back xs ys s t d (subst (Member t) e m);
    }

behind-source : (order : List Operation) → EachOnce order → (from : Option Operation) → ((s : Operation) → from ≡ Some s → Member s order) → Behind order from
behind-source order d None there = record { front = []; joined = refl; within = λ t m b. m; stands = λ t m. tt }
behind-source order d (Some s) there =
    let p = split_at s order (there s refl) in
    subst (λ o. Behind o (Some s)) (sym p.joined) (behind-store p.front p.back s (subst EachOnce p.joined d))

-- ---- the two forms

or-stores : (a b : Bool) → (b ≡ true → a ≡ true) → (a || not b) ≡ true
or-stores true b h = refl
or-stores false true h = absurd (false≢true (h refl))
or-stores false false h = refl

first-of_or : (a b : Bool) → (a || not b) ≡ true → b ≡ true → a ≡ true
first-of_or true b e f = refl
first-of_or false true e f = absurd (false≢true e)
first-of_or false false e f = absurd (false≢true f)

-- an order round w, which stands in the rest behind its front
record Round (order front rest : List Operation) (w : Operation) : Type 0 where
  mid : List Operation
  last : List Operation
  split : rest ≡ mid ++ w ∷ last
  whole : order ≡ (front ++ mid) ++ w ∷ last
  ends : up_to w rest ≡ mid

at-byte : (order : List Operation) (r w : Operation) (x : ℕ) → EachOnce order → Member w order → (is_atomic_at order r w x ≡ true → IsKeptFor order r w x) × (IsKeptFor order r w x → is_atomic_at order r w x ≡ true)
at-byte order r w x d there = (read, tested)
  where
    from : Option Operation
    from = source order r x

    rest : List Operation
    rest = behind from order

    b : Behind order from
    b = behind-source order d from (source-member order r x)

    spares : Operation → Bool
    spares t = nat_eq t.hart w.hart || not (stores_to x t)

    inside : (t : Operation) → Member t rest → Member t order
    inside t m = subst (Member t) (sym b.joined) (Member-right b.front rest t m)

    round : Member w rest → Round order b.front rest w
    round m =
        let p = split_at w rest m in
        let whole : order ≡ (b.front ++ p.front) ++ w ∷ p.back = b.joined ∙ (ap (λ zs. b.front ++ zs) p.joined ∙ sym (append_assoc b.front p.front (w ∷ p.back))) in
        let apart = distinct_front (b.front ++ p.front) p.back w (subst EachOnce whole d) in
        record {
          mid = p.front;
          last = p.back;
          split = p.joined;
          whole = whole;
          ends = ap (up_to w) p.joined ∙ up_to-split p.front p.back w (Each-from (λ s. same s w ≡ false) p.front (λ s n. (Each-at (λ s. (same w s ≡ false) × (same s w ≡ false)) s (b.front ++ p.front) apart (Member-right b.front p.front s n)).1));
        }

    -- what stands before w stands in front of it, and what stands behind the source besides stands in between
    between : (o : Round order b.front rest w) (t : Operation) → Member t rest → before order t w ≡ true → Member t o.mid
    between o t m e = at (Member-cases o.mid (w ∷ o.last) t (subst (Member t) o.split m))
      where
        front : Member t (b.front ++ o.mid)
        front = front-from_before (b.front ++ o.mid) o.last w t (subst EachOnce o.whole d) (subst (Member t) o.whole (inside t m)) (subst (λ zs. before zs t w ≡ true) o.whole e)

        apart : (same w t ≡ false) × (same t w ≡ false)
        apart = Each-at (λ s. (same w s ≡ false) × (same s w ≡ false)) t (b.front ++ o.mid) (distinct_front (b.front ++ o.mid) o.last w (subst EachOnce o.whole d)) front

        at : Member t o.mid ⊎ Member t (w ∷ o.last) → Member t o.mid
        at (inl n) = n
        at (inr (inl i)) = absurd (false≢true (sym apart.0 ∙ subst (λ (y : Operation). same w y ≡ true) (sym i) (same-self w)))
        at (inr (inr n)) =
            absurd (false≢true (sym (Each-at (λ y. same t y ≡ false) t (b.front ++ o.mid) (Each-at (λ s. Each (λ y. same s y ≡ false) (b.front ++ o.mid)) t o.last (distinct_across (b.front ++ o.mid) o.last w (subst EachOnce o.whole d)) n) front) ∙ same-self t))

    read : is_atomic_at order r w x ≡ true → IsKeptFor order r w x
    read e =
        let p = and_parts (list_any (same w) rest) (list_all spares (up_to w rest)) e in
        let n = Namesake-from_any w rest p.0 in
        let m : Member w rest = subst (λ (y : Operation). Member y rest) (sym (same-member order w n.operation d there (inside n.operation n.there) n.named)) n.there in
        let o = round m in
        record {
          source_first = b.stands w m;
          none_between = λ t c stores first last. eqb-true t.hart w.hart (first-of_or (nat_eq t.hart w.hart) (stores_to x t) (Each-at (λ t. spares t ≡ true) t o.mid (Each-from_list_all spares o.mid (subst (λ zs. list_all spares zs ≡ true) o.ends p.1)) (between o t (b.within t (Member-from_Contains order t c) first) last)) stores);
        }

    tested : IsKeptFor order r w x → is_atomic_at order r w x ≡ true
    tested k =
        let m = b.within w there k.source_first in
        let o = round m in
        and_from (list_any (same w) rest) (list_all spares (up_to w rest)) (any-member rest w m)
        (subst (λ zs. list_all spares zs ≡ true) (sym o.ends) (list_all-from_Each spares o.mid (Each-from (λ t. spares t ≡ true) o.mid (λ t n.
        let mt : Member t rest = subst (Member t) (sym o.split) (Member-left o.mid (w ∷ o.last) t n) in
        or-stores (nat_eq t.hart w.hart) (stores_to x t) (λ stores. eq-eqb t.hart w.hart (k.none_between t (Contains-from_Member order t (inside t mt)) stores (b.stands t mt)
        (subst (λ zs. before zs t w ≡ true) (sym o.whole) (before-front (b.front ++ o.mid) o.last w t (subst EachOnce o.whole d) (Member-right b.front o.mid t n)))))))))

pub atomicity_forms_agree : AtomicityFormsAgree
atomicity_forms_agree t order r w x o there = at-byte (operations_at (instructions t) order) r w x (operations_distinct t order (Pairwise-from_is_distinct order o.once)) (Member-from_Contains (operations_at (instructions t) order) w there)
