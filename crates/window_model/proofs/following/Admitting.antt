-- Another hart's windows admit what stands next in the order: a load that is pinned reads an own store that waits, and so does the LR of an SC that waits.
use Rattle.std.proofs.Common.{◌≡◌, ℕ, suc, ◌+◌, ◌<◌, List, [], ◌∷◌, ◌++◌, true, false, Option, Some, None, refl, cond, sym, ap, ◌∙◌, ◌&&◌, ◌⊎◌, inl, inr, ⊎_elim, arith, length, subst, take}
use Rattle.std.specs.Prelude.{filter, nat_eq, nat_le, nat_lt, slice_get}
use Rattle.std.specs.List.{last_or, list_any}
use Rattle.std.proofs.lemmas.Bool.{false≢true, and_from, and_parts, cases_lt, eq-eqb, eqb-true, lt-ltb, ltb-true}
use Rattle.std.proofs.lemmas.List.Elements.{filter-append}
use Rattle.std.proofs.lemmas.List.{append_assoc}
use Rattle.std.proofs.lemmas.Option.{none-some, slice_get_within}
use Rattle.memory_model.specs.declared.operation.Operation.{Operation}
use Rattle.memory_model.specs.Apart.{IsKeptFor, StandsBefore}
use Rattle.memory_model.specs.Items.{Item}
use Rattle.memory_model.specs.Operations as operation
use Rattle.memory_model.specs.Operations.{is_sc, precedes, same, writes}
use Rattle.memory_model.specs.Order.{source}
use Rattle.memory_model.specs.Rules.{has_store_to, items_of, paired}
use Rattle.memory_model.proofs.Forms.{same-self, same-swap}
use Rattle.memory_model.proofs.Lists.{Contains-from_Member, Member, Split, split_at}
use Rattle.window_model.specs.Nodes.{Node}
use Rattle.window_model.specs.Placing.{Admits, has_store}
use Rattle.window_model.specs.Waiting.{Waiting, stores_to, touches}
use Rattle.window_model.specs.Waits.{has_any, those}
use Rattle.window_model.proofs.Pairs.{Beside, pairs_left, pairs_right}
use Rattle.window_model.proofs.Waits.{has_any_at, those_at}
use Rattle.window_model.proofs.following.Fetching.{any_middle}
use Rattle.window_model.proofs.following.Kept.{IsOwn, IsPaired, Stands}
use Rattle.window_model.proofs.following.Placing.{any_position, one_source, overlaps_at, stores_is, take_at, touches_is}
use Rattle.window_model.proofs.following.Remaining.{IsAt, IsPinned, Now, Remaining, b_placed, earlier, split_behind, w_is_b}
use Rattle.window_model.proofs.following.Rules.{asks}
use Rattle.window_model.proofs.following.Stretches.{stretch, stretch_split}
use Rattle.window_model.proofs.following.Whole.{apart, is_own_store, member_filter, member_last, member_left, member_parts, member_right, not_behind, source_at, source_in, stands_before}

-- another hart, while b of c is placed
pub record Other (c : Now) (g : ℕ) (n : Node) (ops : List Operation) : Type 0 where
  pub kept : Remaining c.model c.all g c.done (c.b ∷ c.rest) n ops
  pub other : g ≡ c.b.hart → ⊥

-- b stores to x
stored : (c : Now) (x : ℕ) → stores_to x c.w ≡ true → operation.stores_to x c.b ≡ true
stored c x t = let s = (w_is_b c).shows in sym (stores_is c.w c.b x s.kind_is s.address_is s.size_is) ∙ t

-- a store that a placed load returns, and that stands no earlier in the order than b, is the load's own and precedes it in program order
record Late (x : ℕ) (d s : Operation) : Type 0 where
  own : precedes s d ≡ true
  stores : operation.stores_to x s ≡ true

late_source : (c : Now) (d s : Operation) (x : ℕ) → Member d c.done → source c.whole d x ≡ Some s → Member s (c.b ∷ c.rest) → Late x d s
late_source c d s x m e late = go (member_last None (filter (operation.stores_to x) p.front ++ filter (is_own_store d x) (p.back ++ c.b ∷ c.rest)) s (sym (source_at c.whole p.front d (p.back ++ c.b ∷ c.rest) x c.legal.once whole_is) ∙ e))
  where
    p : Split d c.done
    p = split_at d c.done m

    whole_is : c.whole ≡ p.front ++ d ∷ (p.back ++ c.b ∷ c.rest)
    whole_is = c.split ∙ ap (λ ys. ys ++ c.b ∷ c.rest) p.joined ∙ append_assoc p.front (d ∷ p.back) (c.b ∷ c.rest)

    split_front : c.whole ≡ p.front ++ (d ∷ (p.back ++ c.b ∷ c.rest))
    split_front = whole_is

    go : Member s (filter (operation.stores_to x) p.front ++ filter (is_own_store d x) (p.back ++ c.b ∷ c.rest)) ⊎ (None ≡ Some s) → Late x d s
    go (inr f) = absurd (none-some s f)
    go (inl n) = parts (member_parts s (filter (operation.stores_to x) p.front) (filter (is_own_store d x) (p.back ++ c.b ∷ c.rest)) n)
      where
        parts : Member s (filter (operation.stores_to x) p.front) ⊎ Member s (filter (is_own_store d x) (p.back ++ c.b ∷ c.rest)) → Late x d s
        parts (inl f) =
            absurd (false≢true (sym (apart c.whole p.front (d ∷ (p.back ++ c.b ∷ c.rest)) c.legal.once split_front s s (member_filter (operation.stores_to x) p.front s f).0 (inr (member_right s p.back (c.b ∷ c.rest) late))) ∙ same-self s))
        parts (inr b) = let t = and_parts (operation.stores_to x s) (precedes s d) (member_filter (is_own_store d x) (p.back ++ c.b ∷ c.rest) s b).1 in record { own = t.1; stores = t.0 }

-- the source of a load that stands behind b, where b stores to its byte, is b or stands behind it
record Found (c : Now) (a : Operation) (x : ℕ) : Type 0 where
  store : Operation
  is : source c.whole a x ≡ Some store
  late : Member store (c.b ∷ c.rest)
  other : same store a ≡ false

some_last : {X : Type 0} (o : Option X) (x : X) (xs : List X) → (last : X) × (last_or o (x ∷ xs) ≡ Some last)
some_last o x [] = (x, refl)
some_last o x (y ∷ ys) = some_last (Some x) y ys

last_behind : {X : Type 0} (o : Option X) (xs : List X) (x : X) (ys : List X) → last_or o (xs ++ x ∷ ys) ≡ last_or None (x ∷ ys)
last_behind o [] x ys = refl
last_behind o (z ∷ xs) x ys = last_behind (Some z) xs x ys

late_found : (c : Now) (a : Operation) (x : ℕ) → Member a c.rest → operation.stores_to x c.b ≡ true → Found c a x
late_found c a x m t = record { store = l.0; is = is; late = late; other = other }
  where
    p : Split a c.rest
    p = split_at a c.rest m

    whole_is : c.whole ≡ (c.done ++ c.b ∷ p.front) ++ a ∷ p.back
    whole_is = c.split ∙ ap (λ ys. c.done ++ c.b ∷ ys) p.joined ∙ sym (append_assoc c.done (c.b ∷ p.front) (a ∷ p.back))

    own : List Operation
    own = filter (is_own_store a x) p.back

    front : List Operation
    front = filter (operation.stores_to x) p.front

    cut : filter (operation.stores_to x) (c.done ++ c.b ∷ p.front) ++ own ≡ filter (operation.stores_to x) c.done ++ c.b ∷ (front ++ own)
    cut =
        ap (λ ys. ys ++ own) (filter-append (operation.stores_to x) c.done (c.b ∷ p.front))
        ∙ append_assoc (filter (operation.stores_to x) c.done) (filter (operation.stores_to x) (c.b ∷ p.front)) own
        ∙ ap (λ b. filter (operation.stores_to x) c.done ++ (cond b (c.b ∷ front) front ++ own)) t

    l : (last : Operation) × (last_or None (c.b ∷ (front ++ own)) ≡ Some last)
    l = some_last None c.b (front ++ own)

    is : source c.whole a x ≡ Some l.0
    is = source_at c.whole (c.done ++ c.b ∷ p.front) a p.back x c.legal.once whole_is ∙ ap (last_or None) cut ∙ last_behind None (filter (operation.stores_to x) c.done) c.b (front ++ own) ∙ l.1

    one : Member l.0 (c.b ∷ p.front) ⊎ Member l.0 p.back
    one = pick (member_last None (c.b ∷ (front ++ own)) l.0 l.1)
      where
        pick : Member l.0 (c.b ∷ (front ++ own)) ⊎ (None ≡ Some l.0) → Member l.0 (c.b ∷ p.front) ⊎ Member l.0 p.back
        pick (inr f) = absurd (none-some l.0 f)
        pick (inl (inl e)) = inl (inl e)
        pick (inl (inr n)) = parts (member_parts l.0 front own n)
          where
            parts : Member l.0 front ⊎ Member l.0 own → Member l.0 (c.b ∷ p.front) ⊎ Member l.0 p.back
            parts (inl f) = inl (inr (member_filter (operation.stores_to x) p.front l.0 f).0)
            parts (inr b) = inr (member_filter (is_own_store a x) p.back l.0 b).0

    late : Member l.0 (c.b ∷ c.rest)
    late = subst (λ ys. Member l.0 (c.b ∷ ys)) (sym p.joined) (⊎_elim (λ f. member_left l.0 (c.b ∷ p.front) (a ∷ p.back) f) (λ b. member_right l.0 (c.b ∷ p.front) (a ∷ p.back) (inr b)) one)

    other : same l.0 a ≡ false
    other =
        ⊎_elim
        (λ f. apart c.whole (c.done ++ c.b ∷ p.front) (a ∷ p.back) c.legal.once whole_is l.0 a (member_right l.0 c.done (c.b ∷ p.front) f) (inl refl))
        (λ b. same-swap a l.0 (apart c.whole ((c.done ++ c.b ∷ p.front) ++ a ∷ []) p.back c.legal.once (whole_is ∙ sym (append_assoc (c.done ++ c.b ∷ p.front) (a ∷ []) p.back)) a l.0 (member_right a (c.done ++ c.b ∷ p.front) (a ∷ []) (inl refl)) b))
        one

-- what stands behind b, of another hart
pub behind_b : (c : Now) (g : ℕ) (s : Operation) → (g ≡ c.b.hart → ⊥) → s.hart ≡ g → Member s (c.b ∷ c.rest) → Member s c.rest
behind_b c g s other e (inl same) = absurd (other (sym e ∙ ap (λ (o : Operation). o.hart) same))
behind_b c g s other e (inr m) = m

-- ---- pins (rule 2)

pins : (c : Now) (g : ℕ) (n : Node) (ops : List Operation) → Other c g n ops → (x k : ℕ) (e : Waiting) → stores_to x c.w ≡ true → slice_get n.window k ≡ Some e → e.pinned x ≡ true → list_any (stores_to x) (take k n.window) ≡ true
pins c g n ops o x k e t at pinned =
    ⊎_elim
    (λ less.
    let j = earlier c.model c.all g c.done (c.b ∷ c.rest) n ops o.kept w.position k s a w.stands v.stands less in
    let u = pairs_right (Stands c.model (items_of c.all g) ops) n.window ops w.position s o.kept.window w.stands in
    any_position (stores_to x) (take k n.window) w.position u.other (take_at n.window k w.position u.other j u.stands) (stores_is u.other s x u.belongs.shows.kind_is u.belongs.shows.address_is u.belongs.shows.size_is ∙ late.stores))
    (λ more. absurd (between_them (⊎_elim (λ l. l) (λ l. absurd (apart_places (omega (arith, more, l)))) (cases_lt a.place s.place))))
    (cases_lt s.place a.place)
  where
    v : Beside (Stands c.model (items_of c.all g) ops) ops e k
    v = pairs_left (Stands c.model (items_of c.all g) ops) n.window ops k e o.kept.window at

    a : Operation
    a = v.other

    own : IsOwn (items_of c.all g) g (suc a.place) a
    own = o.kept.own k a v.stands

    pin : IsPinned (items_of c.all g) c.done a x
    pin = o.kept.pins k e a x at v.stands pinned

    a_late : Member a c.rest
    a_late = behind_b c g a o.other own.hart_is (o.kept.waits k a v.stands)

    -- the load that pinned it is placed, so it isn't behind a in preserved program order
    free : asks c.model (items_of c.all g) c.whole a pin.load ≡ true → ⊥
    free h = not_behind c.model c.all c.whole c.done (c.b ∷ c.rest) c.legal.ordered c.split pin.load a pin.placed (inr a_late)
        (and_from (nat_eq a.hart pin.load.hart) (nat_lt a.place pin.load.place) (eq-eqb a.hart pin.load.hart (sym pin.of_hart)) (lt-ltb a.place pin.load.place pin.later))
        (subst (λ i. asks c.model (items_of c.all i) c.whole a pin.load ≡ true) (sym own.hart_is) h)

    f : Found c a x
    f = late_found c a x a_late (stored c x t)

    s : Operation
    s = f.store

    a_in : Member a c.whole
    a_in = subst (Member a) (sym c.split) (member_right a c.done (c.b ∷ c.rest) (inr a_late))

    load_in : Member pin.load c.whole
    load_in = subst (Member pin.load) (sym c.split) (member_left pin.load c.done (c.b ∷ c.rest) pin.placed)

    late : Late x pin.load s
    late = late_source c pin.load s x pin.placed (sym (one_source c a pin.load x a_in load_in pin.reads_a pin.reads_b pin.in_a pin.in_b (items_of c.all g) pin.none_between free) ∙ f.is) f.late

    names : (s.hart ≡ pin.load.hart) × (s.place < pin.load.place)
    names = let q = and_parts (nat_eq s.hart pin.load.hart) (nat_lt s.place pin.load.place) late.own in (eqb-true s.hart pin.load.hart q.0, ltb-true s.place pin.load.place q.1)

    of_g : s.hart ≡ g
    of_g = names.0 ∙ pin.of_hart ∙ own.hart_is

    w : IsAt ops s
    w = o.kept.every s (inr (behind_b c g s o.other of_g f.late)) of_g

    apart_places : s.place ≡ a.place → ⊥
    apart_places h = false≢true (sym f.other ∙ and_from (nat_eq s.hart a.hart) (nat_eq s.place a.place) (eq-eqb s.hart a.hart (of_g ∙ sym own.hart_is)) (eq-eqb s.place a.place h))

    between_them : a.place < s.place → ⊥
    between_them l =
        let i = o.kept.own w.position s w.stands in
        let b = names.1 in
        false≢true (sym pin.none_between
        ∙ (ap (list_any (λ (m : Item). has_store_to x m.operation)) (stretch_split (items_of c.all g) a.place s.place pin.load.place i.item (c.legal.placed g) i.stands l b)
        ∙ any_middle (λ (m : Item). has_store_to x m.operation) (stretch (items_of c.all g) a.place s.place) i.item (stretch (items_of c.all g) s.place pin.load.place) (ap (has_store_to x) i.gives ∙ late.stores)))

-- ---- pairs (atomicity axiom)

pairs : (c : Now) (g : ℕ) (n : Node) (ops : List Operation) → Other c g n ops → (x k : ℕ) (e : Waiting) → stores_to x c.w ≡ true → slice_get n.window k ≡ Some e → is_sc e.kind ≡ true → touches x e ≡ true
    → has_any (length n.window) e.pair ≡ false → has_store e.own n.window x ≡ true
pairs c g n ops o x k e t at sc te placed = go (source c.whole p.lr x) refl
  where
    v : Beside (Stands c.model (items_of c.all g) ops) ops e k
    v = pairs_left (Stands c.model (items_of c.all g) ops) n.window ops k e o.kept.window at

    a : Operation
    a = v.other

    own : IsOwn (items_of c.all g) g (suc a.place) a
    own = o.kept.own k a v.stands

    p : IsPaired (items_of c.all g) ops e a
    p = v.belongs.pair (sym (ap is_sc v.belongs.shows.kind_is) ∙ sc)

    lr_of_g : p.lr.hart ≡ g
    lr_of_g = p.own.hart_is ∙ own.hart_is

    in_a : operation.touches x a ≡ true
    in_a = sym (touches_is e a x v.belongs.shows.address_is v.belongs.shows.size_is) ∙ te

    in_lr : operation.touches x p.lr ≡ true
    in_lr = ap (λ y. nat_le y x && nat_lt x (y + p.lr.size)) p.address_is ∙ ap (λ z. nat_le a.address x && nat_lt x (a.address + z)) p.size_is ∙ in_a

    lr_in : Member p.lr c.whole
    lr_in = (c.legal.every g p.lr.place p.own.item p.lr p.own.stands p.own.gives).0

    -- the LR has its place in the order: where it waited, the SC's set would have it
    lr_done : Member p.lr c.done
    lr_done = parts (member_parts p.lr c.done (c.b ∷ c.rest) (subst (Member p.lr) c.split lr_in))
      where
        parts : Member p.lr c.done ⊎ Member p.lr (c.b ∷ c.rest) → Member p.lr c.done
        parts (inl m) = m
        parts (inr m) =
            let w = o.kept.every p.lr m lr_of_g in
            let u = pairs_right (Stands c.model (items_of c.all g) ops) n.window ops w.position p.lr o.kept.window w.stands in
            absurd (false≢true (sym placed ∙ has_any_at (length n.window) e.pair w.position (slice_get_within n.window w.position u.other u.stands) (p.waits w.position w.stands)))

    a_late : Member a c.rest
    a_late = behind_b c g a o.other own.hart_is (o.kept.waits k a v.stands)

    kept : IsKeptFor c.whole p.lr a x
    kept = c.legal.atomic p.lr a x lr_in (subst (Member a) (sym c.split) (member_right a c.done (c.b ∷ c.rest) (inr a_late)))
        (subst (λ i. paired (items_of c.all i) p.lr a ≡ true) (sym lr_of_g) p.pairs) in_lr

    b_in : Member c.b c.whole
    b_in = subst (Member c.b) (sym c.split) (member_right c.b c.done (c.b ∷ c.rest) (inl refl))

    -- b comes before the SC, so it doesn't come behind the LR's source
    refused : StandsBefore c.whole (source c.whole p.lr x) c.b → ⊥
    refused h = o.other (sym (kept.none_between c.b (Contains-from_Member c.whole c.b b_in) (stored c x t) h (stands_before c.whole (c.done ++ c.b ∷ []) c.rest c.legal.once (split_behind c) c.b a (b_placed c) a_late) ∙ own.hart_is))

    go : (q : Option Operation) → source c.whole p.lr x ≡ q → has_store e.own n.window x ≡ true
    go None f = absurd (refused (subst (λ r. StandsBefore c.whole r c.b) (sym f) tt))
    go (Some s) f = parts (member_parts s c.done (c.b ∷ c.rest) (subst (Member s) c.split (source_in c.whole p.lr s x c.legal.once lr_in f)))
      where
        parts : Member s c.done ⊎ Member s (c.b ∷ c.rest) → has_store e.own n.window x ≡ true
        parts (inl m) = absurd (refused (subst (λ r. StandsBefore c.whole r c.b) (sym f) (stands_before c.whole c.done (c.b ∷ c.rest) c.legal.once c.split s c.b m (inl refl))))
        parts (inr m) =
            let late = late_source c p.lr s x lr_done f m in
            let q = and_parts (nat_eq s.hart p.lr.hart) (nat_lt s.place p.lr.place) late.own in
            let of_g = eqb-true s.hart p.lr.hart q.0 ∙ lr_of_g in
            let w = o.kept.every s (inr (behind_b c g s o.other of_g m)) of_g in
            let u = pairs_right (Stands c.model (items_of c.all g) ops) n.window ops w.position s o.kept.window w.stands in
            let st = and_parts (writes s.kind) (operation.touches x s) late.stores in
            has_any_at (length n.window) (λ j. e.own j && those (stores_to x) n.window j) w.position (slice_get_within n.window w.position u.other u.stands)
            (and_from (e.own w.position) (those (stores_to x) n.window w.position)
            (p.stores w.position s w.stands (ltb-true s.place p.lr.place q.1) st.0 (overlaps_at s p.lr x st.1 in_lr))
            (those_at (stores_to x) n.window w.position u.other u.stands (stores_is u.other s x u.belongs.shows.kind_is u.belongs.shows.address_is u.belongs.shows.size_is ∙ late.stores)))

pub admits : (c : Now) (g : ℕ) (n : Node) (ops : List Operation) → Other c g n ops → Admits c.w n
admits c g n ops o = record { pins = pins c g n ops o; pairs = pairs c g n ops o }
