-- What stands next in the order may be placed: nothing that it needs waits, and it reads what it read.
use Rattle.std.proofs.Common.{◌≡◌, ℕ, zero, suc, ◌+◌, ◌-◌, ◌<◌, ◌≤◌, List, [], ◌∷◌, ◌++◌, Bool, true, false, Option, Some, None, refl, sym, ap, ◌∙◌, not, ◌&&◌, ◌||◌, ◌⊎◌, inl, inr, ⊎_elim, arith, length, subst, take}
use Rattle.std.specs.Prelude.{filter, nat_eq, nat_le, nat_lt, slice_get}
use Rattle.std.specs.List.{last_or, list_any}
use Rattle.std.proofs.lemmas.Bool.{false≢true, and_from, and_parts, cases_lt, eqb-true, lt-ltb, ltb-true, not-true, or_left, or_right}
use Rattle.std.proofs.lemmas.List.{append_assoc}
use Rattle.std.proofs.lemmas.Option.{none-some, same_Some}
use Rattle.memory_model.specs.declared.operation.Kind.{Kind}
use Rattle.memory_model.specs.declared.operation.Kind.TheVariants.{Load, Store, Lr, Sc, Amo}
use Rattle.memory_model.specs.declared.operation.Operation.{Operation}
use Rattle.memory_model.specs.Dependencies.{between, has_address_dependency, has_data_dependency}
use Rattle.memory_model.specs.Items.{Item}
use Rattle.memory_model.specs.Operations as operation
use Rattle.memory_model.specs.Operations.{addresses_of, byte_of_number, is_amo, is_sc, overlap, precedes, reads, same, writes}
use Rattle.memory_model.specs.Order as order
use Rattle.memory_model.specs.Order.{last_write, same_source, source}
use Rattle.memory_model.specs.Rules.{are_from_different_writes, has_store_to, items_of, passes_on, returns_from}
use Rattle.memory_model.proofs.Forms.{same-self}
use Rattle.memory_model.proofs.Reaching.{dependency_forms_agree}
use Rattle.memory_model.proofs.Lists.{Member, Split, split_at}
use Rattle.trace_operations.specs.Placed.{IsPlaced}
use Rattle.window_model.specs.Placing.{AgreeWith, CanPlace, Reads, byte_from, can_forward, reads_with}
use Rattle.window_model.specs.Waiting.{Waiting, is_store, read_at, stores_to, touches, written_at}
use Rattle.window_model.specs.Waits.{has_any}
use Rattle.window_model.proofs.Pairs.{Beside, pairs_left, pairs_right}
use Rattle.window_model.proofs.Waits.{either, has_any_none}
use Rattle.window_model.proofs.following.Fetching.{any_middle, precedes_by}
use Rattle.window_model.proofs.following.Kept.{IsOwn, Stands}
use Rattle.window_model.proofs.following.Last.{Last, any_address, found, last_is, last_of_found, last_of_none, none_filtered}
use Rattle.window_model.proofs.following.Remaining.{IsAt, Now, earlier, not_asked, not_asked_done, w_is_b, waits_behind}
use Rattle.window_model.proofs.following.Rules.{asks, by_1, by_2, by_3, by_12}
use Rattle.window_model.proofs.following.Stretches.{is_inside, stretch, stretch_split}
use Rattle.window_model.proofs.following.Whole.{apart, is_own_store, member_filter, member_parts, member_right, not_behind, same_sources, source_at, source_in, touched, value_at}

-- ---- bytes of what waits are those of its operation

pub touches_is : (w : Waiting) (a : Operation) (x : ℕ) → w.address ≡ a.address → w.size ≡ a.size → touches x w ≡ operation.touches x a
touches_is w a x e f = ap (λ y. nat_le y x && nat_lt x (y + w.size)) e ∙ ap (λ z. nat_le a.address x && nat_lt x (a.address + z)) f

pub stores_is : (w : Waiting) (a : Operation) (x : ℕ) → w.kind ≡ a.kind → w.address ≡ a.address → w.size ≡ a.size → stores_to x w ≡ operation.stores_to x a
stores_is w a x k e f = ap (λ q. writes q && touches x w) k ∙ ap (λ t. writes a.kind && t) (touches_is w a x e f)

pub read_is : (w : Waiting) (a : Operation) (x : ℕ) → w.address ≡ a.address → w.read ≡ a.read → read_at w x ≡ operation.read_at a x
read_is w a x e f = ap (λ y. byte_of_number y w.read x) e ∙ ap (λ z. byte_of_number a.address z x) f

pub written_is : (w : Waiting) (a : Operation) (x : ℕ) → w.address ≡ a.address → w.written ≡ a.written → written_at w x ≡ operation.written_at a x
written_is w a x e f = ap (λ y. byte_of_number y w.written x) e ∙ ap (λ z. byte_of_number a.address z x) f

-- two that have a byte in common overlap
pub overlaps_at : (a b : Operation) (x : ℕ) → operation.touches x a ≡ true → operation.touches x b ≡ true → overlap a b ≡ true
overlaps_at a b x e f =
    let p = touched x a e in
    let q = touched x b f in
    let p0 = p.0 in
    let p1 = p.1 in
    let q0 = q.0 in
    let q1 = q.1 in
    and_from (nat_lt a.address (b.address + b.size)) (nat_lt b.address (a.address + a.size)) (lt-ltb a.address (b.address + b.size) (omega arith)) (lt-ltb b.address (a.address + a.size) (omega arith))

-- ---- positions

-- what stands before a position of a list stands there in the list too
pub at_take : {X : Type 0} (xs : List X) (k j : ℕ) (x : X) → slice_get (take k xs) j ≡ Some x → (j < k) × (slice_get xs j ≡ Some x)
at_take [] zero j x e = absurd (none-some x e)
at_take [] (suc k) j x e = absurd (none-some x e)
at_take (y ∷ xs) zero j x e = absurd (none-some x e)
at_take (y ∷ xs) (suc k) zero x e = (omega arith, e)
at_take (y ∷ xs) (suc k) (suc j) x e = let h = at_take xs k j x e in let l = h.0 in (omega arith, h.1)

pub take_at : {X : Type 0} (xs : List X) (k j : ℕ) (x : X) → j < k → slice_get xs j ≡ Some x → slice_get (take k xs) j ≡ Some x
take_at [] k j x l e = absurd (none-some x e)
take_at (y ∷ xs) zero j x l e = absurd (omega (arith, l))
take_at (y ∷ xs) (suc k) zero x l e = e
take_at (y ∷ xs) (suc k) (suc j) x l e = take_at xs k j x (omega (arith, l)) e

pub any_position : {X : Type 0} (test : X → Bool) (xs : List X) (j : ℕ) (x : X) → slice_get xs j ≡ Some x → test x ≡ true → list_any test xs ≡ true
any_position test [] j x e t = absurd (none-some x e)
any_position test (y ∷ xs) zero x e t = or_left (test y) (list_any test xs) (ap test (same_Some y x e) ∙ t)
any_position test (y ∷ xs) (suc j) x e t = or_right (test y) (list_any test xs) (any_position test xs j x e t)

pub front_at : {X : Type 0} (front : List X) (x : X) (back : List X) → slice_get (front ++ x ∷ back) (length front) ≡ Some x
front_at [] x back = refl
front_at (y ∷ front) x back = front_at front x back

-- what stands behind the front of a list stands in its back
pub back_at : {X : Type 0} (front : List X) (x : X) (back : List X) (j : ℕ) (y : X) → slice_get (front ++ x ∷ back) j ≡ Some y → length front < j → slice_get back (j - (length front + 1)) ≡ Some y
back_at [] x back zero y e l = absurd (omega (arith, l))
back_at [] x back (suc j) y e l = let same : suc j - (0 + 1) ≡ j = omega arith in ap (slice_get back) same ∙ e
back_at (z ∷ front) x back zero y e l = absurd (omega (arith, l))
back_at (z ∷ front) x back (suc j) y e l = let same : suc j - (suc (length front) + 1) ≡ j - (length front + 1) = omega arith in ap (slice_get back) same ∙ back_at front x back j y e (omega (arith, l))

-- ---- it needs nothing that waits

ready : (c : Now) → has_any (length c.n.window) c.w.needs ≡ false
ready c =
    has_any_none (length c.n.window) c.w.needs (λ j l e.
    let y = (w_is_b c).needs j e in
    not_asked c j y.element y.stands y.is.0 (y.is.1 c.whole))

-- ---- what it reads

-- an own store of a load's byte that stands behind it in the order waits before it
own_store_waits : (c : Now) (x : ℕ) (s : Operation) → Member s c.rest → is_own_store c.b x s ≡ true → IsAt c.ops s × (s.place < c.b.place)
own_store_waits c x s m t =
    let p = and_parts (operation.stores_to x s) (precedes s c.b) t in
    let q = and_parts (nat_eq s.hart c.b.hart) (nat_lt s.place c.b.place) p.1 in
    (c.kept.every s (inr m) (eqb-true s.hart c.b.hart q.0), ltb-true s.place c.b.place q.1)

source_of : (c : Now) (x : ℕ) → source c.whole c.b x ≡ last_or None (filter (operation.stores_to x) c.done ++ filter (is_own_store c.b x) c.rest)
source_of c x = source_at c.whole c.done c.b c.rest x c.legal.once c.split

b_in : (c : Now) → Member c.b c.whole
b_in c = subst (Member c.b) (sym c.split) (member_right c.b c.done (c.b ∷ c.rest) (inl refl))

-- where no own store of the byte waits before it, it reads memory
reads_memory : (c : Now) (x : ℕ) → list_any (stores_to x) (take c.k c.n.window) ≡ false → source c.whole c.b x ≡ last_or None (filter (operation.stores_to x) c.done)
reads_memory c x none = source_of c x ∙ none_filtered (is_own_store c.b x) (filter (operation.stores_to x) c.done) c.rest (go (list_any (is_own_store c.b x) c.rest) refl)
  where
    refuted : Last (is_own_store c.b x) c.rest → ⊥
    refuted l =
        let m = subst (Member l.last) (sym l.whole) (member_right l.last l.front (l.last ∷ l.back) (inl refl)) in
        let p = own_store_waits c x l.last m l.passes in
        let v = pairs_right (Stands c.model (items_of c.all c.b.hart) c.ops) c.n.window c.ops p.0.position l.last c.kept.window p.0.stands in
        let i = earlier c.model c.all c.b.hart c.done (c.b ∷ c.rest) c.n c.ops c.kept p.0.position c.k l.last c.b p.0.stands c.here p.1 in
        let t = and_parts (operation.stores_to x l.last) (precedes l.last c.b) l.passes in
        false≢true (sym none ∙ any_position (stores_to x) (take c.k c.n.window) p.0.position v.other (take_at c.n.window c.k p.0.position v.other i v.stands) (stores_is v.other l.last x v.belongs.shows.kind_is v.belongs.shows.address_is v.belongs.shows.size_is ∙ t.0))

    go : (r : Bool) → list_any (is_own_store c.b x) c.rest ≡ r → r ≡ false
    go false e = refl
    go true e = absurd (⊎_elim (λ f. false≢true (sym f ∙ e)) refuted (found (is_own_store c.b x) c.rest))

-- the last own store of the byte that waits before it, as an operation
pub record Forwards (c : Now) (x : ℕ) (v : Waiting) : Type 0 where
  pub position : ℕ
  pub store : Operation
  pub stands : slice_get c.ops position ≡ Some store
  pub belongs : Stands c.model (items_of c.all c.b.hart) c.ops v store
  pub before : store.place < c.b.place
  pub stores : operation.stores_to x store ≡ true
  pub is_source : source c.whole c.b x ≡ Some store

reads_forwarded : (c : Now) (x : ℕ) → (l : Last (stores_to x) (take c.k c.n.window)) → Forwards c x l.last
reads_forwarded c x l = record {
  position = i;
  store = v.other;
  stands = v.stands;
  belongs = v.belongs;
  before = before_b;
  stores = stores;
  is_source =
      source_of c x
      ∙ ap (λ ys. last_or None (filter (operation.stores_to x) c.done ++ filter (is_own_store c.b x) ys)) parted.joined
      ∙ last_is (is_own_store c.b x) (filter (operation.stores_to x) c.done) parted.front v.other parted.back
      (and_from (operation.stores_to x v.other) (precedes v.other c.b) stores (precedes_by v.other c.b (own.hart_is) before_b))
      (go (list_any (is_own_store c.b x) parted.back) refl);
}
  where
    i : ℕ
    i = length l.front

    at : (i < c.k) × (slice_get c.n.window i ≡ Some l.last)
    at = at_take c.n.window c.k i l.last (ap (λ ws. slice_get ws i) l.whole ∙ front_at l.front l.last l.back)

    v : Beside (Stands c.model (items_of c.all c.b.hart) c.ops) c.ops l.last i
    v = pairs_left (Stands c.model (items_of c.all c.b.hart) c.ops) c.n.window c.ops i l.last c.kept.window at.1

    own : IsOwn (items_of c.all c.b.hart) c.b.hart (suc v.other.place) v.other
    own = c.kept.own i v.other v.stands

    before_b : v.other.place < c.b.place
    before_b = c.kept.sorted i c.k v.other c.b v.stands c.here at.0

    stores : operation.stores_to x v.other ≡ true
    stores = sym (stores_is l.last v.other x v.belongs.shows.kind_is v.belongs.shows.address_is v.belongs.shows.size_is) ∙ l.passes

    parted : Split v.other c.rest
    parted = split_at v.other c.rest (waits_behind c i v.other v.stands before_b)

    -- a store behind it in the order would wait behind it in the program too, or precede it by rule 1
    refuted : Last (is_own_store c.b x) parted.back → ⊥
    refuted m = ⊎_elim later sooner (cases_lt i p.0.position)
      where
        s : Operation
        s = m.last

        in_back : Member s parted.back
        in_back = subst (Member s) (sym m.whole) (member_right s m.front (s ∷ m.back) (inl refl))

        in_rest : Member s c.rest
        in_rest = subst (Member s) (sym parted.joined) (member_right s parted.front (v.other ∷ parted.back) (inr in_back))

        p : IsAt c.ops s × (s.place < c.b.place)
        p = own_store_waits c x s in_rest m.passes

        t : (operation.stores_to x s ≡ true) × (precedes s c.b ≡ true)
        t = and_parts (operation.stores_to x s) (precedes s c.b) m.passes

        u : Beside (λ o w. Stands c.model (items_of c.all c.b.hart) c.ops w o) c.n.window s p.0.position
        u = pairs_right (Stands c.model (items_of c.all c.b.hart) c.ops) c.n.window c.ops p.0.position s c.kept.window p.0.stands

        later : i < p.0.position → ⊥
        later less =
            let j = earlier c.model c.all c.b.hart c.done (c.b ∷ c.rest) c.n c.ops c.kept p.0.position c.k s c.b p.0.stands c.here p.1 in
            let there = take_at c.n.window c.k p.0.position u.other j u.stands in
            let behind = back_at l.front l.last l.back p.0.position u.other (sym (ap (λ ws. slice_get ws p.0.position) l.whole) ∙ there) less in
            false≢true (sym l.none ∙ any_position (stores_to x) l.back (p.0.position - (i + 1)) u.other behind (stores_is u.other s x u.belongs.shows.kind_is u.belongs.shows.address_is u.belongs.shows.size_is ∙ t.0))

        sooner : p.0.position ≤ i → ⊥
        sooner less =
            let own_s = c.kept.own p.0.position s p.0.stands in
            let place = before_store less in
            not_behind c.model c.all c.whole (c.done ++ c.b ∷ (parted.front ++ v.other ∷ [])) parted.back c.legal.ordered whole_is v.other s
            (member_right v.other c.done (c.b ∷ (parted.front ++ v.other ∷ [])) (inr (member_right v.other parted.front (v.other ∷ []) (inl refl)))) in_back
            (precedes_by s v.other (own_s.hart_is ∙ sym own.hart_is) place)
            (by_1 c.model (items_of c.all s.hart) s v.other (and_from (writes v.other.kind) (overlap s v.other) (and_parts (writes v.other.kind) (operation.touches x v.other) stores).0 (overlaps_at s v.other x (and_parts (writes s.kind) (operation.touches x s) t.0).1 (and_parts (writes v.other.kind) (operation.touches x v.other) stores).1)) c.whole)
          where
            whole_is : c.whole ≡ (c.done ++ c.b ∷ (parted.front ++ v.other ∷ [])) ++ parted.back
            whole_is =
                c.split
                ∙ ap (λ ys. c.done ++ c.b ∷ ys) (parted.joined ∙ sym (append_assoc parted.front (v.other ∷ []) parted.back))
                ∙ sym (append_assoc c.done (c.b ∷ (parted.front ++ v.other ∷ [])) parted.back)

            before_store : p.0.position ≤ i → s.place < v.other.place
            before_store h =
                ⊎_elim
                (λ lt. c.kept.sorted p.0.position i s v.other p.0.stands v.stands lt)
                (λ ge.
                let equal : p.0.position ≡ i = omega (arith, h, ge) in
                let same_op = same_Some s v.other (sym p.0.stands ∙ (ap (slice_get c.ops) equal ∙ v.stands)) in
                let twice = apart c.whole (c.done ++ c.b ∷ (parted.front ++ v.other ∷ [])) parted.back c.legal.once whole_is v.other s (member_right v.other c.done (c.b ∷ (parted.front ++ v.other ∷ [])) (inr (member_right v.other parted.front (v.other ∷ []) (inl refl)))) in_back in
                absurd (false≢true (sym twice ∙ (ap (λ o. same v.other o) same_op ∙ same-self v.other))))
                (cases_lt p.0.position i)

    go : (r : Bool) → list_any (is_own_store c.b x) parted.back ≡ r → r ≡ false
    go false e = refl
    go true e = absurd (⊎_elim (λ f. false≢true (sym f ∙ e)) refuted (found (is_own_store c.b x) parted.back))

-- b returns what a store of a byte wrote
returns_at : (c : Now) (x : ℕ) (s : Operation) → source c.whole c.b x ≡ Some s → operation.touches x c.b ≡ true → returns_from c.whole c.b s ≡ true
returns_at c x s e t =
    let inside = touched x c.b t in
    any_address (λ y. same_source (source c.whole c.b y) (Some s)) c.b.address c.b.size x inside.0 inside.1 (ap (λ o. same_source o (Some s)) e ∙ same-self s)

-- an SC's or an AMO's would precede it (rule 3)
plain : (c : Now) (x : ℕ) (v : Waiting) → Forwards c x v → reads c.b.kind ≡ true → operation.touches x c.b ≡ true → is_store v.kind ≡ true
plain c x v f r t = ap is_store f.belongs.shows.kind_is ∙ go f.store.kind refl
  where
    s : Operation
    s = f.store

    barred : (is_amo s.kind || is_sc s.kind) ≡ true → ⊥
    barred k =
        not_asked c f.position s f.stands f.before
        (by_3 c.model (items_of c.all c.b.hart) c.whole s c.b
        (and_from ((is_amo s.kind || is_sc s.kind) && reads c.b.kind) (returns_from c.whole c.b s) (and_from (is_amo s.kind || is_sc s.kind) (reads c.b.kind) k r) (returns_at c x s f.is_source t)))

    go : (k : Kind) → s.kind ≡ k → is_store s.kind ≡ true
    go Store e = ap is_store e
    go Load e = absurd (false≢true (sym (ap writes e) ∙ (and_parts (writes s.kind) (operation.touches x s) f.stores).0))
    go Lr e = absurd (false≢true (sym (ap writes e) ∙ (and_parts (writes s.kind) (operation.touches x s) f.stores).0))
    go Sc e = absurd (barred (or_right (is_amo s.kind) (is_sc s.kind) (ap is_sc e)))
    go Amo e = absurd (barred (or_left (is_amo s.kind) (is_sc s.kind) (ap is_amo e)))

-- what its address or its number depends on would (rule 12)
settled : (c : Now) (x : ℕ) (v : Waiting) → Forwards c x v → reads c.b.kind ≡ true → operation.touches x c.b ≡ true → has_any (length c.n.window) v.source ≡ false
settled c x v f r t = has_any_none (length c.n.window) v.source (λ j l e.
    let y = f.belongs.source j e in
    let a = y.element in
    let before_s = depends_before a f.store y.is in
    let own = c.kept.own f.position f.store f.stands in
    not_asked c j a y.stands (let b = f.before in omega (arith, before_s, b))
    (by_12 c.model (items_of c.all c.b.hart) c.whole a c.b
    (and_from (reads c.b.kind) (list_any (λ (m : Item). passes_on (items_of c.all c.b.hart) c.whole a c.b m.operation) (between (items_of c.all c.b.hart) a c.b)) r
    (ap (list_any (λ (m : Item). passes_on (items_of c.all c.b.hart) c.whole a c.b m.operation)) (stretch_split (items_of c.all c.b.hart) a.place f.store.place c.b.place own.item (c.legal.placed c.b.hart) own.stands before_s f.before)
    ∙ any_middle (λ (m : Item). passes_on (items_of c.all c.b.hart) c.whole a c.b m.operation) (stretch (items_of c.all c.b.hart) a.place f.store.place) own.item (stretch (items_of c.all c.b.hart) f.store.place c.b.place)
    (ap (passes_on (items_of c.all c.b.hart) c.whole a c.b) own.gives
    ∙ and_from (writes f.store.kind && (has_address_dependency (items_of c.all c.b.hart) a f.store || has_data_dependency (items_of c.all c.b.hart) a f.store)) (returns_from c.whole c.b f.store)
    (and_from (writes f.store.kind) (has_address_dependency (items_of c.all c.b.hart) a f.store || has_data_dependency (items_of c.all c.b.hart) a f.store) (and_parts (writes f.store.kind) (operation.touches x f.store) f.stores).0 y.is)
    (returns_at c x f.store f.is_source t))))))
  where
    depends_before : (a s : Operation) → (has_address_dependency (items_of c.all c.b.hart) a s || has_data_dependency (items_of c.all c.b.hart) a s) ≡ true → a.place < s.place
    depends_before a s e = either (a.place < s.place) (has_address_dependency (items_of c.all c.b.hart) a s) (has_data_dependency (items_of c.all c.b.hart) a s) e
        (λ h. ltb-true a.place s.place (and_parts (nat_eq a.hart s.hart) (nat_lt a.place s.place) ((dependency_forms_agree (items_of c.all c.b.hart) a s).address.0 h).0).1)
        (λ h. ltb-true a.place s.place (and_parts (nat_eq a.hart s.hart) (nat_lt a.place s.place) ((dependency_forms_agree (items_of c.all c.b.hart) a s).data_stored.0 h).0).1)

-- memory has the last placed store to each byte
abbrev pub Holds : (image : ℕ → ℕ) → (done : List Operation) → (memory : ℕ → ℕ) → Type 0
Holds image done memory = (x : ℕ) → memory x ≡ last_write image done x

values : (c : Now) (memory : ℕ → ℕ) → Holds c.image c.done memory → reads c.w.kind ≡ true → (x : ℕ) → touches x c.w ≡ true → Reads memory (length c.n.window) (take c.k c.n.window) c.w x
values c memory holds rw_ x tw = go (found (stores_to x) (take c.k c.n.window))
  where
    s : Stands c.model (items_of c.all c.b.hart) c.ops c.w c.b
    s = w_is_b c

    r : reads c.b.kind ≡ true
    r = sym (ap reads s.shows.kind_is) ∙ rw_

    t : operation.touches x c.b ≡ true
    t = sym (touches_is c.w c.b x s.shows.address_is s.shows.size_is) ∙ tw

    value : read_at c.w x ≡ order.byte_from c.image x (source c.whole c.b x)
    value = read_is c.w c.b x s.shows.address_is s.shows.read_is ∙ value_at c.model c.image c.all c.whole c.legal c.b x (b_in c) r t

    go : (list_any (stores_to x) (take c.k c.n.window) ≡ false) ⊎ Last (stores_to x) (take c.k c.n.window) → Reads memory (length c.n.window) (take c.k c.n.window) c.w x
    go (inl none) = record {
      value = value ∙ ap (order.byte_from c.image x) (reads_memory c x none) ∙ sym (holds x) ∙ sym (ap (byte_from memory x) (last_of_none (stores_to x) (take c.k c.n.window) none));
      forwarded = ap (can_forward (length c.n.window)) (last_of_none (stores_to x) (take c.k c.n.window) none);
    }
    go (inr l) =
        let f = reads_forwarded c x l in record {
          value =
              value ∙ ap (order.byte_from c.image x) f.is_source
              ∙ sym (written_is l.last f.store x f.belongs.shows.address_is f.belongs.shows.written_is)
              ∙ sym (ap (byte_from memory x) (last_of_found (stores_to x) (take c.k c.n.window) l));
          forwarded =
              ap (can_forward (length c.n.window)) (last_of_found (stores_to x) (take c.k c.n.window) l)
              ∙ and_from (is_store l.last.kind) (not (has_any (length c.n.window) l.last.source)) (plain c x l.last f r t) (ap (λ b. not b) (settled c x l.last f r t));
        }

-- ---- loads before it

-- an instruction of a part of a list stands at its place
item_there : (items : List Item) (p : ℕ) (m : Item) → IsPlaced p items → Member m items → (p ≤ m.place) × (slice_get items (m.place - p) ≡ Some m)
item_there [] p m h e = absurd e
item_there (x ∷ rest) p m h (inl e) =
    let at = ap (λ (i : Item). i.place) e ∙ h.0 in
    let none_left : m.place - p ≡ 0 = omega (arith, at) in
    (omega (arith, at), ap (slice_get (x ∷ rest)) none_left ∙ ap (λ i. Some i) (sym e))
item_there (x ∷ rest) p m h (inr e) =
    let q = item_there rest (p + 1) m h.1 e in
    let q0 = q.0 in
    let left : m.place - p ≡ suc (m.place - (p + 1)) = omega (arith, q0) in
    (omega (arith, q0), ap (slice_get (x ∷ rest)) left ∙ q.1)

-- a waits before b, and none that waits between them stores to x: no instruction between them does, since a is done before a later store to its byte is
pub none_stores : (c : Now) (x i : ℕ) (e : Waiting) (a : Operation) (front back : List Waiting) → take c.k c.n.window ≡ front ++ e ∷ back → i ≡ length front → slice_get c.ops i ≡ Some a → a.place < c.b.place
    → operation.touches x a ≡ true → list_any (stores_to x) back ≡ false → list_any (λ (m : Item). has_store_to x m.operation) (between (items_of c.all c.b.hart) a c.b) ≡ false
none_stores c x i e a front back cut at stands before ta none = go (list_any test (between items a c.b)) refl
  where
    items : List Item
    items = items_of c.all c.b.hart

    test : Item → Bool
    test m = has_store_to x m.operation

    stored : (m : Item) (o : Option Operation) → m.operation ≡ o → slice_get items m.place ≡ Some m → a.place < m.place → m.place < c.b.place → has_store_to x o ≡ true → ⊥
    stored m None f g l k t = false≢true t
    stored m (Some s) f g l k t = parts (member_parts s c.done (c.b ∷ c.rest) (subst (Member s) c.split there.0))
      where
        there : Member s c.whole × (s.hart ≡ c.b.hart) × (s.place ≡ m.place)
        there = c.legal.every c.b.hart m.place m s g f

        of_place : s.place ≡ m.place
        of_place = there.2

        st : (writes s.kind ≡ true) × (operation.touches x s ≡ true)
        st = and_parts (writes s.kind) (operation.touches x s) t

        parts : Member s c.done ⊎ Member s (c.b ∷ c.rest) → ⊥
        parts (inl d) = not_asked_done c i a s stands d there.1 (omega (arith, of_place, l)) (by_1 c.model items a s (and_from (writes s.kind) (overlap a s) st.0 (overlaps_at a s x ta st.1)) c.whole)
        parts (inr (inl same)) = let q = ap (λ (o : Operation). o.place) same in absurd (omega (arith, q, of_place, k))
        parts (inr (inr m')) =
            let w = c.kept.every s (inr m') there.1 in
            let less = earlier c.model c.all c.b.hart c.done (c.b ∷ c.rest) c.n c.ops c.kept i w.position a s stands w.stands (omega (arith, of_place, l)) in
            let more = earlier c.model c.all c.b.hart c.done (c.b ∷ c.rest) c.n c.ops c.kept w.position c.k s c.b w.stands c.here (omega (arith, of_place, k)) in
            let u = pairs_right (Stands c.model items c.ops) c.n.window c.ops w.position s c.kept.window w.stands in
            let behind = back_at front e back w.position u.other (sym (ap (λ ws. slice_get ws w.position) cut) ∙ take_at c.n.window c.k w.position u.other more u.stands) (omega (arith, less, at)) in
            false≢true (sym none ∙ any_position (stores_to x) back (w.position - (length front + 1)) u.other behind (stores_is u.other s x u.belongs.shows.kind_is u.belongs.shows.address_is u.belongs.shows.size_is ∙ t))

    refuted : Last test (between items a c.b) → ⊥
    refuted l =
        let m = member_filter (is_inside a.place c.b.place) items l.last (subst (Member l.last) (sym l.whole) (member_right l.last l.front (l.last ∷ l.back) (inl refl))) in
        let s = and_parts (nat_lt a.place l.last.place) (nat_lt l.last.place c.b.place) m.1 in
        let there = item_there items 0 l.last (c.legal.placed c.b.hart) m.0 in
        let all_of : l.last.place - 0 ≡ l.last.place = omega arith in
        stored l.last l.last.operation refl (sym (ap (slice_get items) all_of) ∙ there.1) (ltb-true a.place l.last.place s.0) (ltb-true l.last.place c.b.place s.1) l.passes

    go : (r : Bool) → list_any test (between items a c.b) ≡ r → r ≡ false
    go false f = refl
    go true f = absurd (⊎_elim (λ g. false≢true (sym g ∙ f)) refuted (found test (between items a c.b)))

-- a load that stands earlier in the program and later in the order
pub record Earlier (c : Now) (front : List Waiting) (e : Waiting) (back : List Waiting) (x : ℕ) : Type 0 where
  pub a : Operation
  pub stands : slice_get c.ops (length front) ≡ Some a
  pub belongs : Stands c.model (items_of c.all c.b.hart) c.ops e a
  pub before : a.place < c.b.place
  pub reads_a : reads a.kind ≡ true
  pub reads_b : reads c.b.kind ≡ true
  pub in_a : operation.touches x a ≡ true
  pub in_b : operation.touches x c.b ≡ true
  pub none_between : list_any (λ (m : Item). has_store_to x m.operation) (between (items_of c.all c.b.hart) a c.b) ≡ false

pub earlier_load : (c : Now) (front : List Waiting) (e : Waiting) (back : List Waiting) (x : ℕ) → take c.k c.n.window ≡ front ++ e ∷ back → reads_with c.w back e x ≡ true → Earlier c front e back x
earlier_load c front e back x cut t = record {
  a = v.other;
  stands = v.stands;
  belongs = v.belongs;
  before = before;
  reads_a = sym (ap reads v.belongs.shows.kind_is) ∙ p2.1;
  reads_b = sym (ap reads (w_is_b c).shows.kind_is) ∙ p2.0;
  in_a = in_a;
  in_b = sym (touches_is c.w c.b x (w_is_b c).shows.address_is (w_is_b c).shows.size_is) ∙ p3.1;
  none_between = none_stores c x (length front) e v.other front back cut refl v.stands before in_a (not-true (list_any (stores_to x) back) p5.1);
}
  where
    p5 : ((reads c.w.kind && reads e.kind && touches x c.w && touches x e) ≡ true) × (not (list_any (stores_to x) back) ≡ true)
    p5 = and_parts (reads c.w.kind && reads e.kind && touches x c.w && touches x e) (not (list_any (stores_to x) back)) t

    p4 : ((reads c.w.kind && reads e.kind && touches x c.w) ≡ true) × (touches x e ≡ true)
    p4 = and_parts (reads c.w.kind && reads e.kind && touches x c.w) (touches x e) p5.0

    p3 : ((reads c.w.kind && reads e.kind) ≡ true) × (touches x c.w ≡ true)
    p3 = and_parts (reads c.w.kind && reads e.kind) (touches x c.w) p4.0

    p2 : (reads c.w.kind ≡ true) × (reads e.kind ≡ true)
    p2 = and_parts (reads c.w.kind) (reads e.kind) p3.0

    at : (length front < c.k) × (slice_get c.n.window (length front) ≡ Some e)
    at = at_take c.n.window c.k (length front) e (ap (λ ws. slice_get ws (length front)) cut ∙ front_at front e back)

    v : Beside (Stands c.model (items_of c.all c.b.hart) c.ops) c.ops e (length front)
    v = pairs_left (Stands c.model (items_of c.all c.b.hart) c.ops) c.n.window c.ops (length front) e c.kept.window at.1

    before : v.other.place < c.b.place
    before = c.kept.sorted (length front) c.k v.other c.b v.stands c.here at.0

    in_a : operation.touches x v.other ≡ true
    in_a = sym (touches_is e v.other x v.belongs.shows.address_is v.belongs.shows.size_is) ∙ p4.1

-- rule 2: where a isn't before d in the order, both read x from one store
pub one_source : (c : Now) (a d : Operation) (x : ℕ) → Member a c.whole → Member d c.whole → reads a.kind ≡ true → reads d.kind ≡ true → operation.touches x a ≡ true → operation.touches x d ≡ true
    → (items : List Item) → list_any (λ (m : Item). has_store_to x m.operation) (between items a d) ≡ false → (asks c.model items c.whole a d ≡ true → ⊥) → source c.whole a x ≡ source c.whole d x
one_source c a d x ma md ra rd ta td items none free =
    same_sources c.whole (source c.whole a x) (source c.whole d x) c.legal.once (λ s e. source_in c.whole a s x c.legal.once ma e) (λ s e. source_in c.whole d s x c.legal.once md e)
    (go (same_source (source c.whole a x) (source c.whole d x)) refl)
  where
    go : (r : Bool) → same_source (source c.whole a x) (source c.whole d x) ≡ r → r ≡ true
    go true e = refl
    go false e =
        let inside = touched x a ta in
        absurd (free (by_2 c.model items c.whole a d
        (and_from (reads a.kind && reads d.kind) (list_any (are_from_different_writes items c.whole a d) (addresses_of a)) (and_from (reads a.kind) (reads d.kind) ra rd)
        (any_address (are_from_different_writes items c.whole a d) a.address a.size x inside.0 inside.1
        (and_from (operation.touches x d && not (list_any (λ (m : Item). has_store_to x m.operation) (between items a d))) (not (same_source (source c.whole a x) (source c.whole d x)))
        (and_from (operation.touches x d) (not (list_any (λ (m : Item). has_store_to x m.operation) (between items a d))) td (ap (λ b. not b) none))
        (ap (λ b. not b) e))))))

waiting_in : (c : Now) (j : ℕ) (a : Operation) → slice_get c.ops j ≡ Some a → Member a c.whole
waiting_in c j a e = subst (Member a) (sym c.split) (member_right a c.done (c.b ∷ c.rest) (c.kept.waits j a e))

agree_from : (w : Waiting) (front before : List Waiting) → ((mid : List Waiting) (e : Waiting) (back : List Waiting) (x : ℕ) → front ++ before ≡ mid ++ e ∷ back → reads_with w back e x ≡ true → read_at e x ≡ read_at w x) → AgreeWith w before
agree_from w front [] f = tt
agree_from w front (e ∷ back) f = (λ x t. f front e back x refl t, agree_from w (front ++ e ∷ []) back (λ mid g rest x h t. f mid g rest x (sym (append_assoc front (e ∷ []) back) ∙ h) t))

agreed : (c : Now) → AgreeWith c.w (take c.k c.n.window)
agreed c = agree_from c.w [] (take c.k c.n.window) (λ mid e back x cut t.
    let h = earlier_load c mid e back x cut t in
    read_is e h.a x h.belongs.shows.address_is h.belongs.shows.read_is
    ∙ value_at c.model c.image c.all c.whole c.legal h.a x (waiting_in c (length mid) h.a h.stands) h.reads_a h.in_a
    ∙ ap (order.byte_from c.image x) (one_source c h.a c.b x (waiting_in c (length mid) h.a h.stands) (b_in c) h.reads_a h.reads_b h.in_a h.in_b (items_of c.all c.b.hart) h.none_between (not_asked c (length mid) h.a h.stands h.before))
    ∙ sym (value_at c.model c.image c.all c.whole c.legal c.b x (b_in c) h.reads_b h.in_b)
    ∙ sym (read_is c.w c.b x (w_is_b c).shows.address_is (w_is_b c).shows.read_is))

-- ---- so it may be placed

pub can_place : (c : Now) (memory : ℕ → ℕ) → Holds c.image c.done memory → CanPlace memory c.n c.k c.w
can_place c memory holds = record {
  waits = c.waiting;
  ready = ready c;
  values = values c memory holds;
  agreed = agreed c;
}
