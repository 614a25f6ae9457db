-- The last store to a byte, by its rank: one store more, the later of two ranks, and what it says of a load.
use Rattle.std.proofs.Common.{◌≡◌, ℕ, zero, suc, ◌+◌, ◌-◌, ◌<◌, ◌≤◌, List, [], ◌∷◌, ◌++◌, Bool, true, false, Option, Some, None, refl, cond, sym, subst, ap, ◌∙◌, ◌&&◌, ◌||◌, ◌⊎◌, ⊎_elim, inl, inr, max, arith, length, length-append, get_or}
use Rattle.std.specs.Prelude.{filter, nat_eq, nat_lt, slice_get, slice_index_or, unwrap_or}
use Rattle.std.specs.List.{last_or}
use Rattle.std.specs.Option.{option_map}
use Rattle.std.proofs.lemmas.Bool.{and_parts, cases_eq, cases_lt, eqb-true, eq-eqb, ne_eqb, lt-ltb, le-ltb, true≢false}
use Rattle.std.proofs.lemmas.List.{get_or_append_left, get_or_push, get_or_past}
use Rattle.std.proofs.lemmas.Option.{get_or_from_slice_get, none-some, same_Some, slice_get-get_or, slice_get_within}
use Rattle.memory_model.specs.declared.operation.Operation.{Operation}
use Rattle.memory_model.specs.declared.operation.Kind.TheVariants.{Load}
use Rattle.memory_model.specs.Operations.{precedes, same, stores_to}
use Rattle.memory_model.specs.Order.{position_in, source}
use Rattle.memory_model.specs.Verdict.{name_of}
use Rattle.rvwmo_order.specs.Ranks.{AreDistinctOperations, HasRank, ranked}
use Rattle.trace_operations.specs.Indexed.{is_seen, known, place_from, stored_from}
use Rattle.rvwmo_order.specs.Sourcing.{AreNumbers, GivesOwn, IsLast, Stands, StandsAt, all_come, is_come, is_known, is_own_before, raised}
use Rattle.trace_operations.specs.declared.stored.Stored.{Stored}
use Rattle.rvwmo_order.proofs.Ranks.{position_at, ranked_at}
use Rattle.trace_operations.proofs.Indexed.{place_known, source_seen}

-- ---- one test for another, and two together

pub last_same : (order : List Operation) (x : ℕ) (old new : ℕ → Operation → Bool) (rank : ℕ) → IsLast order x old rank → ((j : ℕ) (s : Operation) → slice_get order j ≡ Some s → stores_to x s ≡ true → new j s ≡ old j s) → IsLast order x new rank
last_same order x old new rank l alike = record {
  there = λ some. there (l.there some);
  last = λ j w. l.last j (record { store = w.store; there = w.there; stores = w.stores; passes = sym (alike j w.store w.there w.stores) ∙ w.passes });
}
  where
    there : Stands order x old (rank - 1) → Stands order x new (rank - 1)
    there w = record { store = w.store; there = w.there; stores = w.stores; passes = alike (rank - 1) w.store w.there w.stores ∙ w.passes }

pub last_both : (order : List Operation) (x : ℕ) (one two both : ℕ → Operation → Bool) (r q : ℕ) → IsLast order x one r → IsLast order x two q → ((j : ℕ) (s : Operation) → slice_get order j ≡ Some s → stores_to x s ≡ true → both j s ≡ (one j s || two j s)) → IsLast order x both (max r q)
last_both order x one two both r q l m all = record { there = there; last = last }
  where
    or_right : (a : Bool) → (a || true) ≡ true
    or_right true = refl
    or_right false = refl

    by_one : (j : ℕ) → Stands order x one j → Stands order x both j
    by_one j w = record { store = w.store; there = w.there; stores = w.stores; passes = all j w.store w.there w.stores ∙ ap (λ (a : Bool). a || two j w.store) w.passes }

    by_two : (j : ℕ) → Stands order x two j → Stands order x both j
    by_two j w = record { store = w.store; there = w.there; stores = w.stores; passes = all j w.store w.there w.stores ∙ (ap (λ (a : Bool). one j w.store || a) w.passes ∙ or_right (one j w.store)) }

    there : 0 < max r q → Stands order x both (max r q - 1)
    there some = ⊎_elim two_last one_last (cases_lt r q)
      where
        two_last : r < q → Stands order x both (max r q - 1)
        two_last h = let e : max r q ≡ q = omega (arith, h) in subst (λ (n : ℕ). Stands order x both (n - 1)) (sym e) (by_two (q - 1) (m.there (omega (arith, h))))

        one_last : q ≤ r → Stands order x both (max r q - 1)
        one_last h = let e : max r q ≡ r = omega (arith, h) in subst (λ (n : ℕ). Stands order x both (n - 1)) (sym e) (by_one (r - 1) (l.there (omega (arith, h, some))))

    last : (j : ℕ) → Stands order x both j → j < max r q
    last j w = go (one j w.store) (two j w.store) refl refl (sym (all j w.store w.there w.stores) ∙ w.passes)
      where
        go : (a b : Bool) → one j w.store ≡ a → two j w.store ≡ b → (one j w.store || two j w.store) ≡ true → j < max r q
        go true b e f g = let h = l.last j (record { store = w.store; there = w.there; stores = w.stores; passes = e }) in omega (arith, h)
        go false true e f g = let h = m.last j (record { store = w.store; there = w.there; stores = w.stores; passes = f }) in omega (arith, h)
        go false false e f g = absurd (true≢false (sym g ∙ (ap (λ (a : Bool). a || two j w.store) e ∙ f)))

-- ---- one store more

alone : (order : List Operation) (x q : ℕ) (a : Operation) → slice_get order q ≡ Some a → stores_to x a ≡ true → IsLast order x (λ j s. nat_eq j q) (q + 1)
alone order x q a e f = record {
  there = λ some. let at : q + 1 - 1 ≡ q = omega arith in record { store = a; there = ap (slice_get order) at ∙ e; stores = f; passes = eq-eqb (q + 1 - 1) q at };
  last = λ j w. let is = eqb-true j q w.passes in omega (arith, is);
}

pub last_noted : (order : List Operation) (x q rank : ℕ) (a : Operation) (old new : ℕ → Operation → Bool) (before now : ℕ) → slice_get order q ≡ Some a → rank ≡ q + 1 → ((j : ℕ) (s : Operation) → slice_get order j ≡ Some s → new j s ≡ (old j s || nat_eq j q)) → now ≡ raised rank x a before
    → IsLast order x old before → IsLast order x new now
last_noted order x q rank a old new before now e one all is l = go (stores_to x a) refl
  where
    or_false : (b c : Bool) → c ≡ false → (b || c) ≡ b
    or_false true c f = refl
    or_false false c f = f

    go : (b : Bool) → stores_to x a ≡ b → IsLast order x new now
    go true f =
        let raises : max before (q + 1) ≡ now = ap (max before) (sym one) ∙ (ap (λ (b : Bool). cond b (max before rank) before) (sym f) ∙ sym is) in
        subst (IsLast order x new) raises (last_both order x old (λ j s. nat_eq j q) new before (q + 1) l (alone order x q a e f) (λ j s there stores. all j s there))
    go false f =
        let stays : before ≡ now = ap (λ (b : Bool). cond b (max before rank) before) (sym f) ∙ sym is in
        subst (IsLast order x new) stays (last_same order x old new before l (λ j s there stores. all j s there ∙ or_false (old j s) (nat_eq j q) (⊎_elim (λ k. absurd (other j s there stores k)) (ne_eqb j q) (cases_eq j q))))
      where
        other : (j : ℕ) (s : Operation) → slice_get order j ≡ Some s → stores_to x s ≡ true → j ≡ q → ⊥
        other j s there stores k = let it : s ≡ a = same_Some s a (sym there ∙ (ap (slice_get order) k ∙ e)) in true≢false (sym stores ∙ (ap (stores_to x) it ∙ f))

-- ---- the walk along the order

lt_more : (j p : ℕ) → nat_lt j (p + 1) ≡ (nat_lt j p || nat_eq j p)
lt_more j p = grind arith

pub before_next : (order : List Operation) (p rank : ℕ) (a : Operation) (before now : ℕ → ℕ) → slice_get order p ≡ Some a → rank ≡ p + 1 → ((x : ℕ) → now x ≡ raised rank x a (before x)) → ((x : ℕ) → IsLast order x (λ j s. nat_lt j p) (before x))
    → (x : ℕ) → IsLast order x (λ j s. nat_lt j (p + 1)) (now x)
before_next order p rank a before now e one all inv x = last_noted order x p rank a (λ j s. nat_lt j p) (λ j s. nat_lt j (p + 1)) (before x) (now x) e one (λ j s there. lt_more j p) (all x) (inv x)

pub before_none : (order : List Operation) (kept : ℕ → ℕ) → ((x : ℕ) → kept x ≡ 0) → (x : ℕ) → IsLast order x (λ j s. nat_lt j 0) (kept x)
before_none order kept none x = record {
  there = λ some. let z = none x in absurd (omega (arith, z, some));
  last = λ j w. let h : (j < 0) ⊎ (0 ≤ j) = cases_lt j 0 in ⊎_elim (λ l. absurd (omega (arith, l))) (λ l. absurd (true≢false (sym w.passes ∙ le-ltb j 0 l))) h;
}

-- ---- the walks along the harts' lists

pub gives_same : (order : List Operation) (own : List (List ℕ)) (old new : Operation → Bool) → GivesOwn order own old → ((j : ℕ) (a : Operation) → slice_get order j ≡ Some a → new a ≡ old a) → GivesOwn order own new
gives_same order own old new g alike = record {
  many = g.many;
  each = λ p i a ranks e f few within. last_same order (a.address + i) (is_known old a) (is_known new a) (slice_index_or ranks i 0) (g.each p i a ranks e f few within) (λ j s there stores. ap (λ (b : Bool). b && precedes s a) (alike p a e));
}

pub nothing_yet : (order : List Operation) (own : List (List ℕ)) → length own ≡ length order → ((p : ℕ) (ranks : List ℕ) (i : ℕ) → slice_get own p ≡ Some ranks → slice_index_or ranks i 0 ≡ 0) → GivesOwn order own (is_come 0 0)
nothing_yet order own many zeros = record {
  many = many;
  each = λ p i a ranks e f few within. record {
    there = λ some. let z = zeros p ranks i f in absurd (omega (arith, z, some));
    last = λ j w. absurd (true≢false (sym (and_parts (is_come 0 0 a) (precedes w.store a) w.passes).0 ∙ none a));
  };
}
  where
    and_no : (b : Bool) → (b && false) ≡ false
    and_no true = refl
    and_no false = refl

    none : (a : Operation) → is_come 0 0 a ≡ false
    none a = ap (λ (b : Bool). b || (nat_eq a.hart 0 && nat_lt a.place 0)) (le-ltb a.hart 0 (omega arith)) ∙ (ap (λ (b : Bool). nat_eq a.hart 0 && b) (le-ltb a.place 0 (omega arith)) ∙ and_no (nat_eq a.hart 0))

-- where an operation is not the one of this hart and place
own_other : (hart k : ℕ) (s : Operation) → (s.hart ≡ hart → s.place ≡ k → ⊥) → (nat_eq s.hart hart && nat_lt s.place (k + 1)) ≡ (nat_eq s.hart hart && nat_lt s.place k)
own_other hart k s apart = ⊎_elim here elsewhere (cases_eq s.hart hart)
  where
    further : (s.place ≡ k → ⊥) → nat_lt s.place (k + 1) ≡ nat_lt s.place k
    further g = grind arith

    here : s.hart ≡ hart → (nat_eq s.hart hart && nat_lt s.place (k + 1)) ≡ (nat_eq s.hart hart && nat_lt s.place k)
    here e = ap (λ (b : Bool). nat_eq s.hart hart && b) (further (apart e))

    elsewhere : (s.hart ≡ hart → ⊥) → (nat_eq s.hart hart && nat_lt s.place (k + 1)) ≡ (nat_eq s.hart hart && nat_lt s.place k)
    elsewhere g = ap (λ (b : Bool). b && nat_lt s.place (k + 1)) (ne_eqb s.hart hart g) ∙ ap (λ (b : Bool). b && nat_lt s.place k) (sym (ne_eqb s.hart hart g))

pub own_none : (order : List Operation) (hart : ℕ) (kept : ℕ → ℕ) → ((x : ℕ) → kept x ≡ 0) → (x : ℕ) → IsLast order x (is_own_before hart 0) (kept x)
own_none order hart kept none x = record {
  there = λ some. let z = none x in absurd (omega (arith, z, some));
  last = λ j w. absurd (true≢false (sym (and_parts (nat_eq w.store.hart hart) (nat_lt w.store.place 0) w.passes).1 ∙ le-ltb w.store.place 0 (omega arith)));
}

-- an empty place of the list
pub gap_come : (order : List Operation) (sources : List (List ℕ)) (hart k : ℕ) (list : List ℕ) → AreNumbers order hart list → slice_index_or list k 0 ≡ 0 → GivesOwn order sources (is_come hart k) → GivesOwn order sources (is_come hart (k + 1))
gap_come order sources hart k list n e g = gives_same order sources (is_come hart k) (is_come hart (k + 1)) g (λ j a there. ap (λ (b : Bool). nat_lt a.hart hart || b) (own_other hart k a (apart j a there)))
  where
    apart : (j : ℕ) (a : Operation) → slice_get order j ≡ Some a → a.hart ≡ hart → a.place ≡ k → ⊥
    apart j a there h p = let f = n.each j a there h in let at = ap (λ (m : ℕ). slice_index_or list m 0) p in omega (arith, f, at, e)

pub gap_own : (order : List Operation) (hart k : ℕ) (list : List ℕ) (kept : ℕ → ℕ) → AreNumbers order hart list → slice_index_or list k 0 ≡ 0 → ((x : ℕ) → IsLast order x (is_own_before hart k) (kept x)) → (x : ℕ) → IsLast order x (is_own_before hart (k + 1)) (kept x)
gap_own order hart k list kept n e inv x = last_same order x (is_own_before hart k) (is_own_before hart (k + 1)) (kept x) (inv x) (λ j s there stores. own_other hart k s (apart j s there))
  where
    apart : (j : ℕ) (a : Operation) → slice_get order j ≡ Some a → a.hart ≡ hart → a.place ≡ k → ⊥
    apart j a there h p = let f = n.each j a there h in let at = ap (λ (m : ℕ). slice_index_or list m 0) p in omega (arith, f, at, e)

or_right : (a : Bool) → (a || true) ≡ true
or_right true = refl
or_right false = refl

or_nothing : (a c : Bool) → c ≡ false → (a || c) ≡ a
or_nothing true c e = refl
or_nothing false c e = e

-- an operation of the list
pub own_next : (order : List Operation) (hart k rank : ℕ) (list : List ℕ) (kept now : ℕ → ℕ) → AreNumbers order hart list → slice_index_or list k 0 ≡ rank → 0 < rank → ((a : Operation) → slice_get order (rank - 1) ≡ Some a → (x : ℕ) → now x ≡ raised rank x a (kept x)) → ((x : ℕ) → IsLast order x (is_own_before hart k) (kept x))
    → (x : ℕ) → IsLast order x (is_own_before hart (k + 1)) (now x)
own_next order hart k rank list kept now n e some all inv x = go (n.there k (omega (arith, e, some)))
  where
    go : StandsAt order hart k (slice_index_or list k 0 - 1) → IsLast order x (is_own_before hart (k + 1)) (now x)
    go w =
        let at : slice_get order (rank - 1) ≡ Some w.op = ap (λ (m : ℕ). slice_get order (m - 1)) (sym e) ∙ w.there in
        last_noted order x (rank - 1) rank w.op (is_own_before hart k) (is_own_before hart (k + 1)) (kept x) (now x) at (omega (arith, some)) (λ j s there. ⊎_elim (here at j s there) (elsewhere j s there) (cases_eq j (rank - 1))) (all w.op at x) (inv x)
      where
        here : slice_get order (rank - 1) ≡ Some w.op → (j : ℕ) (s : Operation) → slice_get order j ≡ Some s → j ≡ rank - 1 → is_own_before hart (k + 1) j s ≡ (is_own_before hart k j s || nat_eq j (rank - 1))
        here at j s there is =
            let it : s ≡ w.op = same_Some s w.op (sym there ∙ (ap (slice_get order) is ∙ at)) in
            let h : s.hart ≡ hart = ap (λ (y : Operation). y.hart) it ∙ w.of_hart in
            let p : s.place ≡ k = ap (λ (y : Operation). y.place) it ∙ w.of_place in
            ap (λ (b : Bool). b && nat_lt s.place (k + 1)) (eq-eqb s.hart hart h) ∙ (lt-ltb s.place (k + 1) (omega (arith, p)) ∙ sym (ap (λ (b : Bool). is_own_before hart k j s || b) (eq-eqb j (rank - 1) is) ∙ or_right (is_own_before hart k j s)))

        elsewhere : (j : ℕ) (s : Operation) → slice_get order j ≡ Some s → (j ≡ rank - 1 → ⊥) → is_own_before hart (k + 1) j s ≡ (is_own_before hart k j s || nat_eq j (rank - 1))
        elsewhere j s there is = own_other hart k s apart ∙ sym (or_nothing (is_own_before hart k j s) (nat_eq j (rank - 1)) (ne_eqb j (rank - 1) is))
          where
            apart : s.hart ≡ hart → s.place ≡ k → ⊥
            apart h p = let f = n.each j s there h in let at = ap (λ (m : ℕ). slice_index_or list m 0) p in is (omega (arith, f, at, e))

pub come_next : (order : List Operation) (old new : List (List ℕ)) (hart k rank : ℕ) (list : List ℕ) (kept : ℕ → ℕ) → AreNumbers order hart list → slice_index_or list k 0 ≡ rank → 0 < rank
    → length new ≡ length old → ((a : Operation) (got : List ℕ) (i : ℕ) → slice_get order (rank - 1) ≡ Some a → slice_get new (rank - 1) ≡ Some got → i < 4 → i < a.size → slice_index_or got i 0 ≡ kept (a.address + i))
    → ((p : ℕ) → (p ≡ rank - 1 → ⊥) → slice_get new p ≡ slice_get old p) → ((x : ℕ) → IsLast order x (is_own_before hart k) (kept x)) → GivesOwn order old (is_come hart k) → GivesOwn order new (is_come hart (k + 1))
come_next order old new hart k rank list kept n e some many own others inv g = record { many = many ∙ g.many; each = λ p i b ranks f h few within. ⊎_elim (here p i b ranks f h few within (n.there k (omega (arith, e, some)))) (elsewhere p i b ranks f h few within) (cases_eq p (rank - 1)) }
  where
    here : (p i : ℕ) (b : Operation) (ranks : List ℕ) → slice_get order p ≡ Some b → slice_get new p ≡ Some ranks → i < 4 → i < b.size → StandsAt order hart k (slice_index_or list k 0 - 1) → p ≡ rank - 1 → IsLast order (b.address + i) (is_known (is_come hart (k + 1)) b) (slice_index_or ranks i 0)
    here p i b ranks f h few within w is =
        let at : slice_get order (rank - 1) ≡ Some b = ap (slice_get order) (sym is) ∙ f in
        let it : w.op ≡ b = same_Some w.op b (sym w.there ∙ (ap (λ (m : ℕ). slice_get order (m - 1)) e ∙ at)) in
        let of_hart : b.hart ≡ hart = sym (ap (λ (y : Operation). y.hart) it) ∙ w.of_hart in
        let of_place : b.place ≡ k = sym (ap (λ (y : Operation). y.place) it) ∙ w.of_place in
        let value : slice_index_or ranks i 0 ≡ kept (b.address + i) = own b ranks i at (ap (slice_get new) (sym is) ∙ h) few within in
        subst (IsLast order (b.address + i) (is_known (is_come hart (k + 1)) b)) (sym value) (last_same order (b.address + i) (is_own_before hart k) (is_known (is_come hart (k + 1)) b) (kept (b.address + i)) (inv (b.address + i)) (λ j s there stores. test of_hart of_place j s))
      where
        by_name : (h q : ℕ) (s : Operation) → h ≡ hart → q ≡ k → ((nat_lt h hart || (nat_eq h hart && nat_lt q (k + 1))) && (nat_eq s.hart h && nat_lt s.place q)) ≡ (nat_eq s.hart hart && nat_lt s.place k)
        by_name h q s of_hart of_place =
            let less : nat_lt h hart ≡ false = le-ltb h hart (omega (arith, of_hart)) in
            let is_own : nat_eq h hart ≡ true = eq-eqb h hart of_hart in
            let next : nat_lt q (k + 1) ≡ true = lt-ltb q (k + 1) (omega (arith, of_place)) in
            let hs : nat_eq s.hart h ≡ nat_eq s.hart hart = ap (nat_eq s.hart) of_hart in
            let ps : nat_lt s.place q ≡ nat_lt s.place k = ap (nat_lt s.place) of_place in
            rw (less, is_own, next, hs, ps) refl

        test : b.hart ≡ hart → b.place ≡ k → (j : ℕ) (s : Operation) → is_known (is_come hart (k + 1)) b j s ≡ is_own_before hart k j s
        test of_hart of_place j s = by_name b.hart b.place s of_hart of_place

    elsewhere : (p i : ℕ) (b : Operation) (ranks : List ℕ) → slice_get order p ≡ Some b → slice_get new p ≡ Some ranks → i < 4 → i < b.size → (p ≡ rank - 1 → ⊥) → IsLast order (b.address + i) (is_known (is_come hart (k + 1)) b) (slice_index_or ranks i 0)
    elsewhere p i b ranks f h few within is = last_same order (b.address + i) (is_known (is_come hart k) b) (is_known (is_come hart (k + 1)) b) (slice_index_or ranks i 0) (g.each p i b ranks f (sym (others p is) ∙ h) few within) (λ j s there stores. ap (λ (c : Bool). (nat_lt b.hart hart || c) && precedes s b) (own_other hart k b apart))
      where
        apart : b.hart ≡ hart → b.place ≡ k → ⊥
        apart oh op = let m = n.each p b f oh in let at = ap (λ (m : ℕ). slice_index_or list m 0) op in is (omega (arith, m, at, e))

-- at the end of the list
pub hart_come : (order : List Operation) (sources : List (List ℕ)) (hart k : ℕ) (list : List ℕ) → AreNumbers order hart list → length list ≤ k → GivesOwn order sources (is_come hart k) → GivesOwn order sources (is_come (hart + 1) 0)
hart_come order sources hart k list n long g = gives_same order sources (is_come hart k) (is_come (hart + 1) 0) g (λ j a there. ⊎_elim (own j a there) (other a) (cases_eq a.hart hart))
  where
    and_no : (b : Bool) → (b && false) ≡ false
    and_no true = refl
    and_no false = refl

    within : (j : ℕ) (a : Operation) → slice_get order j ≡ Some a → a.hart ≡ hart → a.place < k
    within j a there h = ⊎_elim (λ l. l) (λ l. past l) (cases_lt a.place k)
      where
        past : k ≤ a.place → a.place < k
        past l = let f = n.each j a there h in let none = get_or_past list a.place 0 (omega (arith, l, long)) in absurd (omega (arith, f, none))

    own : (j : ℕ) (a : Operation) → slice_get order j ≡ Some a → a.hart ≡ hart → is_come (hart + 1) 0 a ≡ is_come hart k a
    own j a there h =
        let less : nat_lt a.hart (hart + 1) ≡ true = lt-ltb a.hart (hart + 1) (omega (arith, h)) in
        let is : nat_eq a.hart hart ≡ true = eq-eqb a.hart hart h in
        let low : nat_lt a.place k ≡ true = lt-ltb a.place k (within j a there h) in
        ap (λ (b : Bool). b || (nat_eq a.hart (hart + 1) && nat_lt a.place 0)) less ∙ sym (ap (λ (b : Bool). nat_lt a.hart hart || (b && nat_lt a.place k)) is ∙ (ap (λ (b : Bool). nat_lt a.hart hart || b) low ∙ or_right (nat_lt a.hart hart)))

    other : (a : Operation) → (a.hart ≡ hart → ⊥) → is_come (hart + 1) 0 a ≡ is_come hart k a
    other a h =
        let less : nat_lt a.hart (hart + 1) ≡ nat_lt a.hart hart = further h in
        let none : (nat_eq a.hart (hart + 1) && nat_lt a.place 0) ≡ false = ap (λ (b : Bool). nat_eq a.hart (hart + 1) && b) (le-ltb a.place 0 (omega arith)) ∙ and_no (nat_eq a.hart (hart + 1)) in
        ap (λ (b : Bool). b || (nat_eq a.hart (hart + 1) && nat_lt a.place 0)) less ∙ (ap (λ (b : Bool). nat_lt a.hart hart || b) none ∙ ap (λ (b : Bool). nat_lt a.hart hart || (b && nat_lt a.place k)) (sym (ne_eqb a.hart hart h)))
      where
        further : (a.hart ≡ hart → ⊥) → nat_lt a.hart (hart + 1) ≡ nat_lt a.hart hart
        further g = grind arith

-- ---- the ranks by place

name_alike : (hart place : ℕ) (a : Operation) → same (record { hart = hart; place = place; kind = Load; address = 0; size = 0; read = 0; written = 0; aq = false; rl = false }) a ≡ true → (a.hart ≡ hart) × (a.place ≡ place)
name_alike hart place a e = let p = and_parts (nat_eq hart a.hart) (nat_eq place a.place) e in (sym (eqb-true hart a.hart p.0), sym (eqb-true place a.place p.1))

placed_beyond : (q : ℕ) (a : Operation) (xs : List Operation) (n : ℕ) → place_from q a xs ≡ Some n → q ≤ n
placed_beyond q a [] n e = absurd (none-some n e)
placed_beyond q a (y ∷ ys) n e = step (same a y) e (λ h. placed_beyond (q + 1) a ys n h)
  where
    step : (c : Bool) → cond c (Some q) (place_from (q + 1) a ys) ≡ Some n → (place_from (q + 1) a ys ≡ Some n → q + 1 ≤ n) → q ≤ n
    step true h ih = let is : q ≡ n = same_Some q n h in omega (arith, is)
    step false h ih = let l = ih h in omega (arith, l)

placed_at : (q j : ℕ) (a : Operation) (xs : List Operation) (n : ℕ) → place_from q a xs ≡ Some n → n ≡ q + j → (b : Operation) × (slice_get xs j ≡ Some b) × (same a b ≡ true)
placed_at q j a [] n e f = absurd (none-some n e)
placed_at q zero a (b ∷ rest) n e f = go (same a b) refl e
  where
    go : (c : Bool) → same a b ≡ c → cond c (Some q) (place_from (q + 1) a rest) ≡ Some n → (y : Operation) × (slice_get (b ∷ rest) zero ≡ Some y) × (same a y ≡ true)
    go true g h = (b, refl, g)
    go false g h = let l = placed_beyond (q + 1) a rest n h in absurd (omega (arith, l, f))
placed_at q (suc i) a (b ∷ rest) n e f = go (same a b) e (λ h. placed_at (q + 1) i a rest n h (omega (arith, f)))
  where
    go : (c : Bool) → cond c (Some q) (place_from (q + 1) a rest) ≡ Some n → (place_from (q + 1) a rest ≡ Some n → (y : Operation) × (slice_get rest i ≡ Some y) × (same a y ≡ true)) → (y : Operation) × (slice_get rest i ≡ Some y) × (same a y ≡ true)
    go true h ih = let is : q ≡ n = same_Some q n h in absurd (omega (arith, is, f))
    go false h ih = ih h

some_known : (n p : ℕ) → known n ≡ Some p → n ≡ p + 1
some_known n p e = ⊎_elim zero_not more (cases_eq n 0)
  where
    zero_not : n ≡ 0 → n ≡ p + 1
    zero_not z = absurd (none-some p (ap known (sym z) ∙ e))

    more : (n ≡ 0 → ⊥) → n ≡ p + 1
    more ne = let is : n - 1 ≡ p = same_Some (n - 1) p (sym (ap (λ (b : Bool). cond b None (Some (n - 1))) (ne_eqb n 0 ne)) ∙ e) in omega (arith, is, ne)

known_some : (n : ℕ) → 0 < n → known n ≡ Some (n - 1)
known_some n l = ap (λ (b : Bool). cond b None (Some (n - 1))) (ne_eqb n 0 (λ e. omega (arith, e, l)))

-- an operation's number tells where it stands
pub number_placed : (order : List Operation) (j number : ℕ) (a : Operation) → AreDistinctOperations order → slice_get order j ≡ Some a → known number ≡ place_from 0 a order → number ≡ j + 1
number_placed order j number a d e all = go (place_from 0 a order) refl
  where
    go : (o : Option ℕ) → place_from 0 a order ≡ o → number ≡ j + 1
    go None f =
        let stands = position_at order j a d e in
        let inside = slice_get_within order j a e in
        let none = ap (λ (o : Option ℕ). unwrap_or o (length order)) (sym f) ∙ place_known 0 (length order) a order (omega arith) in
        absurd (omega (arith, stands, inside, none))
    go (Some n) f =
        let stands = position_at order j a d e in
        let some = ap (λ (o : Option ℕ). unwrap_or o (length order)) (sym f) ∙ place_known 0 (length order) a order (omega arith) in
        let counted = some_known number n (all ∙ f) in
        omega (arith, stands, some, counted)

pub numbers_of : (order : List Operation) (number : ℕ → ℕ → ℕ) (hart : ℕ) (list : List ℕ) → AreDistinctOperations order → ((a : Operation) → known (number a.hart a.place) ≡ place_from 0 a order) → ((place : ℕ) → slice_index_or list place 0 ≡ number hart place) → AreNumbers order hart list
numbers_of order number hart list d all is = record { there = there; each = each }
  where
    there : (place : ℕ) → 0 < slice_index_or list place 0 → StandsAt order hart place (slice_index_or list place 0 - 1)
    there place some =
        let name : Operation = record { hart = hart; place = place; kind = Load; address = 0; size = 0; read = 0; written = 0; aq = false; rl = false } in
        let found : place_from 0 name order ≡ Some (slice_index_or list place 0 - 1) = sym (all name) ∙ (ap known (sym (is place)) ∙ known_some (slice_index_or list place 0) some) in
        let w = placed_at 0 (slice_index_or list place 0 - 1) name order (slice_index_or list place 0 - 1) found (omega arith) in
        let p = name_alike hart place w.0 w.2 in
        record { op = w.0; there = w.1; of_hart = p.0; of_place = p.1 }

    each : (j : ℕ) (a : Operation) → slice_get order j ≡ Some a → a.hart ≡ hart → slice_index_or list a.place 0 ≡ j + 1
    each j a e h = is a.place ∙ (ap (λ (n : ℕ). number n a.place) (sym h) ∙ number_placed order j (number a.hart a.place) a d e (all a))

-- ---- the source of a load

-- no store of a list passes a test; the list's places are counted from a number
record NonePasses (p : Stored → Bool) (q x : ℕ) (xs : List Operation) : Type 0 where
  each : (j n : ℕ) (s : Operation) → n ≡ q + j → slice_get xs j ≡ Some s → stores_to x s ≡ true → p (record { position = n; store = s }) ≡ true → ⊥

-- this is the last store of a list that passes it
record LastPasses (p : Stored → Bool) (q x : ℕ) (xs : List Operation) (u : Option Stored) : Type 0 where
  at : ℕ
  place : ℕ
  store : Operation
  counted : place ≡ q + at
  there : slice_get xs at ≡ Some store
  stores : stores_to x store ≡ true
  passes : p (record { position = place; store = store }) ≡ true
  is : u ≡ Some (record { position = place; store = store })
  last : (j n : ℕ) (s : Operation) → n ≡ q + j → slice_get xs j ≡ Some s → stores_to x s ≡ true → p (record { position = n; store = s }) ≡ true → j ≤ at

abbrev here_at : ℕ → Operation → Stored
here_at q a = record { position = q; store = a }

abbrev found : (Stored → Bool) → ℕ → ℕ → Operation → List Operation → Option Stored → Bool → Option Stored
found p q x a rest o b = last_or o (filter p (cond b (here_at q a ∷ stored_from (q + 1) x rest) (stored_from (q + 1) x rest)))

last_found : (p : Stored → Bool) (q x : ℕ) (xs : List Operation) (o : Option Stored) → ((last_or o (filter p (stored_from q x xs)) ≡ o) × NonePasses p q x xs) ⊎ LastPasses p q x xs (last_or o (filter p (stored_from q x xs)))
last_found p q x [] o = inl (refl, record { each = λ j n s c e f g. none-some s e })
last_found p q x (a ∷ rest) o = go (stores_to x a) (p (record { position = q; store = a })) refl refl (last_found p (q + 1) x rest o) (last_found p (q + 1) x rest (Some (record { position = q; store = a })))
  where
    first_is : (n : ℕ) (s : Operation) → n ≡ q + 0 → slice_get (a ∷ rest) 0 ≡ Some s → p (record { position = n; store = s }) ≡ p (here_at q a)
    first_is n s c e = let at : n ≡ q = omega (arith, c) in let it : s ≡ a = same_Some s a (sym e) in ap (λ (m : ℕ). p (record { position = m; store = s })) at ∙ ap (λ (y : Operation). p (record { position = q; store = y })) it

    passed_by : (u : Option Stored) → ((stores_to x a && p (here_at q a)) ≡ true → ⊥) → (u ≡ o) × NonePasses p (q + 1) x rest → (u ≡ o) × NonePasses p q x (a ∷ rest)
    passed_by u out h = (h.0, record { each = each })
      where
        each : (j n : ℕ) (s : Operation) → n ≡ q + j → slice_get (a ∷ rest) j ≡ Some s → stores_to x s ≡ true → p (record { position = n; store = s }) ≡ true → ⊥
        each zero n s c e f g = out (both (ap (stores_to x) (same_Some a s e) ∙ f) (sym (first_is n s c e) ∙ g))
          where
            both : stores_to x a ≡ true → p (here_at q a) ≡ true → (stores_to x a && p (here_at q a)) ≡ true
            both k l = ap (λ (b : Bool). b && p (here_at q a)) k ∙ l
        each (suc j) n s c e f g = h.1.each j n s (omega (arith, c)) e f g

    later : (u : Option Stored) → LastPasses p (q + 1) x rest u → LastPasses p q x (a ∷ rest) u
    later u w = record { at = suc w.at; place = w.place; store = w.store; counted = let c = w.counted in omega (arith, c); there = w.there; stores = w.stores; passes = w.passes; is = w.is; last = last }
      where
        last : (j n : ℕ) (s : Operation) → n ≡ q + j → slice_get (a ∷ rest) j ≡ Some s → stores_to x s ≡ true → p (record { position = n; store = s }) ≡ true → j ≤ suc w.at
        last zero n s c e f g = omega arith
        last (suc j) n s c e f g = let l = w.last j n s (omega (arith, c)) e f g in omega (arith, l)

    only : (u : Option Stored) → stores_to x a ≡ true → p (here_at q a) ≡ true → (u ≡ Some (here_at q a)) × NonePasses p (q + 1) x rest → LastPasses p q x (a ∷ rest) u
    only u f g h = record { at = 0; place = q; store = a; counted = omega arith; there = refl; stores = f; passes = g; is = h.0; last = last }
      where
        last : (j n : ℕ) (s : Operation) → n ≡ q + j → slice_get (a ∷ rest) j ≡ Some s → stores_to x s ≡ true → p (record { position = n; store = s }) ≡ true → j ≤ 0
        last zero n s c e k l = omega arith
        last (suc j) n s c e k l = absurd (h.1.each j n s (omega (arith, c)) e k l)

    go : (b c : Bool) → stores_to x a ≡ b → p (here_at q a) ≡ c
        → ((last_or o (filter p (stored_from (q + 1) x rest)) ≡ o) × NonePasses p (q + 1) x rest) ⊎ LastPasses p (q + 1) x rest (last_or o (filter p (stored_from (q + 1) x rest)))
        → ((last_or (Some (here_at q a)) (filter p (stored_from (q + 1) x rest)) ≡ Some (here_at q a)) × NonePasses p (q + 1) x rest) ⊎ LastPasses p (q + 1) x rest (last_or (Some (here_at q a)) (filter p (stored_from (q + 1) x rest)))
        → ((last_or o (filter p (stored_from q x (a ∷ rest))) ≡ o) × NonePasses p q x (a ∷ rest)) ⊎ LastPasses p q x (a ∷ rest) (last_or o (filter p (stored_from q x (a ∷ rest))))
    go b c f g skip take = subst (λ (u : Option Stored). ((u ≡ o) × NonePasses p q x (a ∷ rest)) ⊎ LastPasses p q x (a ∷ rest) u) (sym (ap (found p q x a rest o) f)) (by b c f g)
      where
        by : (b c : Bool) → stores_to x a ≡ b → p (here_at q a) ≡ c → (((found p q x a rest o b) ≡ o) × NonePasses p q x (a ∷ rest)) ⊎ LastPasses p q x (a ∷ rest) ((found p q x a rest o b))
        by false c f g = ⊎_elim (λ h. inl (passed_by _ (λ e. true≢false (sym (and_parts (stores_to x a) (p (here_at q a)) e).0 ∙ f)) h)) (λ w. inr (later _ w)) skip
        by true true f g = subst (λ (u : Option Stored). ((u ≡ o) × NonePasses p q x (a ∷ rest)) ⊎ LastPasses p q x (a ∷ rest) u) (ap (λ (c : Bool). last_or o (cond c ((here_at q a) ∷ filter p (stored_from (q + 1) x rest)) (filter p (stored_from (q + 1) x rest)))) (sym g)) (⊎_elim (λ h. inr (only _ f g h)) (λ w. inr (later _ w)) take)
        by true false f g = subst (λ (u : Option Stored). ((u ≡ o) × NonePasses p q x (a ∷ rest)) ⊎ LastPasses p q x (a ∷ rest) u) (ap (λ (c : Bool). last_or o (cond c ((here_at q a) ∷ filter p (stored_from (q + 1) x rest)) (filter p (stored_from (q + 1) x rest)))) (sym g)) (⊎_elim (λ h. inl (passed_by _ (λ e. true≢false (sym (and_parts (stores_to x a) (p (here_at q a)) e).1 ∙ g)) h)) (λ w. inr (later _ w)) skip)

pub source_last : (order : List Operation) (a : Operation) (x p rank : ℕ) → p ≡ position_in order a → IsLast order x (λ j s. nat_lt j p || precedes s a) rank → HasRank order (source order a x) rank
source_last order a x p rank at l = go (last_or None (filter (is_seen p (name_of a)) (stored_from 0 x order))) refl (last_found (is_seen p (name_of a)) 0 x order None)
  where
    found : option_map (λ (s : Stored). s.store) (last_or None (filter (is_seen p (name_of a)) (stored_from 0 x order))) ≡ source order a x
    found = source_seen order a x (name_of a) p (stored_from 0 x order) refl at refl

    go : (u : Option Stored) → last_or None (filter (is_seen p (name_of a)) (stored_from 0 x order)) ≡ u → ((last_or None (filter (is_seen p (name_of a)) (stored_from 0 x order)) ≡ None) × NonePasses (is_seen p (name_of a)) 0 x order) ⊎ LastPasses (is_seen p (name_of a)) 0 x order (last_or None (filter (is_seen p (name_of a)) (stored_from 0 x order))) → HasRank order (source order a x) rank
    go u e (inl h) = ⊎_elim none some (cases_eq rank 0)
      where
        none : rank ≡ 0 → HasRank order (source order a x) rank
        none z = record { within = omega (arith, z); there = ap (ranked order) z ∙ (ap (option_map (λ (s : Stored). s.store)) (sym h.0) ∙ found) }

        some : (rank ≡ 0 → ⊥) → HasRank order (source order a x) rank
        some ne = let w = l.there (omega (arith, ne)) in absurd (h.1.each (rank - 1) (rank - 1) w.store (omega arith) w.there w.stores w.passes)
    go u e (inr w) =
        let counted = w.counted in
        let seen : Stands order x (λ j s. nat_lt j p || precedes s a) w.at = record { store = w.store; there = w.there; stores = w.stores; passes = ap (λ (n : ℕ). nat_lt n p || precedes w.store a) (omega (arith, counted)) ∙ w.passes } in
        let less = l.last w.at seen in
        let v = l.there (omega (arith, less)) in
        let most = w.last (rank - 1) (rank - 1) v.store (omega arith) v.there v.stores v.passes in
        let is : rank ≡ w.at + 1 = omega (arith, less, most) in
        let inside = slice_get_within order w.at w.store w.there in
        record { within = omega (arith, is, inside); there = ranked_at order rank w.at is ∙ (w.there ∙ (ap (option_map (λ (s : Stored). s.store)) (sym w.is) ∙ found)) }

-- a walk over the order has found the last that a load may see so far, where it has come to one that it may see, and to another
pub found_here : (order : List Operation) (x p rank : ℕ) (seen : ℕ → Operation → Bool) (s : Operation) → slice_get order p ≡ Some s → (stores_to x s && seen p s) ≡ true → rank ≡ p + 1 → IsLast order x (λ j t. nat_lt j (p + 1) && seen j t) rank
found_here order x p rank seen s e f is =
    let both = and_parts (stores_to x s) (seen p s) f in
    let at : p ≡ rank - 1 = omega (arith, is) in
    record {
      there = λ some. subst (Stands order x (λ j t. nat_lt j (p + 1) && seen j t)) at (record { store = s; there = e; stores = both.0; passes = ap (λ (b : Bool). b && seen p s) (lt-ltb p (p + 1) (omega arith)) ∙ both.1 });
      last = λ j w. before j ((and_parts (nat_lt j (p + 1)) (seen j w.store) w.passes).0);
    }
  where
    before : (j : ℕ) → nat_lt j (p + 1) ≡ true → j < rank
    before j g = ⊎_elim (λ l. omega (arith, l, is)) (λ l. absurd (true≢false (sym g ∙ le-ltb j (p + 1) l))) (cases_lt j (p + 1))

pub found_before : (order : List Operation) (x p rank now : ℕ) (seen : ℕ → Operation → Bool) (s : Operation) → slice_get order p ≡ Some s → (stores_to x s && seen p s) ≡ false → now ≡ rank → IsLast order x (λ j t. nat_lt j p && seen j t) rank → IsLast order x (λ j t. nat_lt j (p + 1) && seen j t) now
found_before order x p rank now seen s e f is l = subst (IsLast order x (λ j t. nat_lt j (p + 1) && seen j t)) (sym is) (last_same order x (λ j t. nat_lt j p && seen j t) (λ j t. nat_lt j (p + 1) && seen j t) rank l (λ j t there stores. ⊎_elim (here j t there stores) (elsewhere j t) (cases_eq j p)))
  where
    and_no : (b : Bool) → (b && false) ≡ false
    and_no true = refl
    and_no false = refl

    here : (j : ℕ) (t : Operation) → slice_get order j ≡ Some t → stores_to x t ≡ true → j ≡ p → (nat_lt j (p + 1) && seen j t) ≡ (nat_lt j p && seen j t)
    here j t there stores at =
        let it : s ≡ t = same_Some s t (sym e ∙ (ap (slice_get order) (sym at) ∙ there)) in
        let none : seen j t ≡ false = sym (ap (λ (b : Bool). b && seen j t) stores) ∙ (ap (λ (n : ℕ). stores_to x t && seen n t) at ∙ (ap (λ (y : Operation). stores_to x y && seen p y) (sym it) ∙ f)) in
        ap (λ (b : Bool). nat_lt j (p + 1) && b) none ∙ (and_no (nat_lt j (p + 1)) ∙ sym (ap (λ (b : Bool). nat_lt j p && b) none ∙ and_no (nat_lt j p)))

    elsewhere : (j : ℕ) (t : Operation) → (j ≡ p → ⊥) → (nat_lt j (p + 1) && seen j t) ≡ (nat_lt j p && seen j t)
    elsewhere j t apart = ap (λ (b : Bool). b && seen j t) (further apart)
      where
        further : (j ≡ p → ⊥) → nat_lt j (p + 1) ≡ nat_lt j p
        further g = grind arith

pub found_none : (order : List Operation) (x : ℕ) (seen : ℕ → Operation → Bool) → IsLast order x (λ j t. nat_lt j 0 && seen j t) 0
found_none order x seen = record {
  there = λ some. absurd (omega (arith, some));
  last = λ j w. absurd (true≢false (sym (and_parts (nat_lt j 0) (seen j w.store) w.passes).0 ∙ le-ltb j 0 (omega arith)));
}

pub found_all : (order : List Operation) (x p rank : ℕ) (seen : ℕ → Operation → Bool) → length order ≤ p → IsLast order x (λ j t. nat_lt j p && seen j t) rank → IsLast order x seen rank
found_all order x p rank seen long l = last_same order x (λ j t. nat_lt j p && seen j t) seen rank l (λ j t there stores. sym (ap (λ (b : Bool). b && seen j t) (let inside = slice_get_within order j t there in lt-ltb j p (omega (arith, inside, long)))))

-- ---- the last of both walks

-- once all have come
pub own_found : (order : List Operation) (own : List (List ℕ)) (harts : ℕ) → GivesOwn order own (is_come harts 0) → ((j : ℕ) (a : Operation) → slice_get order j ≡ Some a → a.hart < harts) → GivesOwn order own all_come
own_found order own harts g few = gives_same order own (is_come harts 0) all_come g (λ j a there. sym (ap (λ (b : Bool). b || (nat_eq a.hart harts && nat_lt a.place 0)) (lt-ltb a.hart harts (few j a there))))

-- of the last store before a load in the order, and the last that precedes it in program order, the later is the source of its byte
pub later_source : (order : List Operation) (a : Operation) (x p before own rank : ℕ) → AreDistinctOperations order → slice_get order p ≡ Some a → IsLast order x (λ j s. nat_lt j p) before → IsLast order x (is_known all_come a) own → rank ≡ max before own → HasRank order (source order a x) rank
later_source order a x p before own rank d e l m is =
    source_last order a x p rank (sym (position_at order p a d e)) (subst (IsLast order x (λ j s. nat_lt j p || precedes s a)) (sym is) (last_both order x (λ j s. nat_lt j p) (is_known all_come a) (λ j s. nat_lt j p || precedes s a) before own l m (λ j s there stores. refl)))
