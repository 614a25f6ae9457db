-- Placing keeps what is kept, of the hart whose operation is placed and of the others.
use Rattle.std.proofs.Common.{◌≡◌, ℕ, zero, suc, ◌+◌, ◌-◌, ◌<◌, List, [], ◌∷◌, ◌++◌, Bool, true, Option, Some, None, refl, sym, ap, ◌∙◌, ◌||◌, ◌⊎◌, inl, inr, ⊎_elim, arith, length, subst, take, drop}
use Rattle.std.specs.Prelude.{slice_get}
use Rattle.std.specs.List.{remove}
use Rattle.std.specs.Option.{option_map}
use Rattle.std.proofs.lemmas.Bool.{false≢true, cases_lt}
use Rattle.std.proofs.lemmas.List.{append_assoc, length-append, take-append-drop}
use Rattle.std.proofs.lemmas.Option.{none-some, same_Some, slice_get-map}
use Rattle.machine_types.specs.declared.model.MemoryModel.{MemoryModel}
use Rattle.memory_model.specs.declared.operation.Operation.{Operation}
use Rattle.memory_model.specs.Items.{Item}
use Rattle.memory_model.specs.Operations.{same}
use Rattle.memory_model.specs.Rules.{items_of}
use Rattle.memory_model.proofs.Forms.{same-self}
use Rattle.memory_model.proofs.Lists.{Member}
use Rattle.window_model.specs.Nodes.{Node}
use Rattle.window_model.specs.Pairs.{Pairs}
use Rattle.window_model.specs.Placing.{beside, pinned_by, placed, reads_with}
use Rattle.window_model.specs.Waiting.{Waiting, closed_up}
use Rattle.window_model.specs.Waits.{stood_at}
use Rattle.window_model.proofs.Pairs.{pairs_map, pairs_remove}
use Rattle.window_model.proofs.Positions.{at_remove, stood_before, stood_behind}
use Rattle.window_model.proofs.Waits.{either, only_without}
use Rattle.window_model.proofs.following.Admitting.{Other, behind_b}
use Rattle.window_model.proofs.following.Kept.{Feeds, Precedes, Stands}
use Rattle.window_model.proofs.following.Placing.{earlier_load}
use Rattle.window_model.proofs.following.Remaining.{IsAt, IsPinned, Now, Remaining, b_placed, split_behind}
use Rattle.window_model.proofs.following.Whole.{apart, member_left}

-- ---- positions

stood_elsewhere : (k j : ℕ) → stood_at k j ≡ k → ⊥
stood_elsewhere k j e =
    ⊎_elim
    (λ l. let s = stood_before k j l in absurd (omega (arith, s, e, l)))
    (λ l. let s = stood_behind k j l in absurd (omega (arith, s, e, l)))
    (cases_lt j k)

stood_rising : (k i j : ℕ) → i < j → stood_at k i < stood_at k j
stood_rising k i j l =
    ⊎_elim
    (λ a. ⊎_elim
    (λ b. let s = stood_before k i a in let t = stood_before k j b in omega (arith, s, t, l))
    (λ b. let s = stood_before k i a in let t = stood_behind k j b in omega (arith, s, t, l))
    (cases_lt j k))
    (λ a. ⊎_elim
    (λ b. absurd (omega (arith, a, b, l)))
    (λ b. let s = stood_behind k i a in let t = stood_behind k j b in omega (arith, s, t, l))
    (cases_lt j k))
    (cases_lt i k)

-- what stands elsewhere stays
stays_at : (ops : List Operation) (k i : ℕ) (a : Operation) → slice_get ops i ≡ Some a → (i ≡ k → ⊥) → IsAt (remove ops k) a
stays_at ops k i a e other =
    ⊎_elim
    (λ l. record { position = i; stands = at_remove ops k i ∙ ap (slice_get ops) (stood_before k i l) ∙ e })
    (λ l.
    let there : i - 1 + 1 ≡ i = omega (arith, l, other) in
    record { position = i - 1; stands = at_remove ops k (i - 1) ∙ ap (slice_get ops) (stood_behind k (i - 1) (omega (arith, l, other)) ∙ there) ∙ e })
    (cases_lt i k)

-- ---- what waits

closed_stands : (model : MemoryModel) (items : List Item) (ops : List Operation) (k : ℕ) (w : Waiting) (a : Operation) → Stands model items ops w a → Stands model items (remove ops k) (closed_up k w) a
closed_stands model items ops k w a s = record {
  shows = record { kind_is = s.shows.kind_is; address_is = s.shows.address_is; size_is = s.shows.size_is; read_is = s.shows.read_is; written_is = s.shows.written_is; rcsc_is = s.shows.rcsc_is };
  needs = only_without (Precedes model items a) ops k w.needs s.needs;
  source = only_without (Feeds items a) ops k w.source s.source;
  pair = λ t.
      let h = s.pair t in
      record {
        lr = h.lr;
        own = h.own;
        pairs = h.pairs;
        address_is = h.address_is;
        size_is = h.size_is;
        waits = λ j e. h.waits (stood_at k j) (sym (at_remove ops k j) ∙ e);
        stores = λ j c e l t v. h.stores (stood_at k j) c (sym (at_remove ops k j) ∙ e) l t v;
      };
}

pinned_stands : (model : MemoryModel) (items : List Item) (ops : List Operation) (w e : Waiting) (between : List Waiting) (a : Operation) → Stands model items ops e a → Stands model items ops (record e { pinned = λ x. e.pinned x || reads_with w between e x }) a
pinned_stands model items ops w e between a s = record {
  shows = record { kind_is = s.shows.kind_is; address_is = s.shows.address_is; size_is = s.shows.size_is; read_is = s.shows.read_is; written_is = s.shows.written_is; rcsc_is = s.shows.rcsc_is };
  needs = s.needs;
  source = s.source;
  pair = λ t. let h = s.pair t in record { lr = h.lr; own = h.own; pairs = h.pairs; address_is = h.address_is; size_is = h.size_is; waits = h.waits; stores = h.stores };
}

pins_pair : (model : MemoryModel) (items : List Item) (all : List Operation) (w : Waiting) (before after : List Waiting) (ops : List Operation) → Pairs (Stands model items all) (before ++ after) ops → Pairs (Stands model items all) (pinned_by w before ++ after) ops
pins_pair model items all w [] after ops h = h
pins_pair model items all w (e ∷ before) after [] h = absurd h
pins_pair model items all w (e ∷ before) after (a ∷ ops) h = (pinned_stands model items all w e before a h.0, pins_pair model items all w before after ops h.1)

placed_window : (c : Now) → Pairs (Stands c.model (items_of c.all c.b.hart) (remove c.ops c.k)) (placed c.n c.k c.w).window (remove c.ops c.k)
placed_window c =
    pairs_map (Stands c.model items c.ops) (Stands c.model items (remove c.ops c.k)) (closed_up c.k) (remove pinned c.k) (remove c.ops c.k) (λ j w a e s. closed_stands c.model items c.ops c.k w a s)
    (pairs_remove (Stands c.model items c.ops) pinned c.ops c.k
    (pins_pair c.model items c.ops c.w (take c.k c.n.window) (drop c.k c.n.window) c.ops (subst (λ ws. Pairs (Stands c.model items c.ops) ws c.ops) (sym (take-append-drop c.k c.n.window)) c.kept.window)))
  where
    items : List Item
    items = items_of c.all c.b.hart

    pinned : List Waiting
    pinned = pinned_by c.w (take c.k c.n.window) ++ drop c.k c.n.window

-- ---- pins

-- a pin was there already, or is one of w's
record WasPinned (w : Waiting) (before after : List Waiting) (i : ℕ) (x : ℕ) : Type 0 where
  old : Waiting
  stood : slice_get (before ++ after) i ≡ Some old
  pinned : old.pinned x ≡ true

record IsNewlyPinned (w : Waiting) (front before : List Waiting) (i : ℕ) (x : ℕ) : Type 0 where
  old : Waiting
  mid : List Waiting
  between : List Waiting
  cut : front ++ before ≡ mid ++ old ∷ between
  at : length mid ≡ length front + i
  reads : reads_with w between old x ≡ true

pin_found : (w : Waiting) (front before after : List Waiting) (i : ℕ) (e : Waiting) (x : ℕ) → slice_get (pinned_by w before ++ after) i ≡ Some e → e.pinned x ≡ true → WasPinned w before after i x ⊎ IsNewlyPinned w front before i x
pin_found w front [] after i e x f p = inl (record { old = e; stood = f; pinned = p })
pin_found w front (y ∷ before) after zero e x f p =
    let end : length front ≡ length front + 0 = omega arith in
    either (WasPinned w (y ∷ before) after zero x ⊎ IsNewlyPinned w front (y ∷ before) zero x) (y.pinned x) (reads_with w before y x) (ap (λ (v : Waiting). v.pinned x) (same_Some _ e f) ∙ p)
    (λ h. inl (record { old = y; stood = refl; pinned = h }))
    (λ h. inr (record { old = y; mid = front; between = before; cut = refl; at = end; reads = h }))
pin_found w front (y ∷ before) after (suc i) e x f p = go (pin_found w (front ++ y ∷ []) before after i e x f p)
  where
    go : WasPinned w before after i x ⊎ IsNewlyPinned w (front ++ y ∷ []) before i x → WasPinned w (y ∷ before) after (suc i) x ⊎ IsNewlyPinned w front (y ∷ before) (suc i) x
    go (inl o) = inl (record { old = o.old; stood = o.stood; pinned = o.pinned })
    go (inr n) =
        let one = length-append front (y ∷ []) in
        let at = n.at in
        inr (record { old = n.old; mid = n.mid; between = n.between; cut = sym (append_assoc front (y ∷ []) before) ∙ n.cut; at = omega (arith, one, at); reads = n.reads })

still_pinned : (items : List Item) (done : List Operation) (b a : Operation) (x : ℕ) → IsPinned items done a x → IsPinned items (done ++ b ∷ []) a x
still_pinned items done b a x h = record {
  load = h.load;
  placed = member_left h.load done (b ∷ []) h.placed;
  of_hart = h.of_hart;
  later = h.later;
  reads_a = h.reads_a;
  reads_b = h.reads_b;
  in_a = h.in_a;
  in_b = h.in_b;
  none_between = h.none_between;
}

newly_pinned : (c : Now) (i : ℕ) (a : Operation) (x : ℕ) → slice_get c.ops i ≡ Some a → IsNewlyPinned c.w [] (take c.k c.n.window) i x → IsPinned (items_of c.all c.b.hart) (c.done ++ c.b ∷ []) a x
newly_pinned c i a x e n =
    let at = n.at in
    let there : length n.mid ≡ i = omega (arith, at) in
    let h = earlier_load c n.mid n.old n.between x n.cut n.reads in
    let own = c.kept.own i a e in
    subst (λ (d : Operation). IsPinned (items_of c.all c.b.hart) (c.done ++ c.b ∷ []) d x) (same_Some h.a a (sym h.stands ∙ ap (slice_get c.ops) there ∙ e))
    (record {
      load = c.b;
      placed = b_placed c;
      of_hart = sym (c.kept.own (length n.mid) h.a h.stands).hart_is;
      later = h.before;
      reads_a = h.reads_a;
      reads_b = h.reads_b;
      in_a = h.in_a;
      in_b = h.in_b;
      none_between = h.none_between;
    })

-- ---- the hart whose operation is placed

pub placed_kept : (c : Now) → Remaining c.model c.all c.b.hart (c.done ++ c.b ∷ []) c.rest (placed c.n c.k c.w) (remove c.ops c.k)
placed_kept c = record {
  own = λ j a e. c.kept.own (stood_at c.k j) a (sym (at_remove c.ops c.k j) ∙ e);
  window = placed_window c;
  waits = waits;
  every = λ a m h. let p = c.kept.every a (inr m) h in stays_at c.ops c.k p.position a p.stands (λ same. false≢true (sym (apart c.whole (c.done ++ c.b ∷ []) c.rest c.legal.once (split_behind c) c.b a (b_placed c) m) ∙ (ap (same_as c.b) (sym (same_Some c.b a (sym c.here ∙ ap (slice_get c.ops) (sym same) ∙ p.stands))) ∙ same-self c.b)));
  sorted = λ i j a d e f l. c.kept.sorted (stood_at c.k i) (stood_at c.k j) a d (sym (at_remove c.ops c.k i) ∙ e) (sym (at_remove c.ops c.k j) ∙ f) (stood_rising c.k i j l);
  pins = λ j w a x e f p. go j w a x f p (slice_get (pinned_by c.w (take c.k c.n.window) ++ drop c.k c.n.window) (stood_at c.k j)) refl (ap (option_map (closed_up c.k)) (sym (at_remove (pinned_by c.w (take c.k c.n.window) ++ drop c.k c.n.window) c.k j)) ∙ (sym (slice_get-map (closed_up c.k) (remove (pinned_by c.w (take c.k c.n.window) ++ drop c.k c.n.window) c.k) j) ∙ e));
}
  where
    same_as : Operation → Operation → Bool
    same_as a d = same a d

    waits : (j : ℕ) (a : Operation) → slice_get (remove c.ops c.k) j ≡ Some a → Member a c.rest
    waits j a e = pick (c.kept.waits (stood_at c.k j) a there)
      where
        there : slice_get c.ops (stood_at c.k j) ≡ Some a
        there = sym (at_remove c.ops c.k j) ∙ e

        pick : Member a (c.b ∷ c.rest) → Member a c.rest
        pick (inr m) = m
        pick (inl same) =
            let place = ap (λ (o : Operation). o.place) same in
            ⊎_elim
            (λ l. let p = c.kept.sorted (stood_at c.k j) c.k a c.b there c.here l in absurd (omega (arith, p, place)))
            (λ l. ⊎_elim
            (λ m. let p = c.kept.sorted c.k (stood_at c.k j) c.b a c.here there m in absurd (omega (arith, p, place)))
            (λ m. absurd (stood_elsewhere c.k j (omega (arith, l, m))))
            (cases_lt c.k (stood_at c.k j)))
            (cases_lt (stood_at c.k j) c.k)

    was : (j : ℕ) (a : Operation) (x : ℕ) → slice_get c.ops (stood_at c.k j) ≡ Some a → WasPinned c.w (take c.k c.n.window) (drop c.k c.n.window) (stood_at c.k j) x ⊎ IsNewlyPinned c.w [] (take c.k c.n.window) (stood_at c.k j) x → IsPinned (items_of c.all c.b.hart) (c.done ++ c.b ∷ []) a x
    was j a x e (inl o) = still_pinned (items_of c.all c.b.hart) c.done c.b a x (c.kept.pins (stood_at c.k j) o.old a x (sym (ap (λ ws. slice_get ws (stood_at c.k j)) (take-append-drop c.k c.n.window)) ∙ o.stood) e o.pinned)
    was j a x e (inr n) = newly_pinned c (stood_at c.k j) a x e n

    go : (j : ℕ) (w : Waiting) (a : Operation) (x : ℕ) → slice_get (remove c.ops c.k) j ≡ Some a → w.pinned x ≡ true
        → (o : Option Waiting) → slice_get (pinned_by c.w (take c.k c.n.window) ++ drop c.k c.n.window) (stood_at c.k j) ≡ o → option_map (closed_up c.k) o ≡ Some w → IsPinned (items_of c.all c.b.hart) (c.done ++ c.b ∷ []) a x
    go j w a x f p None g h = absurd (none-some w h)
    go j w a x f p (Some e) g h =
        was j a x (sym (at_remove c.ops c.k j) ∙ f)
        (pin_found c.w [] (take c.k c.n.window) (drop c.k c.n.window) (stood_at c.k j) e x g (ap (λ (v : Waiting). v.pinned x) (same_Some (closed_up c.k e) w h) ∙ p))

-- ---- another hart

pub other_kept : (c : Now) (g : ℕ) (n : Node) (ops : List Operation) → Other c g n ops → Remaining c.model c.all g (c.done ++ c.b ∷ []) c.rest (beside c.w n) ops
other_kept c g n ops o = record {
  own = o.kept.own;
  window = o.kept.window;
  waits = λ k a e. behind_b c g a o.other (o.kept.own k a e).hart_is (o.kept.waits k a e);
  every = λ a m h. o.kept.every a (inr m) h;
  sorted = o.kept.sorted;
  pins = λ k w a x e f p. still_pinned (items_of c.all g) c.done c.b a x (o.kept.pins k w a x e f p);
}
