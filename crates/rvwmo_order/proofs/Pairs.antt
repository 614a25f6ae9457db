-- An SC is paired with no LR but the one at the place of the last LR or SC before it.
use Rattle.std.proofs.Common.{◌≡◌, ℕ, zero, suc, ◌+◌, ◌<◌, ◌≤◌, List, [], ◌∷◌, Bool, true, false, Some, None, refl, cond, sym, ap, ◌∙◌, subst, not, ◌&&◌, ◌||◌, ⊎_elim, arith, find, length, min}
use Rattle.std.specs.Prelude.{filter, nat_eq, nat_lt, option_and_then, slice_get}
use Rattle.std.specs.List.{AllByRecursion, list_any}
use Rattle.std.proofs.lemmas.Bool.{and_from, and_parts, cases_lt, eq-eqb, eqb-true, lt-ltb, ltb-true, true≢false}
use Rattle.std.proofs.lemmas.Option.{none-some, same_Some, slice_get_past}
use Rattle.memory_model.specs.declared.operation.Operation.{Operation}
use Rattle.memory_model.specs.Dependencies.{between}
use Rattle.memory_model.specs.Items.{Item}
use Rattle.memory_model.specs.Legal.{is_atomic}
use Rattle.memory_model.specs.Operations.{is_lr, is_sc, precedes, same}
use Rattle.memory_model.specs.Order.{position_in}
use Rattle.memory_model.specs.Rules.{is_lr_or_sc, items_of, paired}
use Rattle.memory_model.proofs.Forms.{place_head, place_tail}
use Rattle.rvwmo_order.specs.Bounds.{GivesEach, IsGiven}
use Rattle.rvwmo_order.specs.Ranks.{AreDistinctOperations}
use Rattle.trace_operations.specs.Placed.{IsPlaced}
use Rattle.rvwmo_order.specs.Scans.{is_broken_pair}
use Rattle.rvwmo_order.proofs.Filled.{placed_there}

any_filtered : {X : Type 0} (p q : X → Bool) (xs : List X) (k : ℕ) (m : X) → slice_get xs k ≡ Some m → q m ≡ true → p m ≡ true → list_any p (filter q xs) ≡ true
any_filtered p q [] k m e f g = absurd (none-some m e)
any_filtered p q (x ∷ rest) zero m e f g = go (q x) (ap q (same_Some x m e) ∙ f)
  where
    go : (b : Bool) → b ≡ true → list_any p (cond b (x ∷ filter q rest) (filter q rest)) ≡ true
    go true h = ap (λ (c : Bool). c || list_any p (filter q rest)) (ap p (same_Some x m e) ∙ g)
    go false h = cc
any_filtered p q (x ∷ rest) (suc k) m e f g = go (q x) (any_filtered p q rest k m e f g)
  where
    either : (b : Bool) → (b || true) ≡ true
    either true = refl
    either false = refl

    go : (b : Bool) → list_any p (filter q rest) ≡ true → list_any p (cond b (x ∷ filter q rest) (filter q rest)) ≡ true
    go true ih = ap (λ (c : Bool). p x || c) ih ∙ either (p x)
    go false ih = ih

none_of : (p r c n : Bool) → n ≡ true → (p && r && c && not n) ≡ false
none_of p r c false e = cc
none_of true true true true e = refl
none_of true true false true e = refl
none_of true false c true e = refl
none_of false r c true e = refl

too_early : (items : List Item) (r w : Operation) (place : ℕ) (m : Item) → IsPlaced 0 items → slice_get items place ≡ Some m → is_lr_or_sc m.instr ≡ true → place < w.place → r.place < place → paired items r w ≡ false
too_early items r w place m placed there is l k =
    let at = placed_there items place m placed there in
    let inside = and_from _ _ (lt-ltb r.place m.place (omega (arith, at, k))) (lt-ltb m.place w.place (omega (arith, at, l))) in
    none_of (precedes r w) (is_lr r.kind) (is_sc w.kind) (list_any (λ (x : Item). is_lr_or_sc x.instr) (between items r w)) (any_filtered (λ (x : Item). is_lr_or_sc x.instr) (λ (x : Item). nat_lt r.place x.place && nat_lt x.place w.place) items place m there inside is)

same_both : (q t r : Operation) → same q t ≡ true → same q r ≡ true → same t r ≡ true
same_both q t r e f =
    let a = and_parts (nat_eq q.hart t.hart) (nat_eq q.place t.place) e in
    let b = and_parts (nat_eq q.hart r.hart) (nat_eq q.place r.place) f in
    and_from _ _ (eq-eqb t.hart r.hart (sym (eqb-true q.hart t.hart a.0) ∙ eqb-true q.hart r.hart b.0)) (eq-eqb t.place r.place (sym (eqb-true q.place t.place a.1) ∙ eqb-true q.place r.place b.1))

-- nothing from a place on up to an SC is an LR or an SC
abbrev pub NoneFrom : List Item → ℕ → ℕ → Type 0
NoneFrom items low high = (k : ℕ) (m : Item) → low ≤ k → k < high → slice_get items k ≡ Some m → is_lr_or_sc m.instr ≡ false

paired_parts : (items : List Item) (r w : Operation) → paired items r w ≡ true → (precedes r w ≡ true) × (is_lr r.kind ≡ true)
paired_parts items r w e =
    let three = (and_parts (precedes r w && is_lr r.kind && is_sc w.kind) (not (list_any (λ (x : Item). is_lr_or_sc x.instr) (between items r w))) e).0 in
    and_parts (precedes r w) (is_lr r.kind) (and_parts (precedes r w && is_lr r.kind) (is_sc w.kind) three).0

pub not_from : (items : List Item) (low : ℕ) (r w : Operation) → NoneFrom items low w.place → IsGiven items r → low ≤ r.place → paired items r w ≡ true → ⊥
not_from items low r w none given l e =
    let parts = paired_parts items r w e in
    let before = ltb-true r.place w.place (and_parts (nat_eq r.hart w.hart) (nat_lt r.place w.place) parts.0).1 in
    true≢false (sym (given.of_lr parts.1) ∙ none r.place given.item l before given.there)

pub only_there : (items : List Item) (place : ℕ) (m : Item) (r w : Operation) → IsPlaced 0 items → NoneFrom items (place + 1) w.place → slice_get items place ≡ Some m → is_lr_or_sc m.instr ≡ true → place < w.place → IsGiven items r → paired items r w ≡ true → r.place ≡ place
only_there items place m r w placed none there is l given e =
    ⊎_elim (λ k. absurd (true≢false (sym e ∙ too_early items r w place m placed there is l k)))
    (λ k. ⊎_elim (λ j. absurd (not_from items (place + 1) r w none given (omega (arith, j)) e)) (λ j. omega (arith, j, k)) (cases_lt place r.place))
    (cases_lt r.place place)

-- none from the end of the list on, or from the SC on, whichever stands before the other
pub none_from_end : (items : List Item) (low count high : ℕ) → count ≡ length items → low ≡ min high count → NoneFrom items low high
none_from_end items low count high c is k m l j e = absurd (none-some m (sym (slice_get_past items k (omega (arith, c, is, l, j))) ∙ e))

pub none_down : (items : List Item) (place high : ℕ) (m : Item) → slice_get items place ≡ Some m → is_lr_or_sc m.instr ≡ false → NoneFrom items (place + 1) high → NoneFrom items place high
none_down items place high m there is_not none k n l j e =
    ⊎_elim (λ b. none k n (omega (arith, b)) j e)
    (λ b. let at : k ≡ place = omega (arith, b, l) in
    ap (λ (i : Item). is_lr_or_sc i.instr) (sym (same_Some m n (sym there ∙ (sym (ap (slice_get items) at) ∙ e)))) ∙ is_not)
    (cases_lt place k)

-- ---- so only the operation there can be in a broken pair with the SC

-- an operation of the hart of w that stands at a place
abbrev pub named_at : Operation → ℕ → Operation
named_at w place = record { hart = w.hart; place = place; kind = w.kind; address = w.address; size = w.size; read = w.read; written = w.written; aq = w.aq; rl = w.rl }

module _ (harts : List (List Item)) (order : List Operation) (w : Operation) (place : ℕ) (only : (r : Operation) → IsGiven (items_of harts w.hart) r → paired (items_of harts w.hart) r w ≡ true → r.place ≡ place) where
  abbrev broken : Operation → Bool
  broken r = is_broken_pair harts order r w

  is_named : (r : Operation) → IsGiven (items_of harts r.hart) r → broken r ≡ true → same (named_at w place) r ≡ true
  is_named r given b =
      let p = (and_parts (paired (items_of harts r.hart) r w) (not (is_atomic order r w)) b).0 in
      let hart : r.hart ≡ w.hart = eqb-true r.hart w.hart (and_parts (nat_eq r.hart w.hart) (nat_lt r.place w.place) (paired_parts (items_of harts r.hart) r w p).0).0 in
      let at : r.place ≡ place = only r (subst (λ (n : ℕ). IsGiven (items_of harts n) r) hart given) (ap (λ (n : ℕ). paired (items_of harts n) r w) (sym hart) ∙ p) in
      and_from _ _ (eq-eqb w.hart r.hart (sym hart)) (eq-eqb place r.place (sym at))

  none_left : (t : Operation) (xs : List Operation) → same (named_at w place) t ≡ true → GivesEach harts xs → AllByRecursion (λ (r : Operation). same t r ≡ false) xs → find broken xs ≡ None
  none_left t [] e given apart = refl
  none_left t (r ∷ rest) e given apart = go (broken r) refl (none_left t rest e given.1 apart.1)
    where
      go : (b : Bool) → broken r ≡ b → find broken rest ≡ None → cond b (Some r) (find broken rest) ≡ None
      go true f ih = absurd (true≢false (sym (same_both (named_at w place) t r e (is_named r given.0 f)) ∙ apart.0))
      go false f ih = ih

  pub found_there : (xs : List Operation) → GivesEach harts xs → AreDistinctOperations xs → find broken xs ≡ option_and_then (λ (r : Operation). cond (broken r) (Some r) None) (slice_get xs (position_in xs (named_at w place)))
  found_there [] given apart = refl
  found_there (t ∷ rest) given apart = go (same (named_at w place) t) refl (found_there rest given.1 apart.1)
    where
      here : same (named_at w place) t ≡ true → (b : Bool) → cond b (Some t) (find broken rest) ≡ cond b (Some t) None
      here e true = refl
      here e false = none_left t rest e given.1 apart.0

      passed : same (named_at w place) t ≡ false → (b : Bool) → broken t ≡ b → cond b (Some t) (find broken rest) ≡ find broken rest
      passed e true f = absurd (true≢false (sym (is_named t given.0 f) ∙ e))
      passed e false f = refl

      go : (c : Bool) → same (named_at w place) t ≡ c → find broken rest ≡ option_and_then (λ (r : Operation). cond (broken r) (Some r) None) (slice_get rest (position_in rest (named_at w place)))
          → cond (broken t) (Some t) (find broken rest) ≡ option_and_then (λ (r : Operation). cond (broken r) (Some r) None) (slice_get (t ∷ rest) (position_in (t ∷ rest) (named_at w place)))
      go true e ih = rw (place_head (named_at w place) t rest e) (here e (broken t))
      go false e ih =
          let next : 1 + position_in rest (named_at w place) ≡ suc (position_in rest (named_at w place)) = omega arith in
          rw (place_tail (named_at w place) t rest e, next) (passed e (broken t) refl ∙ ih)
