-- An order that has each operation of a trace once has that of each instruction.
use Rattle.std.proofs.Common.{◌≡◌, ℕ, zero, suc, ◌≤◌, List, [], ◌∷◌, Bool, true, false, Option, Some, None, refl, sym, subst, ap, ◌∙◌, ◌&&◌, ◌||◌, inl, inr, arith, length}
use Rattle.std.specs.Prelude.{is_some, nat_eq, option_and_then, slice_get}
use Rattle.std.specs.List.{cons_option, list_all, list_any}
use Rattle.std.proofs.lemmas.Bool.{and_parts, eqb-true}
use Rattle.std.proofs.lemmas.List.{get_or_past}
use Rattle.std.proofs.lemmas.Option.{get_or_from_slice_get, none-some, same_Some}
use Rattle.memory_model.specs.declared.operation.Operation.{Operation}
use Rattle.memory_model.specs.History.{History}
use Rattle.memory_model.specs.OpId.{OpId}
use Rattle.memory_model.specs.Items.{Item}
use Rattle.memory_model.specs.Rules.{items_of}
use Rattle.memory_model.specs.Traces.{has_each_operation_once, instructions, is_among, is_distinct, is_named, names_in, operation_at, operations_at}
use Rattle.memory_model.proofs.Lists.{Member}
use Rattle.memory_model.proofs.Told.{names_find_operations}
use Rattle.rvwmo_order.specs.Bounds.{HasEach}
use Rattle.rvwmo_order.specs.Ranks.{AreDistinctOperations}
use Rattle.rvwmo_order.proofs.Bounded.{three}
use Rattle.rvwmo_order.proofs.Bytes.{member_in}

named_parts : (n m : OpId) → is_named n m ≡ true → (n.hart ≡ m.hart) × (n.place ≡ m.place)
named_parts n m e = let p = and_parts (nat_eq n.hart m.hart) (nat_eq n.place m.place) e in (eqb-true n.hart m.hart p.0, eqb-true n.place m.place p.1)

among_all : (names order : List OpId) (name : OpId) → list_all (is_among order) names ≡ true → is_among names name ≡ true → is_among order name ≡ true
among_all [] order name all e = cc
among_all (n ∷ rest) order name all e = go (is_named name n) refl e (λ h. among_all rest order name (and_parts (is_among order n) (list_all (is_among order) rest) all).1 h)
  where
    parts : (is_among order n ≡ true) × (list_all (is_among order) rest ≡ true)
    parts = and_parts (is_among order n) (list_all (is_among order) rest) all

    go : (b : Bool) → is_named name n ≡ b → (b || is_among rest name) ≡ true → (is_among rest name ≡ true → is_among order name ≡ true) → is_among order name ≡ true
    go true f h ih =
        let p = named_parts name n f in
        ap (λ (k : ℕ). list_any (λ (o : OpId). nat_eq k o.hart && nat_eq name.place o.place) order) p.0
        ∙ (ap (λ (k : ℕ). list_any (λ (o : OpId). nat_eq n.hart o.hart && nat_eq k o.place) order) p.1 ∙ parts.0)
    go false f h ih = ih h

found_member : (harts : List (List Item)) (order : List OpId) (name : OpId) (a : Operation) → is_among order name ≡ true → operation_at harts name ≡ Some a → Member a (operations_at harts order)
found_member harts [] name a e f = absurd (no e)
  where
    no : false ≡ true → ⊥
    no k = cc
found_member harts (n ∷ rest) name a e f = go (is_named name n) refl e (λ h. found_member harts rest name a h f)
  where
    by : (o : Option Operation) → operation_at harts n ≡ o → Member a (operations_at harts rest) → Member a (cons_option o (operations_at harts rest))
    by None g m = m
    by (Some b) g m = inr m

    first : (o : Option Operation) → o ≡ Some a → Member a (cons_option o (operations_at harts rest))
    first None g = absurd (none-some a g)
    first (Some b) g = inl (sym (same_Some b a g))

    go : (b : Bool) → is_named name n ≡ b → (b || is_among rest name) ≡ true → (is_among rest name ≡ true → Member a (operations_at harts rest)) → Member a (cons_option (operation_at harts n) (operations_at harts rest))
    go true g h ih =
        let p = named_parts name n g in
        let it : operation_at harts name ≡ operation_at harts n =
        ap (λ (k : ℕ). option_and_then (λ (m : Item). m.operation) (option_and_then (λ (items : List Item). slice_get items name.place) (slice_get harts k))) p.0
        ∙ ap (λ (k : ℕ). option_and_then (λ (m : Item). m.operation) (option_and_then (λ (items : List Item). slice_get items k) (slice_get harts n.hart))) p.1 in
        first (operation_at harts n) (sym it ∙ f)
    go false g h ih = by (operation_at harts n) refl (ih h)

listed_at : (harts : List (List Item)) (hart place : ℕ) (m : Item) → slice_get (items_of harts hart) place ≡ Some m → option_and_then (λ (items : List Item). slice_get items place) (slice_get harts hart) ≡ Some m
listed_at harts hart place m e = go (slice_get harts hart) refl
  where
    go : (o : Option (List Item)) → slice_get harts hart ≡ o → option_and_then (λ (items : List Item). slice_get items place) o ≡ Some m
    go None f = absurd (none-some m (ap (λ (is : List Item). slice_get is place) (sym (get_or_past harts hart [] (beyond harts hart f))) ∙ e))
      where
        beyond : (xs : List (List Item)) (k : ℕ) → slice_get xs k ≡ None → length xs ≤ k
        beyond [] k g = omega arith
        beyond (x ∷ xs) zero g = absurd (none-some x (sym g))
        beyond (x ∷ xs) (suc k) g = let l = beyond xs k g in omega (arith, l)
    go (Some items) f = ap (λ (is : List Item). slice_get is place) (sym (get_or_from_slice_get harts hart items [] f)) ∙ e

pub has_each : (t : History) (order : List OpId) → has_each_operation_once t order ≡ true → AreDistinctOperations (operations_at (instructions t) order) → HasEach (instructions t) (operations_at (instructions t) order)
has_each t order tested d hart place m a there gives =
    let name : OpId = record { hart = hart; place = place } in
    let at : operation_at (instructions t) name ≡ Some a = ap (option_and_then (λ (i : Item). i.operation)) (listed_at (instructions t) hart place m there) ∙ gives in
    let named : is_among (names_in t) name ≡ true = names_find_operations t name ∙ ap is_some at in
    let all = (three (list_all (is_among (names_in t)) order) (is_distinct order) (list_all (is_among order) (names_in t)) tested).2 in
    member_in (operations_at (instructions t) order) a d (found_member (instructions t) order name a (among_all (names_in t) order name all named) at)
