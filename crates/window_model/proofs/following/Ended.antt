-- What is used of a run to its ends with a legal order.
use Rattle.std.proofs.Common.{◌≡◌, ℕ, zero, suc, ◌+◌, List, [], ◌∷◌, Bool, true, false, Option, Some, None, refl, sym, ap, ◌∙◌, not, ◌||◌, inl, inr, arith, length, subst}
use Rattle.std.specs.Prelude.{nat_eq, is_some, option_and_then, slice_get, slice_index_or}
use Rattle.std.specs.List.{cons_option, list_all}
use Rattle.std.proofs.lemmas.Bool.{false≢true, and_parts, eqb-true}
use Rattle.std.proofs.lemmas.Option.{get_or_from_slice_get, none-some, same_Some}
use Rattle.elf_loader.specs.Image.{Initial}
use Rattle.hart.specs.declared.retired.Retired.{Retired}
use Rattle.hart.specs.declared.state.Hart.{Hart}
use Rattle.hart.specs.Run.{after, at_reset}
use Rattle.machine_types.specs.declared.model.MemoryModel.{MemoryModel}
use Rattle.memory_model.specs.declared.operation.Operation.{Operation}
use Rattle.memory_model.specs.Apart.{IsKeptFor}
use Rattle.memory_model.specs.Items.{Item, item_of, items_from, items_of_harts}
use Rattle.memory_model.specs.Legal.{is_atomic, is_atomic_at, returns_sources}
use Rattle.memory_model.specs.Operations.{touches}
use Rattle.memory_model.specs.Rules.{items_of, paired, preserved}
use Rattle.memory_model.specs.Traces.{IsLegalOrder, IsOrder, image_of, instructions, is_among, is_named, names_in, operation_at, operations_at}
use Rattle.memory_model.proofs.Apart.{atomicity_forms_agree}
use Rattle.memory_model.proofs.Forms.{Ordered-from_in_order}
use Rattle.memory_model.proofs.Lists.{Contains-from_Member, Each-at, Each-from_list_all, Member}
use Rattle.memory_model.proofs.Named.{Pairwise-from_is_distinct, listed_bears, operations_distinct}
use Rattle.memory_model.proofs.Told.{names_find_operations}
use Rattle.rv32_decode.specs.Rows.{decoded}
use Rattle.trace_operations.specs.Placed.{IsPlaced}
use Rattle.trace_recorder.specs.History.{History}
use Rattle.trace_recorder.specs.declared.operation.OpId.{OpId}
use Rattle.window_model.proofs.following.Given.{IsOf, items_placed, operation_is}
use Rattle.window_model.proofs.following.Kept.{IsOwn}
use Rattle.window_model.proofs.following.Last.{all_addresses}
use Rattle.window_model.proofs.following.Whole.{Legal, touched}

-- ---- a hart's list

pub record Listed (h : ℕ) (items : List Item) : Type 0 where
  pub placed : IsPlaced 0 items
  pub own : (k : ℕ) (m : Item) (a : Operation) → slice_get items k ≡ Some m → m.operation ≡ Some a → (a.hart ≡ h) × (a.place ≡ k) × IsOf m.instr a

item_is : (place : ℕ) (hart : Hart) (entries : List Retired) (k : ℕ) (m : Item) (a : Operation) → slice_get (items_from place hart entries) k ≡ Some m → m.operation ≡ Some a → IsOf m.instr a
item_is place hart [] k m a e f = absurd (none-some m e)
item_is place hart (entry ∷ rest) zero m a e f = subst (λ (i : Item). i.operation ≡ Some a → IsOf i.instr a) (same_Some (item_of place hart entry) m e) (operation_is place hart entry (decoded entry.word) a) f
item_is place hart (entry ∷ rest) (suc k) m a e f = item_is (place + 1) (after hart entry) rest k m a e f

listed : (hart : Hart) (entries : List Retired) → Listed hart.id (items_from 0 hart entries)
listed hart entries = record {
  placed = items_placed 0 hart entries;
  own = λ k m a e f.
      let b = listed_bears 0 hart entries k m a e f in
      let there : 0 + k ≡ k = omega arith in
      (b.hart_is, b.place_is ∙ there, item_is 0 hart entries k m a e f);
}

all_listed : (image : Initial) (harts id : ℕ) (lists : List (List Retired)) (h : ℕ) → Listed (id + h) (slice_index_or (items_of_harts image harts id lists) h [])
all_listed image harts id [] h = record { placed = tt; own = λ k m a e f. absurd (none-some m e) }
all_listed image harts id (entries ∷ rest) zero = let same : id ≡ id + 0 = omega arith in subst (λ n. Listed n (items_from 0 (at_reset image id harts) entries)) same (listed (at_reset image id harts) entries)
all_listed image harts id (entries ∷ rest) (suc h) = let same : id + 1 + h ≡ id + suc h = omega arith in subst (λ n. Listed n (slice_index_or (items_of_harts image harts (id + 1) rest) h [])) same (all_listed image harts (id + 1) rest h)

pub lists_of : (t : History) (h : ℕ) → Listed h (items_of (instructions t) h)
lists_of t h = let same : 0 + h ≡ h = omega arith in subst (λ n. Listed n (items_of (instructions t) h)) same (all_listed t.image (length t.entries) 0 t.entries h)

-- ---- names

name_is : (a b : OpId) → is_named a b ≡ true → a ≡ b
name_is a b e =
    let s = and_parts (nat_eq a.hart b.hart) (nat_eq a.place b.place) e in
    ap (λ x. record { hart = x; place = a.place }) (eqb-true a.hart b.hart s.0) ∙ ap (λ y. record { hart = b.hart; place = y }) (eqb-true a.place b.place s.1)

among_is : (names : List OpId) (name : OpId) → is_among names name ≡ true → Member name names
among_is [] name e = absurd (false≢true e)
among_is (x ∷ rest) name e = go (is_named name x) refl e (among_is rest name)
  where
    go : (b : Bool) → is_named name x ≡ b → (b || is_among rest name) ≡ true → (is_among rest name ≡ true → Member name rest) → Member name (x ∷ rest)
    go true f h later = inl (name_is name x f)
    go false f h later = inr (later h)

operation_in : (all : List (List Item)) (names : List OpId) (name : OpId) (a : Operation) → Member name names → operation_at all name ≡ Some a → Member a (operations_at all names)
operation_in all [] name a m e = absurd m
operation_in all (x ∷ rest) name a (inl f) e = subst (λ o. Member a (cons_option o (operations_at all rest))) (sym (ap (operation_at all) (sym f) ∙ e)) (inl refl)
operation_in all (x ∷ rest) name a (inr m) e = go (operation_at all x) (operation_in all rest name a m e)
  where
    go : (o : Option Operation) → Member a (operations_at all rest) → Member a (cons_option o (operations_at all rest))
    go None h = h
    go (Some b) h = inr h

-- the name of an operation of an order
record IsNamed (all : List (List Item)) (names : List OpId) (a : Operation) : Type 0 where
  name : OpId
  named : Member name names
  is : operation_at all name ≡ Some a

name_of : (all : List (List Item)) (names : List OpId) (a : Operation) → Member a (operations_at all names) → IsNamed all names a
name_of all [] a m = absurd m
name_of all (x ∷ rest) a m = go (operation_at all x) refl m (name_of all rest a)
  where
    go : (o : Option Operation) → operation_at all x ≡ o → Member a (cons_option o (operations_at all rest)) → (Member a (operations_at all rest) → IsNamed all rest a) → IsNamed all (x ∷ rest) a
    go None e h later = let n = later h in record { name = n.name; named = inr n.named; is = n.is }
    go (Some b) e (inl f) later = record { name = x; named = inl refl; is = e ∙ ap (λ c. Some c) (sym f) }
    go (Some b) e (inr h) later = let n = later h in record { name = n.name; named = inr n.named; is = n.is }

-- where an operation's instruction stands
record IsFound (all : List (List Item)) (name : OpId) (a : Operation) : Type 0 where
  item : Item
  stands : slice_get (items_of all name.hart) name.place ≡ Some item
  gives : item.operation ≡ Some a

found_at : (all : List (List Item)) (name : OpId) (a : Operation) → operation_at all name ≡ Some a → IsFound all name a
found_at all name a e = lists (slice_get all name.hart) refl e
  where
    lists : (o : Option (List Item)) → slice_get all name.hart ≡ o → option_and_then (λ (m : Item). m.operation) (option_and_then (λ (items : List Item). slice_get items name.place) o) ≡ Some a → IsFound all name a
    lists None f g = absurd (none-some a g)
    lists (Some items) f g = instructions_ (slice_get items name.place) refl g
      where
        there : items_of all name.hart ≡ items
        there = get_or_from_slice_get all name.hart items [] f

        instructions_ : (o : Option Item) → slice_get items name.place ≡ o → option_and_then (λ (m : Item). m.operation) o ≡ Some a → IsFound all name a
        instructions_ None h k = absurd (none-some a k)
        instructions_ (Some m) h k = record { item = m; stands = ap (λ ms. slice_get ms name.place) there ∙ h; gives = k }

found_by : (all : List (List Item)) (h k : ℕ) (m : Item) (a : Operation) → slice_get (items_of all h) k ≡ Some m → m.operation ≡ Some a → operation_at all (record { hart = h; place = k }) ≡ Some a
found_by all h k m a e f = lists (slice_get all h) refl
  where
    lists : (o : Option (List Item)) → slice_get all h ≡ o → option_and_then (λ (i : Item). i.operation) (option_and_then (λ (items : List Item). slice_get items k) o) ≡ Some a
    lists None g = absurd (none-some m (sym (ap (λ ms. slice_get ms k) (missing all h g)) ∙ e))
      where
        missing : (xs : List (List Item)) (i : ℕ) → slice_get xs i ≡ None → slice_index_or xs i [] ≡ []
        missing [] i q = refl
        missing (x ∷ xs) zero q = absurd (none-some x (sym q))
        missing (x ∷ xs) (suc i) q = missing xs i q
    lists (Some items) g = ap (option_and_then (λ (i : Item). i.operation)) (ap (λ ms. slice_get ms k) (sym (get_or_from_slice_get all h items [] g)) ∙ e) ∙ f

-- ---- the order

pub legal_of : (model : MemoryModel) (t : History) → IsOrder t t.performed → IsLegalOrder model t t.performed → Legal model (image_of t) (instructions t) (operations_at (instructions t) t.performed)
legal_of model t o l = record {
  once = operations_distinct t t.performed (Pairwise-from_is_distinct t.performed o.once);
  ordered = Ordered-from_in_order (preserved model all whole) whole l.preserved_order;
  values = λ a m. Each-at (λ b. returns_sources (image_of t) whole b ≡ true) a whole (Each-from_list_all (returns_sources (image_of t) whole) whole l.load_values) m;
  atomic = atomic;
  own = own;
  every = every;
  placed = λ h. (lists_of t h).placed;
}
  where
    all : List (List Item)
    all = instructions t

    whole : List Operation
    whole = operations_at all t.performed

    atomic : (r w : Operation) (x : ℕ) → Member r whole → Member w whole → paired (items_of all r.hart) r w ≡ true → touches x r ≡ true → IsKeptFor whole r w x
    atomic r w x mr mw p tx =
        let one = Each-at (λ c. list_all (λ d. not (paired (items_of all d.hart) d c) || is_atomic whole d c) whole ≡ true) w whole (Each-from_list_all (λ c. list_all (λ d. not (paired (items_of all d.hart) d c) || is_atomic whole d c) whole) whole l.atomicity) mw in
        let two = Each-at (λ d. (not (paired (items_of all d.hart) d w) || is_atomic whole d w) ≡ true) r whole (Each-from_list_all (λ d. not (paired (items_of all d.hart) d w) || is_atomic whole d w) whole one) mr in
        let inside = touched x r tx in
        (atomicity_forms_agree t t.performed r w x o (Contains-from_Member whole w mw)).0
        (all_addresses (is_atomic_at whole r w) r.address r.size x (go (paired (items_of all r.hart) r w) p two) inside.0 inside.1)
      where
        go : (b : Bool) → b ≡ true → (not b || is_atomic whole r w) ≡ true → is_atomic whole r w ≡ true
        go true e f = f
        go false e f = absurd (false≢true e)

    own : (a : Operation) → Member a whole → IsOwn (items_of all a.hart) a.hart (suc a.place) a
    own a m =
        let n = name_of all t.performed a m in
        let f = found_at all n.name a n.is in
        let g = (lists_of t n.name.hart).own n.name.place f.item a f.stands f.gives in
        record {
          item = f.item;
          stands = ap (λ h. slice_get (items_of all h) a.place) g.0 ∙ ap (slice_get (items_of all n.name.hart)) g.1 ∙ f.stands;
          gives = f.gives;
          hart_is = refl;
          before = omega arith;
          is = g.2;
        }

    every : (h k : ℕ) (m : Item) (a : Operation) → slice_get (items_of all h) k ≡ Some m → m.operation ≡ Some a → Member a whole × (a.hart ≡ h) × (a.place ≡ k)
    every h k m a e f =
        let name : OpId = record { hart = h; place = k } in
        let at = found_by all h k m a e f in
        let known = among_is (names_in t) name (names_find_operations t name ∙ ap is_some at) in
        let listed_ = Each-at (λ n. is_among t.performed n ≡ true) name (names_in t) (Each-from_list_all (is_among t.performed) (names_in t) o.every) known in
        let g = (lists_of t h).own k m a e f in
        (operation_in all t.performed name a (among_is t.performed name listed_) at, g.0, g.1)
