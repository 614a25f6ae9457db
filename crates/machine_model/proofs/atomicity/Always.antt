-- In every state that a list of events leads to, the completed order keeps the atomicity axiom; with that it is legal, and the headline holds.
use Rattle.std.proofs.Common.{◌≡◌, ℕ, ◌+◌, ◌<◌, List, [], ◌∷◌, ◌++◌, Bool, true, false, Option, Some, None, refl, sym, ap, ◌∙◌, subst, not, ◌||◌, arith, length}
use Rattle.std.specs.List.{AllByRecursion as Each, filter, list_all, list_any}
use Rattle.std.proofs.lemmas.Bool.{false≢true, and_from, le-leb, lt-ltb}
use Rattle.std.proofs.lemmas.List.{get_or-replicate}
use Rattle.elf_loader.specs.Image.{Initial}
use Rattle.hart.specs.Run.{at_reset}
use Rattle.machine_types.specs.declared.config.Config.{Config}
use Rattle.machine_types.specs.declared.event.Event.{Event}
use Rattle.machine_model.specs.Changing.{acted}
use Rattle.machine_model.specs.Events.{happens, after_events, hart_of, counted}
use Rattle.machine_model.specs.HeadlineLaws.{AtomicityAlways}
use Rattle.machine_model.specs.Laws.{Headline, LegalAlways}
use Rattle.machine_model.specs.Views.{Node, State, node_at, opening}
use Rattle.machine_model.proofs.atomicity.Kept.{Atomic, IsClear, IsPair, pair_parts}
use Rattle.machine_model.proofs.atomicity.Nodes.{less_still}
use Rattle.machine_model.proofs.atomicity.Order.{none_left, pair_more}
use Rattle.machine_model.proofs.atomicity.Steps.{AllAtomic, acted_atomic, atomic_still}
use Rattle.machine_model.proofs.bytes.Always.{coherent_always, load_values_always}
use Rattle.machine_model.proofs.order.Buffers.{still}
use Rattle.machine_model.proofs.order.Events.{fresh, happens_kept, opening_kept, opening_stand, order_kept, rests_fit}
use Rattle.machine_model.proofs.order.Moves.{OrderKept}
use Rattle.machine_model.proofs.order.Returns.{all_range, sees_part, tail_of}
use Rattle.machine_model.proofs.order.Traces.{done, items_at, items_of-at}
use Rattle.machine_model.proofs.order.Values.{members, theirs}
use Rattle.machine_model.proofs.order.Whole.{HartOf, completed_operations, done_inside, each_index, missing, order_always, part_is, preserved_always, waiting_at, whole_tail}
use Rattle.machine_model.proofs.runs.Runs.{AllStand, happens_stand, runs_always}
use Rattle.machine_model.proofs.coherence.WorldEvents.{happens_fits}
use Rattle.machine_model.proofs.coherence.WorldOpening.{opening_fits}
use Rattle.machine_model.proofs.coherence.WorldSteps.{Fits}
use Rattle.memory_model.specs.declared.operation.Kind.TheVariants.{Store}
use Rattle.memory_model.specs.declared.operation.Operation.{Operation}
use Rattle.memory_model.specs.Items.{Item, items_from}
use Rattle.memory_model.specs.Legal.{is_atomic, is_atomic_at, keeps_atomicity}
use Rattle.memory_model.specs.Operations.{is_sc, is_lr, same, touches}
use Rattle.memory_model.specs.Rules.{items_of, paired}
use Rattle.memory_model.specs.Traces.{completed, instructions, names_in, operations_at}
use Rattle.memory_model.proofs.Lists.{Each-append, Each-both, Each-weaker, filter_none, list_all-from_Each}
use Rattle.machine_model.proofs.order.Lists.{Each-always}
use Rattle.trace_recorder.specs.History.{entries_of}
use Rattle.machine_model.proofs.Events.{by_event}

-- ---- events

happens_atomic : (s : State) (e : Event) → AllStand s → Fits s → OrderKept s → AllAtomic s → AllAtomic (happens s e)
happens_atomic s e st fit k a =
    by_event AllAtomic s e a (λ x m.
    let next = acted (hart_of e) x s in
    atomic_still next (counted next) (still next (counted next) refl refl refl) (less_still next (counted next) refl refl refl)
    (acted_atomic (hart_of e) x s (subst (λ n. hart_of e < n) st.nodes m.in_h) st (rests_fit s e x m.rests) fit k a))

events_atomic : (events : List Event) (s : State) → AllStand s → Fits s → OrderKept s → AllAtomic s → AllAtomic (after_events s events)
events_atomic [] s st fit k a = a
events_atomic (e ∷ events) s st fit k a = events_atomic events (happens s e) (happens_stand s e st) (happens_fits s e fit) (happens_kept s e st k) (happens_atomic s e st fit k a)

-- ---- from reset

nothing_atomic : (h : ℕ) → Atomic h [] None []
nothing_atomic h = record { marked = tt; clear = tt; pairs = tt; reserves = λ word e. absurd (none_not word e) }
  where
    none_not : (word : ℕ) → None ≡ Some word → ⊥
    none_not word e = cc

opening_atomic : (image : Initial) (config : Config) → AllAtomic (opening image config)
opening_atomic image config = record { each = λ h l. at h l }
  where
    at : (h : ℕ) → h < config.harts → Atomic h (items_at (opening image config).trace h) (node_at (opening image config) h).reserved []
    at h l =
        subst (λ (is : List Item). Atomic h is (node_at (opening image config) h).reserved []) (sym (ap (items_from 0 (at_reset image h (length (opening image config).trace.entries))) (get_or-replicate config.harts h [] [] l)))
        (subst (λ (o : Option ℕ). Atomic h [] o []) (sym (ap (λ (n : Node). n.reserved) (fresh image config h l))) (nothing_atomic h))

-- ---- the completed order

cell : (items : List Item) (order : List Operation) (r w : Operation) → (paired items r w ≡ true → (x : ℕ) → touches x r ≡ true → is_atomic_at order r w x ≡ true) → (not (paired items r w) || is_atomic order r w) ≡ true
cell items order r w f = go (paired items r w) refl
  where
    go : (b : Bool) → paired items r w ≡ b → (not b || is_atomic order r w) ≡ true
    go false e = refl
    go true e = all_range (is_atomic_at order r w) r.address r.size (λ x l m. f e x (and_from _ _ (le-leb r.address x l) (lt-ltb x (r.address + r.size) m)))

-- of what isn't performed, an LR sees nothing
tail_none : (s : State) (st : AllStand s) (o : OrderKept s) (r : Operation) (l : r.hart < s.views.config.harts) (x : ℕ) → Each (λ t. theirs r x t ≡ false) (waiting_at (o.each r.hart l)) → Each (λ t. theirs r x t ≡ false) (tail_of s)
tail_none s st o r l x k =
    let c = st.entries in
    let part = ap (filter (theirs r x)) (part_is s o r.hart l (entries_of s.trace r.hart) refl) in
    let whole = sees_part s st o r x s.trace.entries 0 r.hart (λ j. ap (entries_of s.trace) (omega arith)) (omega (arith, c)) (omega (arith, c, l)) (omega arith) in
    none_left (theirs r x) (tail_of s) (sym whole ∙ (part ∙ filter_none (theirs r x) (waiting_at (o.each r.hart l)) k))

-- a pair of performed operations
done_cell : (s : State) (st : AllStand s) (o : OrderKept s) (r w : Operation) (l : r.hart < s.views.config.harts) → list_any (λ t. same t r) (done s.trace) ≡ true → IsClear r.hart (items_at s.trace r.hart) (done s.trace) r → IsPair r.hart (items_at s.trace r.hart) (done s.trace) r w
    → paired (items_of (instructions s.trace) r.hart) r w ≡ true → (x : ℕ) → touches x r ≡ true → is_atomic_at (done s.trace ++ tail_of s) r w x ≡ true
done_cell s st o r w l m clear pair p x t =
    let q : paired (items_at s.trace r.hart) r w ≡ true = subst (λ is. paired is r w ≡ true) (items_of-at s.trace r.hart) p in
    let reads = (pair_parts (items_at s.trace r.hart) r w q).reserves in
    pair_more (done s.trace) (tail_of s) r w x m (tail_none s st o r l x (subst (Each (λ u. theirs r x u ≡ false)) (o.each r.hart l).split.waits (clear.clear refl reads x t))) (pair.atomic refl q x t)

abbrev Cell : State → Operation → Operation → Type 0
Cell s w r = (not (paired (items_of (instructions s.trace) r.hart) r w) || is_atomic (done s.trace ++ tail_of s) r w) ≡ true

-- what is known of each performed operation
record IsDone (s : State) (r : Operation) : Type 0 where
  pub inside : r.hart < s.views.config.harts
  pub among : list_any (λ t. same t r) (done s.trace) ≡ true
  pub clear : (i : HartOf s) → IsClear i.0 (items_at s.trace i.0) (done s.trace) r

each_done : (s : State) → AllStand s → OrderKept s → AllAtomic s → Each (IsDone s) (done s.trace)
each_done s st o a =
    Each-weaker (λ r. (r.hart < length s.trace.entries) × ((list_any (λ t. same t r) (done s.trace) ≡ true) × ((i : HartOf s) → IsClear i.0 (items_at s.trace i.0) (done s.trace) r))) (IsDone s)
    (λ r z. let l = z.0 in record { inside = subst (λ n. r.hart < n) st.entries l; among = z.1.0; clear = z.1.1 }) (done s.trace)
    (Each-both (λ r. r.hart < length s.trace.entries) (λ r. (list_any (λ t. same t r) (done s.trace) ≡ true) × ((i : HartOf s) → IsClear i.0 (items_at s.trace i.0) (done s.trace) r)) (done s.trace) (done_inside s.trace s.trace.performed o.resolved)
    (Each-both (λ r. list_any (λ t. same t r) (done s.trace) ≡ true) (λ r. (i : HartOf s) → IsClear i.0 (items_at s.trace i.0) (done s.trace) r) (done s.trace) (members (done s.trace))
    (each_index (λ (i : HartOf s) r. IsClear i.0 (items_at s.trace i.0) (done s.trace) r) (done s.trace) (λ i. (a.each i.0 i.1).clear))))

atomicity : (s : State) → AllStand s → OrderKept s → AllAtomic s → keeps_atomicity (instructions s.trace) (operations_at (instructions s.trace) (completed s.trace)) ≡ true
atomicity s st o a =
    let order = done s.trace ++ tail_of s in
    let harts = instructions s.trace in
    let stores = (whole_tail s st o order).stores in
    let behind : (w : Operation) → Each (Cell s w) (tail_of s) = λ w. Each-weaker (λ r. r.kind ≡ Store) (Cell s w) (λ r e. cell (items_of harts r.hart) order r w (λ p x t. absurd (false≢true (sym (ap is_lr e) ∙ (pair_parts (items_of harts r.hart) r w p).reserves)))) (tail_of s) stores in
    let whole : (w : Operation) → Each (Cell s w) (done s.trace) → list_all (λ r. not (paired (items_of harts r.hart) r w) || is_atomic order r w) order ≡ true =
    λ w f. list_all-from_Each (λ r. not (paired (items_of harts r.hart) r w) || is_atomic order r w) order (Each-append (Cell s w) (done s.trace) (tail_of s) f (behind w)) in
    subst (λ xs. keeps_atomicity harts xs ≡ true) (sym (completed_operations s.trace))
    (list_all-from_Each (λ w. list_all (λ r. not (paired (items_of harts r.hart) r w) || is_atomic order r w) order) order
    (Each-append (λ w. list_all (λ r. not (paired (items_of harts r.hart) r w) || is_atomic order r w) order ≡ true) (done s.trace) (tail_of s)
    (Each-weaker (λ w. (i : HartOf s) → Each (λ r. IsPair i.0 (items_at s.trace i.0) (done s.trace) r w) (done s.trace)) (λ w. list_all (λ r. not (paired (items_of harts r.hart) r w) || is_atomic order r w) order ≡ true)
    (λ w f. whole w (Each-weaker (λ r. IsDone s r × ((i : HartOf s) → IsPair i.0 (items_at s.trace i.0) (done s.trace) r w)) (Cell s w)
    (λ r z. let l = z.0.inside in cell (items_of harts r.hart) order r w (done_cell s st o r w l z.0.among (z.0.clear (r.hart, l)) (z.1 (r.hart, l))))
    (done s.trace) (Each-both (IsDone s) (λ r. (i : HartOf s) → IsPair i.0 (items_at s.trace i.0) (done s.trace) r w) (done s.trace) (each_done s st o a) (each_index (λ (i : HartOf s) r. IsPair i.0 (items_at s.trace i.0) (done s.trace) r w) (done s.trace) f))))
    (done s.trace) (each_index (λ (i : HartOf s) w. Each (λ r. IsPair i.0 (items_at s.trace i.0) (done s.trace) r w) (done s.trace)) (done s.trace) (λ i. (a.each i.0 i.1).pairs)))
    (Each-weaker (λ w. w.kind ≡ Store) (λ w. list_all (λ r. not (paired (items_of harts r.hart) r w) || is_atomic order r w) order ≡ true)
    (λ w e. list_all-from_Each (λ r. not (paired (items_of harts r.hart) r w) || is_atomic order r w) order (Each-always (Cell s w) (λ r. cell (items_of harts r.hart) order r w (λ p x t. absurd (false≢true (sym (ap is_sc e) ∙ (pair_parts (items_of harts r.hart) r w p).conditional)))) order))
    (tail_of s) stores)))

-- ---- the laws

pub atomicity_always : AtomicityAlways
atomicity_always image config events is =
    let start = opening image config in
    let k = order_kept image config events in
    atomicity (after_events start events) k.0 k.1 (events_atomic events start (opening_stand image config) (opening_fits image config is.legal_size.whole_pages) (opening_kept image config) (opening_atomic image config))

pub legal_always : LegalAlways
legal_always image config events is =
    let s = after_events (opening image config) events in
    record {
      order = order_always image config events is;
      begins = (filter (missing s.trace) (names_in s.trace), refl);
      legal = record { preserved_order = preserved_always image config events is; load_values = load_values_always image config events is; atomicity = atomicity_always image config events is };
    }

pub headline : Headline
headline image config events is = record { coherent = coherent_always image config events is; runs = runs_always image config events is; order = legal_always image config events is }
