-- Where in every state each copy holds what was performed, each load returned its sources' bytes in the completed order.
use Rattle.std.proofs.Common.{◌≡◌, ◌≢◌, ℕ, zero, suc, ◌+◌, ◌<◌, ◌≤◌, List, [], ◌∷◌, ◌++◌, Bool, true, false, refl, sym, ap, ◌∙◌, subst, not, ◌||◌, append-nil, arith, length, slice_index_or}
use Rattle.std.specs.Prelude.{nat_eq, IsTrue}
use Rattle.std.specs.List.{AllByRecursion as Each, filter, list_all, range_with_len}
use Rattle.std.proofs.lemmas.Bool.{and_from, and_right, eq-eqb, le-leb, lt-ltb}
use Rattle.std.proofs.lemmas.List.Elements.{filter-append, filter_map-append}
use Rattle.elf_loader.specs.Image.{Initial, byte_at as image_byte}
use Rattle.hart.specs.declared.retired.Retired.{Retired}
use Rattle.machine_types.specs.declared.event.Event.{Event}
use Rattle.machine_model.specs.Changing.{acted}
use Rattle.machine_model.specs.Events.{happens, after_events, hart_of, counted}
use Rattle.machine_model.specs.Laws.{Always}
use Rattle.machine_model.specs.Views.{State, node_at, opening}
use Rattle.machine_model.proofs.Growth.{happens_follows}
use Rattle.machine_model.proofs.runs.Runs.{AllStand, happens_stand}
use Rattle.machine_model.proofs.order.Buffers.{still}
use Rattle.machine_model.proofs.order.Events.{rests_fit, happens_kept, opening_stand, opening_kept, order_kept}
use Rattle.machine_model.proofs.order.Kept.{IsWaiting}
use Rattle.machine_model.proofs.order.Lists.{Each-always}
use Rattle.machine_model.proofs.order.Loads.{HoldsLast}
use Rattle.machine_model.proofs.order.Moves.{OrderKept}
use Rattle.machine_model.proofs.order.Reads.{ValuesKept, values_still, acted_values}
use Rattle.machine_model.proofs.order.Rules.{precedes_not}
use Rattle.machine_model.proofs.order.Traces.{done}
use Rattle.machine_model.proofs.order.Values.{IsRight, theirs, rights_same}
use Rattle.machine_model.proofs.order.Whole.{missing, waiting_at, part_is, tail_free, whole_tail, done_inside, completed_operations}
use Rattle.memory_model.specs.declared.operation.Kind.TheVariants.{Store}
use Rattle.memory_model.specs.declared.operation.Operation.{Operation}
use Rattle.memory_model.specs.Legal.{keeps_load_values, returns_sources}
use Rattle.memory_model.specs.Operations.{addresses_of, reads, read_at, stores_to}
use Rattle.memory_model.specs.Order.{byte_from, source}
use Rattle.memory_model.specs.Traces.{completed, image_of, instructions, last_performed, names_from, names_of_harts, names_in, operation_at, operations_at}
use Rattle.memory_model.proofs.Lists.{Each-append, Each-weaker, Each-both, filter_none, list_all-from_Each}
use Rattle.trace_recorder.specs.History.{entries_of}
use Rattle.machine_model.proofs.Events.{by_event}

-- ---- events

-- each copy of the machine holds what was performed
abbrev pub AllHold : State → Type 0
AllHold s = (h : ℕ) → h < s.views.config.harts → HoldsLast (last_performed s.trace) (node_at s h)

abbrev SmallImage : State → Type 0
SmallImage s = (y : ℕ) → image_of s.trace y < 256

happens_values : (s : State) (e : Event) → AllStand s → SmallImage s → AllHold s → OrderKept s → ValuesKept s → ValuesKept (happens s e)
happens_values s e st small holds k v =
    by_event ValuesKept s e v (λ a m.
    let l = subst (λ n. hart_of e < n) st.nodes m.in_h in
    let next = acted (hart_of e) a s in
    values_still next (counted next) (still next (counted next) refl refl refl) (acted_values (hart_of e) a s l st (rests_fit s e a m.rests) small (holds (hart_of e) l) k v))

events_values : (events : List Event) (s : State) → AllStand s → SmallImage s → ((later : List Event) → AllHold (after_events s later)) → OrderKept s → ValuesKept s → ValuesKept (after_events s events)
events_values [] s st small holds k v = v
events_values (e ∷ events) s st small holds k v =
    events_values events (happens s e) (happens_stand s e st) (λ y. subst (λ (i : Initial). image_byte i y < 256) (sym (happens_follows s e).stays.image) (small y)) (λ later. holds (e ∷ later)) (happens_kept s e st k)
    (happens_values s e st small (holds []) k v)

-- ---- the completed order

not_theirs : (a b : Operation) (x : ℕ) → b.hart ≢ a.hart → theirs a x b ≡ false
not_theirs a b x d = and_right (stores_to x b) _ (precedes_not b a (λ e. absurd (d (sym e))))

-- of what isn't performed, a load sees its own hart's part
pub sees_part : (s : State) (st : AllStand s) (o : OrderKept s) (a : Operation) (x : ℕ) (lists : List (List Retired)) (n j : ℕ) → ((j : ℕ) → slice_index_or lists j [] ≡ entries_of s.trace (n + j)) → n + length lists ≡ s.views.config.harts → j < length lists → a.hart ≡ n + j
    → filter (theirs a x) (operations_at (instructions s.trace) (filter (missing s.trace) (names_from a.hart 0 (entries_of s.trace a.hart)))) ≡ filter (theirs a x) (operations_at (instructions s.trace) (filter (missing s.trace) (names_of_harts n lists)))
sees_part s st o a x [] n j link e l mine = absurd (omega (arith, l))
sees_part s st o a x (es ∷ rest) n j link e l mine =
    let next = λ (i : ℕ) (b : i < length rest) (f : a.hart ≡ (n + 1) + i). sees_part s st o a x rest (n + 1) i (λ k. link (suc k) ∙ ap (entries_of s.trace) (omega arith)) (omega (arith, e)) b f in
    at j l mine next
    ∙ sym (ap (λ ns. filter (theirs a x) (operations_at (instructions s.trace) ns)) (filter-append (missing s.trace) (names_from n 0 es) (names_of_harts (n + 1) rest))
    ∙ (ap (filter (theirs a x)) (filter_map-append (operation_at (instructions s.trace)) (filter (missing s.trace) (names_from n 0 es)) (filter (missing s.trace) (names_of_harts (n + 1) rest)))
    ∙ filter-append (theirs a x) (operations_at (instructions s.trace) (filter (missing s.trace) (names_from n 0 es))) (operations_at (instructions s.trace) (filter (missing s.trace) (names_of_harts (n + 1) rest)))))
  where
    inside : n < s.views.config.harts
    inside = omega (arith, e)

    here_es : es ≡ entries_of s.trace n
    here_es = link 0 ∙ ap (entries_of s.trace) (omega arith)

    -- the part of the hart n
    own_part : Each (λ b. b.hart ≡ n) (operations_at (instructions s.trace) (filter (missing s.trace) (names_from n 0 es)))
    own_part = subst (Each (λ b. b.hart ≡ n)) (sym (part_is s o n inside es here_es)) (Each-weaker (IsWaiting n) (λ b. b.hart ≡ n) (λ b w. w.own) (waiting_at (o.each n inside)) (o.each n inside).kept.waiting)

    behind : Each (λ b. n + 1 ≤ b.hart) (operations_at (instructions s.trace) (filter (missing s.trace) (names_of_harts (n + 1) rest)))
    behind = (tail_free s st o [] rest (n + 1) (λ k. link (suc k) ∙ ap (entries_of s.trace) (omega arith)) (omega (arith, e))).from

    at : (j : ℕ) → j < length (es ∷ rest) → a.hart ≡ n + j → ((i : ℕ) → i < length rest → a.hart ≡ (n + 1) + i → filter (theirs a x) (operations_at (instructions s.trace) (filter (missing s.trace) (names_from a.hart 0 (entries_of s.trace a.hart)))) ≡ filter (theirs a x) (operations_at (instructions s.trace) (filter (missing s.trace) (names_of_harts (n + 1) rest))))
        → filter (theirs a x) (operations_at (instructions s.trace) (filter (missing s.trace) (names_from a.hart 0 (entries_of s.trace a.hart)))) ≡ filter (theirs a x) (operations_at (instructions s.trace) (filter (missing s.trace) (names_from n 0 es))) ++ filter (theirs a x) (operations_at (instructions s.trace) (filter (missing s.trace) (names_of_harts (n + 1) rest)))
    at zero l mine next =
        let is_n : a.hart ≡ n = mine ∙ omega arith in
        ap (λ k. filter (theirs a x) (operations_at (instructions s.trace) (filter (missing s.trace) (names_from k 0 (entries_of s.trace k))))) is_n
        ∙ (ap (λ xs. filter (theirs a x) (operations_at (instructions s.trace) (filter (missing s.trace) (names_from n 0 xs)))) (sym here_es)
        ∙ (sym (append-nil (filter (theirs a x) (operations_at (instructions s.trace) (filter (missing s.trace) (names_from n 0 es)))))
        ∙ ap (λ v. filter (theirs a x) (operations_at (instructions s.trace) (filter (missing s.trace) (names_from n 0 es))) ++ v)
        (sym (filter_none (theirs a x) (operations_at (instructions s.trace) (filter (missing s.trace) (names_of_harts (n + 1) rest))) (Each-weaker (λ b. n + 1 ≤ b.hart) (λ b. theirs a x b ≡ false) (λ b m. not_theirs a b x (λ f. absurd (omega (arith, f, m, is_n)))) (operations_at (instructions s.trace) (filter (missing s.trace) (names_of_harts (n + 1) rest))) behind)))))
    at (suc i) l mine next =
        next i (omega (arith, l)) (mine ∙ omega arith)
        ∙ ap (λ v. v ++ filter (theirs a x) (operations_at (instructions s.trace) (filter (missing s.trace) (names_of_harts (n + 1) rest))))
        (sym (filter_none (theirs a x) (operations_at (instructions s.trace) (filter (missing s.trace) (names_from n 0 es))) (Each-weaker (λ b. b.hart ≡ n) (λ b. theirs a x b ≡ false) (λ b m. not_theirs a b x (λ f. absurd (omega (arith, f, m, mine)))) (operations_at (instructions s.trace) (filter (missing s.trace) (names_from n 0 es))) own_part)))

abbrev pub tail_of : State → List Operation
tail_of s = operations_at (instructions s.trace) (filter (missing s.trace) (names_in s.trace))

-- each performed load of a hart is right in the completed order
right_whole : (s : State) (st : AllStand s) (o : OrderKept s) → ValuesKept s → (h : ℕ) → h < s.views.config.harts → Each (IsRight (image_of s.trace) h (done s.trace ++ tail_of s)) (done s.trace)
right_whole s st o v h l =
    let k = o.each h l in
    rights_same (image_of s.trace) h (done s.trace) (waiting_at k) (tail_of s)
    (Each-always (λ a. a.hart ≡ h → (x : ℕ) → filter (theirs a x) (waiting_at k) ≡ filter (theirs a x) (tail_of s))
    (λ a mine x. let c = st.entries in
    sym (ap (filter (theirs a x)) (ap (λ j. operations_at (instructions s.trace) (filter (missing s.trace) (names_from j 0 (entries_of s.trace j)))) mine ∙ part_is s o h l (entries_of s.trace h) refl))
    ∙ sees_part s st o a x s.trace.entries 0 h (λ j. ap (entries_of s.trace) (omega arith)) (omega (arith, c)) (omega (arith, c, l)) (mine ∙ omega arith)) (done s.trace))
    (subst (λ w. Each (IsRight (image_of s.trace) h (done s.trace ++ w)) (done s.trace)) k.split.waits (v.each h l))

pub all_range : (p : ℕ → Bool) (a n : ℕ) → ((x : ℕ) → a ≤ x → x < a + n → p x ≡ true) → list_all p (range_with_len a n) ≡ true
all_range p a zero f = refl
all_range p a (suc n) f = and_from _ _ (f a (omega arith) (omega arith)) (all_range p (a + 1) n (λ x l m. f x (omega (arith, l)) (omega (arith, m))))

returns_right : (image : ℕ → ℕ) (order : List Operation) (a : Operation) → IsRight image a.hart order a → returns_sources image order a ≡ true
returns_right image order a k = go (reads a.kind) refl
  where
    go : (c : Bool) → reads a.kind ≡ c → (not c || list_all (λ x. nat_eq (read_at a x) (byte_from image x (source order a x))) (addresses_of a)) ≡ true
    go false e = refl
    go true e = all_range (λ x. nat_eq (read_at a x) (byte_from image x (source order a x))) a.address a.size (λ x l m. eq-eqb _ _ (k.right refl e x (and_from _ _ (le-leb a.address x l) (lt-ltb x (a.address + a.size) m))))

each_index : {I : Type 0} (P : I → Operation → Type 0) (xs : List Operation) → ((i : I) → Each (P i) xs) → Each (λ a. (i : I) → P i a) xs
each_index P [] f = tt
each_index P (x ∷ xs) f = (λ i. (f i).0, each_index P xs (λ i. (f i).1))

abbrev HartOf : State → Type 0
HartOf s = (h : ℕ) × (h < s.views.config.harts)

load_values : (s : State) (st : AllStand s) (o : OrderKept s) → ValuesKept s → keeps_load_values (image_of s.trace) (operations_at (instructions s.trace) (completed s.trace)) ≡ true
load_values s st o v =
    let order = done s.trace ++ tail_of s in
    subst (λ xs. keeps_load_values (image_of s.trace) xs ≡ true) (sym (completed_operations s.trace))
    (list_all-from_Each (returns_sources (image_of s.trace) order) order (Each-append (λ a. returns_sources (image_of s.trace) order a ≡ true) (done s.trace) (tail_of s)
    (Each-weaker (λ a. (a.hart < length s.trace.entries) × ((i : HartOf s) → IsRight (image_of s.trace) i.0 order a)) (λ a. returns_sources (image_of s.trace) order a ≡ true)
    (λ a z. let l = z.0 in returns_right (image_of s.trace) order a (z.1 (a.hart, subst (λ n. a.hart < n) st.entries l))) (done s.trace)
    (Each-both (λ a. a.hart < length s.trace.entries) (λ a. (i : HartOf s) → IsRight (image_of s.trace) i.0 order a) (done s.trace) (done_inside s.trace s.trace.performed o.resolved) (each_index (λ (i : HartOf s) a. IsRight (image_of s.trace) i.0 order a) (done s.trace) (λ i. right_whole s st o v i.0 i.1))))
    (Each-weaker (λ b. b.kind ≡ Store) (λ a. returns_sources (image_of s.trace) order a ≡ true) (λ a e. ap (λ k. not (reads k) || list_all (λ x. nat_eq (read_at a x) (byte_from (image_of s.trace) x (source order a x))) (addresses_of a)) e) (tail_of s) (whole_tail s st o order).stores)))

-- ---- from reset

abbrev pub HoldAlways : Type 0
HoldAlways = Always (λ image config s. AllHold s)

pub load_values_always : HoldAlways → Always (λ image config s. IsTrue (keeps_load_values (image_of s.trace) (operations_at (instructions s.trace) (completed s.trace))))
load_values_always holds image config events i =
    let k = order_kept image config events in
    let v = events_values events (opening image config) (opening_stand image config) (λ y. i.bytes_fit _) (λ later. holds image config later i) (opening_kept image config) (record { each = λ h l. tt }) in
    load_values (after_events (opening image config) events) k.0 k.1 v
