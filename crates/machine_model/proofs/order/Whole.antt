-- From what is kept of each hart to the completed order of all.
use Rattle.std.proofs.Common.{◌≡◌, ◌≢◌, ℕ, zero, suc, ◌+◌, ◌<◌, ◌≤◌, List, [], ◌∷◌, ◌++◌, Bool, true, false, Option, Some, None, refl, cond, sym, ap, ◌∙◌, subst, not, ◌&&◌, ◌||◌, arith, length, slice_index_or}
use Rattle.std.specs.Prelude.{is_some}
use Rattle.std.specs.List.{AllByRecursion as Each, filter, cons_option, list_any}
use Rattle.std.specs.Option.{option_map_or}
use Rattle.std.proofs.lemmas.Bool.{and_left, or_left, or_right}
use Rattle.std.proofs.lemmas.List.Elements.{filter-append, filter_map-append}
use Rattle.std.proofs.lemmas.List.Folds.{list_any-append}
use Rattle.elf_loader.specs.Image.{Initial}
use Rattle.hart.specs.declared.retired.Retired.{Retired}
use Rattle.hart.specs.declared.state.Hart.{Hart}
use Rattle.hart.specs.Run.{after, at_reset}
use Rattle.machine_types.specs.declared.config.Config.{Config}
use Rattle.machine_types.specs.declared.event.Event.{Event}
use Rattle.machine_model.specs.Events.{after_events, happens}
use Rattle.machine_model.specs.Laws.{Always, IsPerformedOnce}
use Rattle.machine_model.specs.OrderLaws.{OrderAlways, PreservedAlways}
use Rattle.machine_model.specs.Views.{State, opening}
use Rattle.machine_model.proofs.Growth.{happens_follows}
use Rattle.machine_model.proofs.runs.Runs.{AllStand}
use Rattle.machine_model.proofs.order.Events.{order_kept}
use Rattle.machine_model.proofs.order.Kept.{joined, IsWaiting, IsKnown}
use Rattle.machine_model.proofs.order.Lists.{Each-always, Pairwise-left, Pairwise-right, Pairwise-across, Pairwise-weaker}
use Rattle.machine_model.proofs.order.Moves.{OrderKept}
use Rattle.machine_model.proofs.order.Rules.{asked, must, precedes_not, preserved_from}
use Rattle.machine_model.proofs.order.Split.{gave_at, ops_of, absent}
use Rattle.machine_model.proofs.order.Steps.{HartKept}
use Rattle.machine_model.proofs.order.Traces.{items_at, items_of-at, done, IsResolved, operation_is}
use Rattle.machine_types.specs.declared.model.MemoryModel.{MemoryModel}
use Rattle.memory_model.specs.declared.operation.Kind.TheVariants.{Store}
use Rattle.memory_model.specs.declared.operation.Operation.{Operation}
use Rattle.memory_model.specs.Items.{Item, items_from, operation_of_entry, has_operation, accesses_memory, succeeded}
use Rattle.memory_model.specs.Operations.{same, precedes}
use Rattle.memory_model.specs.Order.{in_order}
use Rattle.memory_model.specs.Rules.{preserved}
use Rattle.memory_model.specs.Traces.{completed, instructions, is_among, is_named, names_from, names_of_harts, names_in, operation_at, operations_at}
use Rattle.memory_model.proofs.Forms.{Ordered, in_order-from_Ordered}
use Rattle.memory_model.proofs.Lists.{Each-append, Each-weaker, Each-both, Pairwise-append, list_all-from_Each, Pairwise}
use Rattle.memory_model.proofs.Named.{Apart, operation_at-bears, is_named-self, is_distinct-from_Pairwise, completed_is_order, EachOnce}
use Rattle.rv32_decode.specs.Rows.{decoded}
use Rattle.rv32_decode.specs.declared.instruction.Instr.{Instr}
use Rattle.rv32_decode.specs.declared.instruction.Instr.TheVariants as instr
use Rattle.rv32_decode.specs.declared.instruction.SystemOp.TheVariants as system
use Rattle.store_buffer.specs.Groups.{Groups}
use Rattle.trace_recorder.specs.History.{History, entries_of}
use Rattle.trace_recorder.specs.declared.operation.OpId.{OpId}

-- ---- names and operations

-- an entry gives an operation where its word and its SC answer say so
giving_is : (place : ℕ) (hart : Hart) (entry : Retired) (o : Option Instr) → option_map_or (accesses_memory entry.sc_ok) o false ≡ is_some (operation_of_entry place hart entry o)
giving_is place hart entry None = refl
giving_is place hart entry (Some (instr.Load op rd rs1 offset)) = refl
giving_is place hart entry (Some (instr.Store op rs1 rs2 offset)) = refl
giving_is place hart entry (Some (instr.Lr rd rs1 bits)) = refl
giving_is place hart entry (Some (instr.Sc rd rs1 rs2 bits)) = go (succeeded entry.sc_ok) _
  where
    go : (b : Bool) (x : Operation) → b ≡ is_some (cond b (Some x) None)
    go true x = refl
    go false x = refl
giving_is place hart entry (Some (instr.Amo op rd rs1 rs2 bits)) = refl
giving_is place hart entry (Some (instr.Fence sets)) = refl
giving_is place hart entry (Some instr.FenceTso) = refl
giving_is place hart entry (Some (instr.System system.Ecall)) = refl
giving_is place hart entry (Some (instr.System system.Ebreak)) = refl
giving_is place hart entry (Some (instr.Upper op rd imm)) = refl
giving_is place hart entry (Some (instr.Jal rd offset)) = refl
giving_is place hart entry (Some (instr.Jalr rd rs1 offset)) = refl
giving_is place hart entry (Some (instr.Branch op rs1 rs2 offset)) = refl
giving_is place hart entry (Some (instr.Immediate op rd rs1 imm)) = refl
giving_is place hart entry (Some (instr.Shift op rd rs1 amount)) = refl
giving_is place hart entry (Some (instr.Register op rd rs1 rs2)) = refl

none_not : {X : Type 0} (x : X) → None ≡ Some x → ⊥
none_not x e = cc

abbrev named : ℕ → ℕ → OpId
named h place = record { hart = h; place = place }

-- a name whose place gives an operation is one of the list's
named_from : (h place : ℕ) (hart : Hart) (es : List Retired) (k : ℕ) (a : Operation) → gave_at (items_from place hart es) k ≡ Some a → is_among (names_from h place es) (named h (place + k)) ≡ true
named_from h place hart [] k a e = absurd (none_not a e)
named_from h place hart (x ∷ es) zero a e =
    ap (λ b. is_among (cond b (named h place ∷ names_from h (place + 1) es) (names_from h (place + 1) es)) (named h (place + 0))) (giving_is place hart x (decoded x.word) ∙ ap is_some e)
    ∙ or_left (is_named (named h (place + 0)) (named h place)) _ (subst (λ p. is_named (named h (place + 0)) (named h p) ≡ true) (omega arith) (is_named-self (named h (place + 0))))
named_from h place hart (x ∷ es) (suc k) a e = go (has_operation x) (subst (λ p. is_among (names_from h (place + 1) es) (named h p) ≡ true) (omega arith) (named_from h (place + 1) (after hart x) es k a e))
  where
    go : (b : Bool) → is_among (names_from h (place + 1) es) (named h (place + suc k)) ≡ true → is_among (cond b (named h place ∷ names_from h (place + 1) es) (names_from h (place + 1) es)) (named h (place + suc k)) ≡ true
    go true f = or_right (is_named (named h (place + suc k)) (named h place)) _ f
    go false f = f

named_of : (image : Initial) (harts id : ℕ) (lists : List (List Retired)) (h k : ℕ) (a : Operation) → gave_at (items_from 0 (at_reset image (id + h) harts) (slice_index_or lists h [])) k ≡ Some a → is_among (names_of_harts id lists) (named (id + h) k) ≡ true
named_of image harts id [] h k a e = absurd (none_not a e)
named_of image harts id (es ∷ rest) zero k a e =
    list_any-append (is_named (named (id + 0) k)) (names_from id 0 es) (names_of_harts (id + 1) rest)
    ∙ or_left (is_among (names_from id 0 es) (named (id + 0) k)) _ (subst (λ i. is_among (names_from id 0 es) (named i k) ≡ true) (omega arith) (subst (λ p. is_among (names_from id 0 es) (named id p) ≡ true) (omega arith) (named_from id 0 (at_reset image (id + 0) harts) es k a e)))
named_of image harts id (es ∷ rest) (suc h) k a e =
    list_any-append (is_named (named (id + suc h) k)) (names_from id 0 es) (names_of_harts (id + 1) rest)
    ∙ or_right (is_among (names_from id 0 es) (named (id + suc h) k)) _ (subst (λ i. is_among (names_of_harts (id + 1) rest) (named i k) ≡ true) (omega arith)
    (named_of image harts (id + 1) rest h k a (subst (λ i. gave_at (items_from 0 (at_reset image i harts) (slice_index_or rest h [])) k ≡ Some a) (omega arith) e)))

resolved_named : (t : History) (n : OpId) → IsResolved t n → is_among (names_in t) n ≡ true
resolved_named t n r = subst (λ i. is_among (names_in t) (named i n.place) ≡ true) (omega arith) (named_of t.image (length t.entries) 0 t.entries n.hart n.place r.0 (subst (λ i. gave_at (items_from 0 (at_reset t.image i (length t.entries)) (entries_of t n.hart)) n.place ≡ Some r.0) (omega arith) (sym (operation_is t n) ∙ r.1)))

same_is : (t : History) (n m : OpId) (a b : Operation) → operation_at (instructions t) n ≡ Some a → operation_at (instructions t) m ≡ Some b → same a b ≡ is_named n m
same_is t n m a b e f = let p = operation_at-bears t n a e in let q = operation_at-bears t m b f in rw (p.hart_is, p.place_is, q.hart_is, q.place_is) refl

names_apart_one : (t : History) (n : OpId) (a : Operation) (ns : List OpId) → operation_at (instructions t) n ≡ Some a → Each (IsResolved t) ns → Each (λ b. same a b ≡ false) (operations_at (instructions t) ns) → Each (Apart n) ns
names_apart_one t n a [] e r d = tt
names_apart_one t n a (m ∷ ns) e r d =
    let d' = subst (λ o. Each (λ b. same a b ≡ false) (cons_option o (operations_at (instructions t) ns))) r.0.1 d in
    (sym (same_is t n m a r.0.0 e r.0.1) ∙ d'.0, names_apart_one t n a ns e r.1 d'.1)

names_apart : (t : History) (ns : List OpId) → Each (IsResolved t) ns → EachOnce (operations_at (instructions t) ns) → Pairwise Apart ns
names_apart t [] r d = tt
names_apart t (n ∷ ns) r d =
    let d' = subst (λ o. EachOnce (cons_option o (operations_at (instructions t) ns))) r.0.1 d in (names_apart_one t n r.0.0 ns r.0.1 r.1 d'.0, names_apart t ns r.1 d'.1)

performed_once : (s : State) → OrderKept s → IsPerformedOnce s.trace
performed_once s o = record {
  operations = list_all-from_Each (is_among (names_in s.trace)) s.trace.performed (Each-weaker (IsResolved s.trace) (λ n. is_among (names_in s.trace) n ≡ true) (resolved_named s.trace) s.trace.performed o.resolved);
  once = is_distinct-from_Pairwise s.trace.performed (names_apart s.trace s.trace.performed o.resolved o.distinct);
}

pub performed_once_always : Always (λ image config s. IsPerformedOnce s.trace)
performed_once_always image config events i = performed_once (after_events (opening image config) events) (order_kept image config events).1

pub order_always : OrderAlways
order_always image config events i =
    let p = performed_once_always image config events i in completed_is_order (after_events (opening image config) events).trace p.operations p.once

-- ---- what isn't performed, hart by hart

abbrev pub missing : History → OpId → Bool
missing t n = not (is_among t.performed n)

among_is : (t : History) (ns : List OpId) (n : OpId) (a : Operation) → operation_at (instructions t) n ≡ Some a → Each (IsResolved t) ns → is_among ns n ≡ list_any (same a) (operations_at (instructions t) ns)
among_is t [] n a e r = refl
among_is t (m ∷ ns) n a e r =
    ap (λ b. b || is_among ns n) (sym (same_is t n m a r.0.0 e r.0.1))
    ∙ (ap (λ b. same a r.0.0 || b) (among_is t ns n a e r.1) ∙ sym (ap (λ o. list_any (same a) (cons_option o (operations_at (instructions t) ns))) r.0.1))

tail_part : (t : History) (h place : ℕ) (hart : Hart) (es : List Retired) → Each (IsResolved t) t.performed → ((k : ℕ) → operation_at (instructions t) (named h (place + k)) ≡ gave_at (items_from place hart es) k)
    → operations_at (instructions t) (filter (missing t) (names_from h place es)) ≡ filter (absent (done t)) (ops_of (items_from place hart es))
tail_part t h place hart [] r f = refl
tail_part t h place hart (x ∷ es) r f =
    ap (λ b. operations_at (instructions t) (filter (missing t) (cond b (named h place ∷ names_from h (place + 1) es) (names_from h (place + 1) es)))) (giving_is place hart x (decoded x.word))
    ∙ go (operation_of_entry place hart x (decoded x.word)) (subst (λ p. operation_at (instructions t) (named h p) ≡ operation_of_entry place hart x (decoded x.word)) (omega arith) (f 0))
    (tail_part t h (place + 1) (after hart x) es r (λ k. subst (λ p. operation_at (instructions t) (named h p) ≡ gave_at (items_from (place + 1) (after hart x) es) k) (omega arith) (f (suc k))))
  where
    kept_or_not : (a : Operation) (b : Bool) → operation_at (instructions t) (named h place) ≡ Some a
        → operations_at (instructions t) (filter (missing t) (names_from h (place + 1) es)) ≡ filter (absent (done t)) (ops_of (items_from (place + 1) (after hart x) es))
        → operations_at (instructions t) (cond b (named h place ∷ filter (missing t) (names_from h (place + 1) es)) (filter (missing t) (names_from h (place + 1) es))) ≡ cond b (a ∷ filter (absent (done t)) (ops_of (items_from (place + 1) (after hart x) es))) (filter (absent (done t)) (ops_of (items_from (place + 1) (after hart x) es)))
    kept_or_not a true e ih = ap (λ o. cons_option o (operations_at (instructions t) (filter (missing t) (names_from h (place + 1) es)))) e ∙ ap (λ v. a ∷ v) ih
    kept_or_not a false e ih = ih

    go : (o : Option Operation) → operation_at (instructions t) (named h place) ≡ o
        → operations_at (instructions t) (filter (missing t) (names_from h (place + 1) es)) ≡ filter (absent (done t)) (ops_of (items_from (place + 1) (after hart x) es))
        → operations_at (instructions t) (filter (missing t) (cond (is_some o) (named h place ∷ names_from h (place + 1) es) (names_from h (place + 1) es))) ≡ filter (absent (done t)) (cons_option o (ops_of (items_from (place + 1) (after hart x) es)))
    go None e ih = ih
    go (Some a) e ih =
        ap (λ b. operations_at (instructions t) (cond b (named h place ∷ filter (missing t) (names_from h (place + 1) es)) (filter (missing t) (names_from h (place + 1) es)))) (ap (λ b. not b) (among_is t t.performed (named h place) a e r))
        ∙ kept_or_not a (absent (done t) a) e ih

-- the waiting stores of a hart
abbrev pub waiting_at : {model : MemoryModel} {h : ℕ} {items : List Item} {buffer : Groups} {performed : List Operation} → HartKept model h items buffer performed → List Operation
waiting_at k = joined k.sealed ++ k.current

-- ---- in order

in_lists : (lists : List (List Retired)) (h k : ℕ) (hart : Hart) (a : Operation) → gave_at (items_from 0 hart (slice_index_or lists h [])) k ≡ Some a → h < length lists
in_lists [] h k hart a e = absurd (none_not a e)
in_lists (es ∷ rest) zero k hart a e = omega arith
in_lists (es ∷ rest) (suc h) k hart a e = let l = in_lists rest h k hart a e in omega (arith, l)

pub done_inside : (t : History) (ns : List OpId) → Each (IsResolved t) ns → Each (λ a. a.hart < length t.entries) (operations_at (instructions t) ns)
done_inside t [] r = tt
done_inside t (n ∷ ns) r =
    subst (λ o. Each (λ a. a.hart < length t.entries) (cons_option o (operations_at (instructions t) ns))) (sym r.0.1)
    (subst (λ h. h < length t.entries) (sym (operation_at-bears t n r.0.0 r.0.1).hart_is) (in_lists t.entries n.hart n.place (at_reset t.image n.hart (length t.entries)) r.0.0 (sym (operation_is t n) ∙ r.0.1)), done_inside t ns r.1)

pub each_index : {I : Type 0} (P : I → Operation → Type 0) (xs : List Operation) → ((i : I) → Each (P i) xs) → Each (λ a. (i : I) → P i a) xs
each_index P [] f = tt
each_index P (x ∷ xs) f = (λ i. (f i).0, each_index P xs (λ i. (f i).1))

pairwise_index : {I : Type 0} (R : I → Operation → Operation → Type 0) (xs : List Operation) → ((i : I) → Pairwise (R i) xs) → Pairwise (λ a b. (i : I) → R i a b) xs
pairwise_index R [] f = tt
pairwise_index R (x ∷ xs) f = (each_index (λ i. R i x) xs (λ i. (f i).0), pairwise_index R xs (λ i. (f i).1))

-- the later of two need not come first
abbrev IsFree : State → List Operation → Operation → Operation → Type 0
IsFree s order a b = preserved s.views.config.model (instructions s.trace) order b a ≡ false

-- a hart's number
abbrev pub HartOf : State → Type 0
HartOf s = (h : ℕ) × (h < s.views.config.harts)

abbrev FreeOf : (s : State) → List Operation → HartOf s → Operation → Operation → Type 0
FreeOf s order i a b = b.hart ≡ i.0 → (precedes b a && asked s.views.config.model (items_at s.trace i.0) order b a) ≡ false

free_at : (s : State) (order : List Operation) (i : HartOf s) (a b : Operation) → b.hart ≡ i.0 → FreeOf s order i a b → IsFree s order a b
free_at s order i a b mine f = ap (λ is. precedes b a && asked s.views.config.model is order b a) (items_of-at s.trace b.hart ∙ ap (items_at s.trace) mine) ∙ f mine

free_apart : (s : State) (order : List Operation) (a b : Operation) → b.hart ≢ a.hart → IsFree s order a b
free_apart s order a b d = and_left (precedes b a) _ (precedes_not b a (λ e. absurd (d (sym e))))

hart_pairs : (s : State) (o : OrderKept s) (order : List Operation) (i : HartOf s) → Pairwise (FreeOf s order i) (done s.trace ++ waiting_at (o.each i.0 i.1))
hart_pairs s o order i =
    let k = o.each i.0 i.1 in
    Pairwise-weaker (λ a b. must s.views.config.model i.0 (items_at s.trace i.0) b a ≡ false) (FreeOf s order i) (IsKnown i.0 (items_at s.trace i.0))
    (λ a b ka kb m mine. preserved_from s.views.config.model i.0 (items_at s.trace i.0) order b a mine (λ z. kb.known mine z) m) (done s.trace ++ waiting_at k) k.kept.quiet k.kept.ordered

done_free : (s : State) (st : AllStand s) (o : OrderKept s) (order : List Operation) → Pairwise (IsFree s order) (done s.trace)
done_free s st o order =
    Pairwise-weaker (λ a b. (i : HartOf s) → FreeOf s order i a b) (IsFree s order) (λ a. a.hart < length s.trace.entries)
    (λ a b la lb f. let i : HartOf s = (b.hart, subst (λ n. b.hart < n) st.entries lb) in free_at s order i a b refl (f i)) (done s.trace) (done_inside s.trace s.trace.performed o.resolved)
    (pairwise_index (FreeOf s order) (done s.trace) (λ i. Pairwise-left (FreeOf s order i) (done s.trace) (waiting_at (o.each i.0 i.1)) (hart_pairs s o order i)))

pub record TailFree (s : State) (order : List Operation) (n : ℕ) (xs : List Operation) : Type 0 where
  pub among : Pairwise (IsFree s order) xs
  pub from : Each (λ b. n ≤ b.hart) xs
  pub behind : Each (λ a. Each (IsFree s order a) xs) (done s.trace)
  pub stores : Each (λ b. b.kind ≡ Store) xs

waiting_free : (s : State) (o : OrderKept s) (order : List Operation) (n : ℕ) (l : n < s.views.config.harts) (rest : List Operation) → TailFree s order (n + 1) rest → TailFree s order n (waiting_at (o.each n l) ++ rest)
waiting_free s o order n l rest r =
    let i : HartOf s = (n, l) in
    let k = o.each n l in
    let pend = waiting_at k in
    let p = hart_pairs s o order i in
    let own = k.kept.waiting in
    let mine : (a : Operation) → Each (FreeOf s order i a) pend → Each (IsFree s order a) pend =
    λ a g. Each-weaker (λ b. IsWaiting n b × FreeOf s order i a b) (IsFree s order a) (λ b z. free_at s order i a b z.0.own z.1) pend (Each-both (IsWaiting n) (FreeOf s order i a) pend own g) in
    record {
      among = Pairwise-append (IsFree s order) pend rest
          (Pairwise-weaker (FreeOf s order i) (IsFree s order) (IsWaiting n) (λ a b wa wb f. free_at s order i a b wb.own f) pend own (Pairwise-right (FreeOf s order i) (done s.trace) pend p)) r.among
          (Each-weaker (IsWaiting n) (λ a. Each (IsFree s order a) rest) (λ a wa. Each-weaker (λ b. n + 1 ≤ b.hart) (IsFree s order a) (λ b m. free_apart s order a b (λ f. let g = wa.own in absurd (omega (arith, f, g, m)))) rest r.from) pend own);
      from = Each-append (λ b. n ≤ b.hart) pend rest (Each-weaker (IsWaiting n) (λ b. n ≤ b.hart) (λ b wb. let g = wb.own in omega (arith, g)) pend own) (Each-weaker (λ b. n + 1 ≤ b.hart) (λ b. n ≤ b.hart) (λ b m. omega (arith, m)) rest r.from);
      behind = Each-weaker (λ a. Each (FreeOf s order i a) pend × Each (IsFree s order a) rest) (λ a. Each (IsFree s order a) (pend ++ rest)) (λ a z. Each-append (IsFree s order a) pend rest (mine a z.0) z.1) (done s.trace)
          (Each-both (λ a. Each (FreeOf s order i a) pend) (λ a. Each (IsFree s order a) rest) (done s.trace) (Pairwise-across (FreeOf s order i) (done s.trace) pend p) r.behind);
      stores = Each-append (λ b. b.kind ≡ Store) pend rest (Each-weaker (IsWaiting n) (λ b. b.kind ≡ Store) (λ b wb. wb.plain) pend own) r.stores;
    }

-- the operations of a hart's list that aren't performed
pub part_is : (s : State) (o : OrderKept s) (n : ℕ) (l : n < s.views.config.harts) (es : List Retired) → es ≡ entries_of s.trace n → operations_at (instructions s.trace) (filter (missing s.trace) (names_from n 0 es)) ≡ waiting_at (o.each n l)
part_is s o n l es e =
    let t = s.trace in
    ap (λ xs. operations_at (instructions t) (filter (missing t) (names_from n 0 xs))) e
    ∙ (tail_part t n 0 (at_reset t.image n (length t.entries)) (entries_of t n) o.resolved (λ k. operation_is t (named n (0 + k)) ∙ ap (gave_at (items_at t n)) (omega arith)) ∙ (o.each n l).split.waits)

pub tail_free : (s : State) (st : AllStand s) (o : OrderKept s) (order : List Operation) (lists : List (List Retired)) (n : ℕ) → ((j : ℕ) → slice_index_or lists j [] ≡ entries_of s.trace (n + j)) → n + length lists ≡ s.views.config.harts
    → TailFree s order n (operations_at (instructions s.trace) (filter (missing s.trace) (names_of_harts n lists)))
tail_free s st o order [] n link e = record { among = tt; from = tt; behind = Each-always (λ a. Each (IsFree s order a) []) (λ a. tt) (done s.trace); stores = tt }
tail_free s st o order (es ∷ rest) n link e =
    let l : n < s.views.config.harts = omega (arith, e) in
    let line : operations_at (instructions s.trace) (filter (missing s.trace) (names_of_harts n (es ∷ rest))) ≡ waiting_at (o.each n l) ++ operations_at (instructions s.trace) (filter (missing s.trace) (names_of_harts (n + 1) rest)) =
    ap (operations_at (instructions s.trace)) (filter-append (missing s.trace) (names_from n 0 es) (names_of_harts (n + 1) rest))
    ∙ (filter_map-append (operation_at (instructions s.trace)) (filter (missing s.trace) (names_from n 0 es)) (filter (missing s.trace) (names_of_harts (n + 1) rest))
    ∙ ap (λ v. v ++ operations_at (instructions s.trace) (filter (missing s.trace) (names_of_harts (n + 1) rest))) (part_is s o n l es (link 0 ∙ ap (entries_of s.trace) (omega arith)))) in
    subst (TailFree s order n) (sym line) (waiting_free s o order n l (operations_at (instructions s.trace) (filter (missing s.trace) (names_of_harts (n + 1) rest)))
    (tail_free s st o order rest (n + 1) (λ j. link (suc j) ∙ ap (entries_of s.trace) (omega arith)) (omega (arith, e))))

pub whole_tail : (s : State) (st : AllStand s) (o : OrderKept s) (order : List Operation) → TailFree s order 0 (operations_at (instructions s.trace) (filter (missing s.trace) (names_in s.trace)))
whole_tail s st o order = tail_free s st o order s.trace.entries 0 (λ j. ap (entries_of s.trace) (omega arith)) (let e = st.entries in omega (arith, e))

pub completed_operations : (t : History) → operations_at (instructions t) (completed t) ≡ done t ++ operations_at (instructions t) (filter (missing t) (names_in t))
completed_operations t = filter_map-append (operation_at (instructions t)) t.performed (filter (missing t) (names_in t))

ordered : (s : State) → AllStand s → (o : OrderKept s) → Ordered (preserved s.views.config.model (instructions s.trace) (operations_at (instructions s.trace) (completed s.trace))) (operations_at (instructions s.trace) (completed s.trace))
ordered s st o =
    let order = operations_at (instructions s.trace) (completed s.trace) in
    let tail = operations_at (instructions s.trace) (filter (missing s.trace) (names_in s.trace)) in
    let r = whole_tail s st o order in
    subst (Pairwise (IsFree s order)) (sym (completed_operations s.trace)) (Pairwise-append (IsFree s order) (done s.trace) tail (done_free s st o order) r.among r.behind)

-- the configuration is as it was at reset
pub config_stays : (events : List Event) (s : State) → (after_events s events).views.config ≡ s.views.config
config_stays [] s = refl
config_stays (e ∷ events) s = config_stays events (happens s e) ∙ (happens_follows s e).stays.config

pub preserved_always : PreservedAlways
preserved_always image config events i =
    let s = after_events (opening image config) events in
    let k = order_kept image config events in
    let order = operations_at (instructions s.trace) (completed s.trace) in
    subst (λ (x : Config). in_order (preserved x.model (instructions s.trace) order) order ≡ true) (config_stays events (opening image config)) (in_order-from_Ordered (preserved s.views.config.model (instructions s.trace) order) order (ordered s k.0 k.1))
