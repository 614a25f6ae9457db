-- Whatever act comes, all harts keep what is kept of pairs and reservations.
use Rattle.std.proofs.Common.{◌≡◌, ◌≢◌, ℕ, zero, suc, ◌+◌, ◌<◌, ◌≤◌, List, [], ◌∷◌, ◌++◌, Bool, true, false, Option, Some, None, refl, cond, sym, ap, ◌∙◌, subst, not, ◌&&◌, append-nil, arith, length, slice_index_or, slice_set, ◌⊎◌, inl, inr}
use Rattle.std.specs.Prelude.{nat_eq}
use Rattle.std.specs.List.{AllByRecursion as Each, cons_option}
use Rattle.std.proofs.lemmas.Bool.{false≢true, and_parts, eqb-true, or_right}
use Rattle.std.proofs.lemmas.Bool.Decides.{eqb_tells}
use Rattle.std.proofs.lemmas.List.{length-set, get_or-set_same}
use Rattle.client_cache.specs.Cache.{copy_at}
use Rattle.client_cache.specs.Held.{perm_of}
use Rattle.elf_loader.specs.Image.{Initial, word_at}
use Rattle.hart.specs.declared.retired.Retired.{Retired}
use Rattle.hart.specs.declared.state.Hart.{Hart}
use Rattle.hart.specs.Local.{can_go_alone, is_done_alone, is_private, next_entry, private_row}
use Rattle.hart.specs.Run.{after, after_instr, at_reset, can_fetch, is_running, is_step, reached}
use Rattle.machine_model.specs.declared.act.Act.{Act}
use Rattle.machine_model.specs.declared.act.Act.TheVariants as act
use Rattle.machine_model.specs.declared.act.Deed.{Deed}
use Rattle.machine_types.specs.declared.config.Config.{Config}
use Rattle.machine_model.specs.Changing.{acted, does, drained, next_place, retired, went_alone}
use Rattle.machine_model.specs.Coherent.{perm_at}
use Rattle.machine_model.specs.Deliveries.{is_trunk}
use Rattle.machine_model.specs.Steps.{Fetched}
use Rattle.machine_model.specs.Views.{Node, State, line_size, node_at, with_node}
use Rattle.machine_model.specs.Words.{word_of}
use Rattle.machine_model.proofs.atomicity.Acts.{Before, IsOutside, SparesWord, foreign_atomic, none_atomic, none_of_word, once_atomic, outside_atomic}
use Rattle.machine_model.proofs.atomicity.Deeds.{Ends, IsNewest, Plain, Takes, Writable, deed_is, deed_writes, out_is, store_word, trunk_writable}
use Rattle.machine_model.proofs.atomicity.Kept.{AreLater, Atomic, IsClear, IsStill, is_pairing, marked_item, pairing_is}
use Rattle.machine_model.proofs.atomicity.Nodes.{LosesReservations, does_reserved, drained_less, node_less, quiet_less, reserved_by}
use Rattle.machine_model.proofs.Parts.{IsLess}
use Rattle.machine_model.proofs.atomicity.Order.{harmless}
use Rattle.machine_model.proofs.order.Acts.{alone_grown, alone_step, image-with_halt, node-with_trace, retired_gave, retired_known, retired_step, retired_trace}
use Rattle.machine_model.proofs.order.Buffers.{KeepsBuffers, quiet_keeps}
use Rattle.machine_model.proofs.order.Deeds.{FitsDeed}
use Rattle.machine_model.proofs.Plans.{HasTrunk}
use Rattle.machine_model.proofs.order.Events.{IsFit}
use Rattle.machine_model.proofs.order.Kept.{IsBelow, IsWaiting, joined, of_word}
use Rattle.machine_model.proofs.order.Moves.{Changes, OrderKept, done_more, done_same, drained_done, drained_moves, drained_names, drained_out, drained_step, oldest_group, oldest_line, oldest_waiting, younger}
use Rattle.machine_model.proofs.order.Steps.{HartKept, names_by}
use Rattle.machine_model.proofs.order.Traces.{IsResolved, Stands, done, items_at, items_here, items_same, length-items_from, new_item, operation_is, operations_on}
use Rattle.machine_model.proofs.order.Split.{gave_at}
use Rattle.machine_model.proofs.order.Values.{theirs}
use Rattle.machine_model.proofs.runs.Runs.{AllStand, entries-with_entries}
use Rattle.machine_model.proofs.coherence.WorldOpening.{one_writer}
use Rattle.machine_model.proofs.coherence.WorldSteps.{Fits}
use Rattle.machine_types.specs.declared.model.MemoryModel.{MemoryModel}
use Rattle.memory_model.specs.declared.operation.Operation.{Operation}
use Rattle.memory_model.specs.Items.{Item, annotations_of, item_of, items_from}
use Rattle.memory_model.specs.Operations.{is_sc, is_lr, stores_to}
use Rattle.memory_model.specs.Rules.{is_lr_or_sc}
use Rattle.memory_model.specs.Traces.{instructions, operations_at}
use Rattle.memory_model.proofs.Lists.{Each-filter, Each-kept, Each-left, Each-weaker}
use Rattle.memory_model.proofs.Named.{operation_at-bears}
use Rattle.rv32_decode.specs.Rows.{decoded}
use Rattle.rv32_decode.specs.declared.instruction.Instr.{Instr}
use Rattle.rv32_exec.specs.Meaning.{Access, Private, Loads, Stores, DoesLr, DoesSc, DoesAmo, Fences, Calls, access_of}
use Rattle.store_buffer.specs.Groups.{Groups}
use Rattle.tl_types.specs.Line.{line_of}
use Rattle.tl_types.specs.declared.permission.Perm.{Perm}
use Rattle.tl_types.specs.declared.permission.Perm.TheVariants as perm
use Rattle.trace_recorder.specs.History.{History, entries_of}
use Rattle.trace_recorder.specs.declared.operation.OpId.{OpId}

pub record AllAtomic (s : State) : Type 0 where
  pub each : (h : ℕ) → h < s.views.config.harts → Atomic h (items_at s.trace h) (node_at s h).reserved (done s.trace)

atomic_less : (h : ℕ) (items : List Item) (old next : Option ℕ) (performed : List Operation) → IsLess next old → Atomic h items old performed → Atomic h items next performed
atomic_less h items old next performed f k = record { marked = k.marked; clear = k.clear; pairs = k.pairs; reserves = λ w e. k.reserves w (f w e) }

pub atomic_still : (s t : State) → KeepsBuffers s t → LosesReservations s t → AllAtomic s → AllAtomic t
atomic_still s t k r a = record {
  each = λ h l.
      subst (λ is. Atomic h is (node_at t h).reserved (done t.trace)) (sym (items_same s.trace t.trace k.image k.entries h))
      (subst (Atomic h (items_at s.trace h) (node_at t h).reserved) (sym (done_same s.trace t.trace k.image k.entries k.performed))
      (atomic_less h (items_at s.trace h) (node_at s h).reserved (node_at t h).reserved (done s.trace) (r.less h) (a.each h (subst (λ (c : Config). h < c.harts) k.config l))));
}

-- ---- one hart writes only where no other has reserved

trunk_is : (p : Perm) → is_trunk p ≡ true → p ≡ perm.Trunk
trunk_is perm.Trunk e = refl
trunk_is perm.Branch e = absurd (false≢true e)
trunk_is perm.Nothing e = absurd (false≢true e)

writes_alone : (s : State) → Fits s → (h k word : ℕ) → k ≢ h → Writable (node_at s h) word → (node_at s k).reserved ≡ Some word → ⊥
writes_alone s fit h k word d w r =
    let mine : is_trunk (perm_at s h (line_of (line_size s) word)) ≡ true = subst (λ z. is_trunk (perm_of (copy_at (node_at s h).cache (line_of z word))) ≡ true) (fit.1.sized h) w in
    let none = one_writer s fit h k (line_of (line_size s) word) (λ e. d (sym e)) (trunk_is _ mine) in
    false≢true (sym (ap is_trunk none) ∙ fit.1.reserved k word r)

abbrev pub WritesWhere : State → ℕ → List Operation → Type 0
WritesWhere s h out = Each (λ a. (x : ℕ) → stores_to x a ≡ true → Writable (node_at s h) (word_of x)) out

spares : (s : State) → Fits s → (h k word : ℕ) (out : List Operation) → k ≢ h → WritesWhere s h out → (node_at s k).reserved ≡ Some word → SparesWord k word out
spares s fit h k word out d w r = Each-weaker (λ a. (x : ℕ) → stores_to x a ≡ true → Writable (node_at s h) (word_of x)) (λ a. (x : ℕ) → word_of x ≡ word → harmless k x a ≡ true) (λ a f x e. go a x e f (stores_to x a) refl) out w
  where
    go : (a : Operation) (x : ℕ) → word_of x ≡ word → ((y : ℕ) → stores_to y a ≡ true → Writable (node_at s h) (word_of y)) → (b : Bool) → stores_to x a ≡ b → harmless k x a ≡ true
    go a x e f true q = absurd (writes_alone s fit h k word d (subst (Writable (node_at s h)) e (f x q)) r)
    go a x e f false q = or_right (nat_eq a.hart k) _ (ap not q)

below_at : (s : State) (o : OrderKept s) (h : ℕ) (l : h < s.views.config.harts) → Each (IsBelow h (length (items_at s.trace h))) (done s.trace)
below_at s o h l = let k = o.each h l in Each-left (IsBelow h (length (items_at s.trace h))) (done s.trace) (joined k.sealed ++ k.current) k.kept.places

step_atomic : (h : ℕ) (names : List OpId) (s t : State) (out : List Operation) → Changes h names s t → done t.trace ≡ done s.trace ++ out → Each (λ a. a.hart ≡ h) out → Fits s → OrderKept s → AllAtomic s → WritesWhere s h out → ((k : ℕ) → k ≢ h → IsLess (node_at t k).reserved (node_at s k).reserved)
    → Atomic h (items_at t.trace h) (node_at t h).reserved (done s.trace ++ out) → AllAtomic t
step_atomic h names s t out c line own fit o a w less mine = record {
  each = λ k l. subst (Atomic k (items_at t.trace k) (node_at t k).reserved) (sym line) (at k (subst (λ (x : Config). k < x.harts) c.config l) (eqb_tells k h));
}
  where
    at : (k : ℕ) → k < s.views.config.harts → ((nat_eq k h ≡ true) × (k ≡ h)) ⊎ ((nat_eq k h ≡ false) × (k ≢ h)) → Atomic k (items_at t.trace k) (node_at t k).reserved (done s.trace ++ out)
    at k l (inl e) = subst (λ j. Atomic j (items_at t.trace j) (node_at t j).reserved (done s.trace ++ out)) (sym e.1) mine
    at k l (inr e) =
        subst (λ is. Atomic k is (node_at t k).reserved (done s.trace ++ out)) (sym (c.items k e.1))
        (foreign_atomic h k (items_at s.trace k) (node_at s k).reserved (node_at t k).reserved (done s.trace) out e.1 (below_at s o k l) own (less k e.1) (λ word r. spares s fit h k word out e.1 w r) (a.each k l))

-- ---- drains

drain_still : (model : MemoryModel) (h word : ℕ) (items : List Item) (buffer : Groups) (performed : List Operation) (k : HartKept model h items buffer performed) (r : Operation) → IsClear h items performed r → IsStill h (drained_out word k) r
drain_still model h word items buffer performed k r c = record {
  still = λ mine reads x t.
      let P : Operation → Type 0 = λ u. theirs r x u ≡ false in
      let g = oldest_group k.sealed k.current in
      Each-kept P (of_word word) g (Each-left P g (younger k.sealed k.current) (subst (Each P) (oldest_line k.sealed k.current) (subst (Each P) k.split.waits (c.clear mine reads x t))));
}

drained_atomic : (h word : ℕ) (s : State) → h < length s.views.nodes → h < s.views.config.harts → HasTrunk (node_at s h) word → Fits s → OrderKept s → AllAtomic s → AllAtomic (drained h word s)
drained_atomic h word s l m trunk fit o a =
    let t = drained h word s in
    let k = o.each h m in
    let out = drained_out word k in
    let items = items_at s.trace h in
    let mv = drained_moves h word s l in
    let known : Each (λ x. (of_word word x ≡ true) × IsWaiting h x) out = Each-filter (IsWaiting h) (of_word word) (oldest_group k.sealed k.current) (oldest_waiting s.views.config.model h items (node_at s h).buffer (done s.trace) k) in
    let own : Each (λ x. x.hart ≡ h) out = Each-weaker (λ x. (of_word word x ≡ true) × IsWaiting h x) (λ x. x.hart ≡ h) (λ x z. z.1.own) out known in
    let now = outside_atomic h items [] (node_at s h).reserved (node_at t h).reserved (done s.trace) out (below_at s o h m) (record { marked = tt; later = tt })
    (λ r b c. drain_still s.views.config.model h word items (node_at s h).buffer (done s.trace) k r c)
    (Each-weaker (λ x. (of_word word x ≡ true) × IsWaiting h x) IsOutside (λ x z. (ap is_lr z.1.plain, ap is_sc z.1.plain)) out known) own ((drained_less h word s).less h) tt (a.each h m) in
    step_atomic h (drained_names h word s) s t out (drained_step h word s l m o).changes (drained_done h word s l m o) own fit o a
    (Each-weaker (λ x. (of_word word x ≡ true) × IsWaiting h x) (λ x. (y : ℕ) → stores_to y x ≡ true → Writable (node_at s h) (word_of y))
    (λ x z y e. subst (Writable (node_at s h)) (sym (store_word word y x z.1.in_word (eqb-true (word_of x.address) word z.0) e)) (trunk_writable (node_at s h) word trunk.0 trunk.1 trunk.2)) out known)
    (λ j d. (drained_less h word s).less j)
    (subst (λ is. Atomic h is (node_at t h).reserved (done s.trace ++ out)) (append-nil items ∙ sym (items_same s.trace t.trace mv.image mv.entries h)) now)

-- ---- instructions

done_stands : (t : History) (ns : List OpId) → Each (IsResolved t) ns → Each (Stands t) (operations_at (instructions t) ns)
done_stands t [] r = tt
done_stands t (n ∷ ns) r =
    let b = operation_at-bears t n r.0.0 r.0.1 in
    subst (λ o. Each (Stands t) (cons_option o (operations_at (instructions t) ns))) (sym r.0.1)
    (subst (λ h. gave_at (items_at t h) r.0.0.place ≡ Some r.0.0) (sym b.hart_is) (subst (λ p. gave_at (items_at t n.hart) p ≡ Some r.0.0) (sym b.place_is) (sym (operation_is t n) ∙ r.0.1)), done_stands t ns r.1)

retired_less : (h : ℕ) (entry : Retired) (i : Instr) (s : State) → LosesReservations s (retired h entry i s)
retired_less h entry i s =
    let n = record (node_at s h) { hart = after_instr (node_at s h).hart entry (Some i) } in
    record { less = λ k w e. (node_less h n s (λ v f. f)).less k w (sym (ap (λ (x : Node). x.reserved) (node-with_trace (with_node h n s) (retired h entry i s).trace k (image-with_halt h _ _))) ∙ e) }

retired_atomic : (h : ℕ) (entry : Retired) (i : Instr) (d : Deed) (s : State) → h < s.views.config.harts → AllStand s → is_step s.trace.image (node_at s h).hart entry ≡ true → decoded entry.word ≡ Some i
    → (f : Fetched) → f.instr ≡ i → f.place ≡ next_place s h → FitsDeed s.views.config.model (node_at s h) f (access_of i (node_at s h).hart.regs) entry d → Fits s → OrderKept s → AllAtomic s → AllAtomic (retired h entry i (does s.views.config.model h d s))
retired_atomic h entry i d s l st step dec f fi fp fits fit o a =
    let model = s.views.config.model in
    let n = node_at s h in
    let u = does s.views.config.model h d s in
    let t = retired h entry i (does s.views.config.model h d s) in
    let items = items_at s.trace h in
    let m = new_item h entry s.trace in
    let next = reserved_by d (node_at s h).reserved in
    let access = access_of i (node_at s h).hart.regs in
    let names = names_by h (next_place s h) d in
    let here = length-items_from 0 (at_reset s.trace.image h (length s.trace.entries)) (entries_of s.trace h) in
    let p = retired_step h entry i d s l st step dec f fi fp fits o in
    let is_longer : items_at t.trace h ≡ items ++ m ∷ [] = items_here h entry s.trace t.trace (retired_trace h entry i d s l st) (subst (λ x. h < x) (sym st.entries) l) in
    let moved = does_reserved model h d s (subst (λ x. h < x) (sym st.nodes) l) in
    let gave = retired_gave h entry i s l st dec f fi in
    let known = retired_known h entry i s step dec f fi in
    let k = o.each h l in
    let before : Before h items n.buffer (done s.trace) m = record {
      below = below_at s o h l;
      places = k.kept.item_places;
      distinct = o.distinct;
      found = Each-weaker (Stands s.trace) (λ r. r.hart ≡ h → gave_at items r.place ≡ Some r) (λ r q e. subst (λ j. gave_at (items_at s.trace j) r.place ≡ Some r) e q) (done s.trace) (done_stands s.trace s.trace.performed o.resolved);
      marked = marked_item (length (entries_of s.trace h)) (reached (at_reset s.trace.image h (length s.trace.entries)) (entries_of s.trace h)) entry;
      here = sym here;
      waiting = none_of_word model h items n.buffer (done s.trace) k;
    } in
    let kind = deed_is model h (length items) (annotations_of f.instr) n f entry access d m (ap is_lr_or_sc dec ∙ pairing_is i n.hart.regs) gave known fits in
    let writes = deed_writes model h (length items) (annotations_of f.instr) n f entry access d m gave known fits (λ word r. subst (λ z. is_trunk (perm_of (copy_at n.cache (line_of z word))) ≡ true) (sym (fit.1.sized h)) (fit.1.reserved h word r)) in
    let outcome : (WritesWhere s h p.performs.out × Atomic h (items ++ m ∷ []) next (done s.trace ++ p.performs.out)) =
    go s h items n.buffer n.reserved next m (names_by h (length items) d) p.performs.out before kind (a.each h l) writes
    (out_is model h items (items_at t.trace h) (node_at t h).buffer (done s.trace) m d names is_longer (ap (λ q. names_by h q d) (sym here)) p.performs) in
    step_atomic h names s t p.performs.out p.changes (done_more h names s t p.changes p.performs o.resolved) p.performs.own fit o a outcome.0 (λ j ne w e. moved.there j ne w ((retired_less h entry i u).less j w e))
    (subst (λ is. Atomic h is (node_at t h).reserved (done s.trace ++ p.performs.out)) (sym is_longer) (atomic_less h (items ++ m ∷ []) next (node_at t h).reserved (done s.trace ++ p.performs.out) (λ w e. moved.here w ((retired_less h entry i u).less h w e)) outcome.1))
  where
    go : (s : State) (h : ℕ) (items : List Item) (buffer : Groups) (old next : Option ℕ) (m : Item) (names : List OpId) (out : List Operation) → Before h items buffer (done s.trace) m → Plain m old next ⊎ (Ends m old next ⊎ Takes m buffer names next) → Atomic h items old (done s.trace)
        → ((names ≡ [] → ⊥) → (j : Operation) → m.operation ≡ Some j → (x : ℕ) → stores_to x j ≡ true → Writable (node_at s h) (word_of x)) → ((names ≡ []) × (out ≡ [])) ⊎ ((names ≡ [] → ⊥) × (j : Operation) × (out ≡ j ∷ []) × IsNewest h (length items) m j)
        → WritesWhere s h out × Atomic h (items ++ m ∷ []) next (done s.trace ++ out)
    go s h items buffer old next m names out b kind k w (inl q) =
        subst (λ v. WritesWhere s h v × Atomic h (items ++ m ∷ []) next (done s.trace ++ v)) (sym q.1) (tt, none_atomic h items buffer old next (done s.trace) m names q.0 b kind k)
    go s h items buffer old next m names out b kind k w (inr q) =
        subst (λ v. WritesWhere s h v × Atomic h (items ++ m ∷ []) next (done s.trace ++ v)) (sym q.2) ((w q.0 q.1 q.3.gave, tt), once_atomic h items buffer old next (done s.trace) m names q.1 q.3 b kind k)

-- ---- private instructions

private_not : (x : Access) → is_private x ≡ true → is_pairing x ≡ false
private_not Private e = refl
private_not (Loads address bytes) e = refl
private_not (Stores address bytes value) e = refl
private_not (DoesLr address) e = absurd (false≢true e)
private_not (DoesSc address value) e = absurd (false≢true e)
private_not (DoesAmo address op operand) e = refl
private_not Fences e = refl
private_not (Calls number argument) e = refl

alone_not : (hart : Hart) (o : Option Instr) → is_done_alone hart o ≡ true → is_lr_or_sc o ≡ false
alone_not hart None e = absurd (false≢true e)
alone_not hart (Some i) e = pairing_is i hart.regs ∙ private_not (access_of i hart.regs) (and_parts (is_private (access_of i hart.regs)) _ e).0

row_plain : (image : Initial) (count : ℕ) (hart : Hart) → Each (λ (e : Retired). is_lr_or_sc (decoded e.word) ≡ false) (private_row image hart count)
row_plain image zero hart = tt
row_plain image (suc count) hart = go (can_go_alone image hart) refl (row_plain image count (after hart (next_entry image hart)))
  where
    go : (b : Bool) → can_go_alone image hart ≡ b → Each (λ (e : Retired). is_lr_or_sc (decoded e.word) ≡ false) (private_row image (after hart (next_entry image hart)) count) → Each (λ (e : Retired). is_lr_or_sc (decoded e.word) ≡ false) (cond b (next_entry image hart ∷ private_row image (after hart (next_entry image hart)) count) [])
    go false f ih = tt
    go true f ih = (alone_not hart (decoded (word_at image hart.pc)) (and_parts (is_running hart.status && can_fetch image hart.pc) (is_done_alone hart (decoded (word_at image hart.pc))) f).1, ih)

items_append : (place : ℕ) (hart : Hart) (es fs : List Retired) → items_from place hart (es ++ fs) ≡ items_from place hart es ++ items_from (place + length es) (reached hart es) fs
items_append place hart [] fs = ap (λ n. items_from n hart fs) (omega arith)
items_append place hart (e ∷ es) fs = ap (λ ms. item_of place hart e ∷ ms) (items_append (place + 1) (after hart e) es fs ∙ ap (λ n. items_from (place + 1) (after hart e) es ++ items_from n (reached (after hart e) es) fs) (omega arith))

items_later : (n place : ℕ) (hart : Hart) (es : List Retired) → n ≤ place → AreLater n (items_from place hart es)
items_later n place hart [] l = record { marked = tt; later = tt }
items_later n place hart (e ∷ es) l = let r = items_later n (place + 1) (after hart e) es (omega (arith, l)) in record { marked = (marked_item place hart e, r.marked); later = (l, r.later) }

items_plain : (place : ℕ) (hart : Hart) (es : List Retired) → Each (λ (e : Retired). is_lr_or_sc (decoded e.word) ≡ false) es → Each (λ (m : Item). is_lr_or_sc m.instr ≡ false) (items_from place hart es)
items_plain place hart [] h = tt
items_plain place hart (e ∷ es) h = (h.0, items_plain (place + 1) (after hart e) es h.1)

longer_items : (h : ℕ) (row : List Retired) (old new : History) → new.image ≡ old.image → new.entries ≡ slice_set old.entries h (entries_of old h ++ row) → h < length old.entries
    → items_at new h ≡ items_at old h ++ items_from (length (entries_of old h)) (reached (at_reset old.image h (length old.entries)) (entries_of old h)) row
longer_items h row old new image entries l =
    rw (image, ap length entries ∙ length-set old.entries h (entries_of old h ++ row), ap (λ es. slice_index_or es h []) entries ∙ get_or-set_same old.entries h (entries_of old h ++ row) [] l)
    (items_append 0 (at_reset old.image h (length old.entries)) (entries_of old h) row ∙ ap (λ n. items_at old h ++ items_from n (reached (at_reset old.image h (length old.entries)) (entries_of old h)) row) (omega arith))

alone_atomic : (h count : ℕ) (s : State) → h < s.views.config.harts → AllStand s → Fits s → OrderKept s → AllAtomic s → AllAtomic (went_alone h count s)
alone_atomic h count s l st fit o a =
    let t = went_alone h count s in
    let row = private_row s.trace.image (node_at s h).hart count in
    let g = alone_grown h count s l st o in
    let items = items_at s.trace h in
    let l' = subst (λ x. h < x) (sym st.entries) l in
    let here = length-items_from 0 (at_reset s.trace.image h (length s.trace.entries)) (entries_of s.trace h) in
    let last = reached (at_reset s.trace.image h (length s.trace.entries)) (entries_of s.trace h) in
    let more = items_from (length (entries_of s.trace h)) last row in
    let is_longer : items_at t.trace h ≡ items ++ more = longer_items h row s.trace t.trace g.image (entries-with_entries h row s.trace l') l' in
    let n = record (node_at s h) { hart = reached (node_at s h).hart row } in
    let less : LosesReservations s t = record { less = λ k w e. (node_less h n s (λ v f. f)).less k w (sym (ap (λ (x : Node). x.reserved) (node-with_trace (with_node h n s) t.trace k g.image)) ∙ e) } in
    let now = outside_atomic h items more (node_at s h).reserved (node_at t h).reserved (done s.trace) [] (below_at s o h l) (items_later (length items) (length (entries_of s.trace h)) last row (omega (arith, here))) (λ r b c. record { still = λ mine reads x z. tt }) tt tt (less.less h)
    (items_plain (length (entries_of s.trace h)) last row (row_plain s.trace.image count (node_at s h).hart)) (a.each h l) in
    step_atomic h [] s t [] (alone_step h count s l st o).changes
    (ap (operations_at (instructions t.trace)) g.performed_is ∙ (operations_on s.trace t.trace g.extends s.trace.performed o.resolved ∙ sym (append-nil (done s.trace)))) tt fit o a tt (λ k d. less.less k)
    (subst (λ is. Atomic h is (node_at t h).reserved (done s.trace ++ [])) (sym is_longer) now)

-- ---- any act

pub acted_atomic : (h : ℕ) (x : Act) (s : State) → h < s.views.config.harts → AllStand s → IsFit s h x → Fits s → OrderKept s → AllAtomic s → AllAtomic (acted h x s)
acted_atomic h (act.Retire e i d) s l st p fit o a = retired_atomic h e i d s l st p.0 p.1 p.2 p.3 p.4 p.5 fit o a
acted_atomic h (act.Drain word) s l st p fit o a = drained_atomic h word s (subst (λ n. h < n) (sym st.nodes) l) l p fit o a
acted_atomic h (act.Local count) s l st p fit o a = alone_atomic h count s l st fit o a
acted_atomic h x s l st p fit o a = atomic_still s _ (quiet_keeps h x s tt) (quiet_less h x s tt) a
