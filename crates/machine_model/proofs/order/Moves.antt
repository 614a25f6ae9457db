-- What is kept of all harts, and what a change of one hart's part of it leaves of the others.
use Rattle.std.proofs.Common.{◌≡◌, ◌≢◌, ℕ, ◌<◌, List, [], ◌∷◌, ◌++◌, Bool, true, false, Some, refl, cond, sym, ap, ◌∙◌, subst, not, append_assoc, append-nil, map, length, ◌⊎◌, inl, inr}
use Rattle.std.specs.Prelude.{nat_eq}
use Rattle.std.specs.List.{AllByRecursion as Each, filter}
use Rattle.std.proofs.lemmas.Bool.{not-true}
use Rattle.std.proofs.lemmas.Bool.Decides.{eqb_tells}
use Rattle.std.proofs.lemmas.List.{map-append, length-set}
use Rattle.std.proofs.lemmas.List.Elements.{filter_map-append}
use Rattle.machine_model.specs.Changing.{performs, drained, writes_word}
use Rattle.machine_types.specs.declared.config.Config.{Config}
use Rattle.machine_model.specs.Views.{State, node_at}
use Rattle.machine_model.proofs.order.Buffers.{KeepsBuffers, Moves, moves_on, node_keeps, names_at, performs_moves, buffer_after}
use Rattle.machine_model.proofs.order.Kept.{joined, kept_group, of_word, IsWaiting, Kept, joined-kept, foreign_keeps, drain_sealed_keeps, drain_open_keeps}
use Rattle.machine_model.proofs.order.Lists.{Pairwise-left, others}
use Rattle.machine_model.proofs.order.Split.{Split, IsNamed, gave_at, absent, turned, split_drain, split_foreign, waiting_absent, waiting_distinct, waiting_named}
use Rattle.machine_model.proofs.order.Steps.{HartKept, Performs, stores_of, store_of_operation, waiting_of}
use Rattle.machine_model.proofs.order.Traces.{items_at, items_same, done, IsResolved, Extends, extends_same, operations_on, operations_named, resolved_on, resolved_named, Stands}
use Rattle.machine_types.specs.declared.model.MemoryModel.{MemoryModel}
use Rattle.memory_model.specs.declared.operation.Operation.{Operation}
use Rattle.memory_model.specs.Items.{Item}
use Rattle.memory_model.specs.Operations.{same}
use Rattle.memory_model.specs.Traces.{instructions, operation_at, operations_at}
use Rattle.memory_model.specs.Verdict.{name_of}
use Rattle.memory_model.proofs.Lists.{Each-append, Each-left, Each-weaker, Each-kept, Pairwise-append, Pairwise-filter}
use Rattle.memory_model.proofs.Named.{each_not, EachOnce}
use Rattle.store_buffer.specs.Entry.{entry_of}
use Rattle.store_buffer.specs.Groups.{Groups, after_take, oldest}
use Rattle.store_buffer.specs.Stores.{entries_in, entries_of, is_to_word, is_elsewhere, kept_stores}
use Rattle.store_buffer.specs.declared.entry.Entry.{Entry}
use Rattle.store_buffer.specs.declared.entry.Store.{Store}
use Rattle.store_buffer.proofs.StoreLaws.{ops_are_filter, oldest_is_first, take_is_drained}
use Rattle.trace_recorder.specs.History.{History}
use Rattle.trace_recorder.specs.declared.operation.OpId.{OpId}

pub record OrderKept (s : State) : Type 0 where
  pub each : (h : ℕ) → h < s.views.config.harts → HartKept s.views.config.model h (items_at s.trace h) (node_at s h).buffer (done s.trace)
  pub resolved : Each (IsResolved s.trace) s.trace.performed
  pub distinct : EachOnce (done s.trace)

kept_same : (model model' : MemoryModel) (h : ℕ) (items items' : List Item) (buffer buffer' : Groups) (performed performed' : List Operation) → model' ≡ model → items' ≡ items → buffer' ≡ buffer → performed' ≡ performed → HartKept model h items buffer performed → HartKept model' h items' buffer' performed'
kept_same model model' h items items' buffer buffer' performed performed' a b c d k =
    subst (λ m. HartKept m h items' buffer' performed') (sym a) (subst (λ i. HartKept model h i buffer' performed') (sym b) (subst (λ g. HartKept model h items g performed') (sym c) (subst (λ p. HartKept model h items buffer p) (sym d) k)))

-- ---- nothing of it changes

pub done_same : (old new : History) → new.image ≡ old.image → new.entries ≡ old.entries → new.performed ≡ old.performed → done new ≡ done old
done_same old new i e p = rw (i, e, p) refl

pub order_still : (s t : State) → KeepsBuffers s t → OrderKept s → OrderKept t
order_still s t k o = record {
  each = λ h l. kept_same s.views.config.model t.views.config.model h (items_at s.trace h) (items_at t.trace h) (node_at s h).buffer (node_at t h).buffer (done s.trace) (done t.trace)
      (ap (λ (c : Config). c.model) k.config) (items_same s.trace t.trace k.image k.entries h) (k.buffers h) (done_same s.trace t.trace k.image k.entries k.performed) (o.each h (subst (λ (c : Config). h < c.harts) k.config l));
  resolved = subst (Each (IsResolved t.trace)) (sym k.performed) (resolved_on s.trace t.trace (extends_same s.trace t.trace k.image k.entries) s.trace.performed o.resolved);
  distinct = subst EachOnce (sym (done_same s.trace t.trace k.image k.entries k.performed)) o.distinct;
}

-- ---- one hart's part changes

hart_foreign : (model : MemoryModel) (h k : ℕ) (items : List Item) (buffer : Groups) (performed out : List Operation) → k ≢ h → Each (λ a. a.hart ≡ h) out → HartKept model k items buffer performed → HartKept model k items buffer (performed ++ out)
hart_foreign model h k items buffer performed out d own q =
    let foreign : Each (λ a. a.hart ≡ k → ⊥) out = Each-weaker (λ a. a.hart ≡ h) (λ a. a.hart ≡ k → ⊥) (λ a e f. d (sym f ∙ e)) out own in
    record {
      sealed = q.sealed;
      current = q.current;
      buffer_is = q.buffer_is;
      kept = foreign_keeps model k items q.sealed q.current performed out foreign q.kept;
      split = split_foreign k items (joined q.sealed ++ q.current) performed out foreign q.split;
    }

-- the hart h performed these operations, and its list may have grown
pub record Changes (h : ℕ) (names : List OpId) (s t : State) : Type 0 where
  pub config : t.views.config ≡ s.views.config
  pub performed : t.trace.performed ≡ s.trace.performed ++ names
  pub extends : Extends s.trace t.trace
  pub items : (k : ℕ) → k ≢ h → items_at t.trace k ≡ items_at s.trace k
  pub buffers : (k : ℕ) → k ≢ h → (node_at t k).buffer ≡ (node_at s k).buffer

stands_own : (t : History) (h : ℕ) (out : List Operation) → Each (λ a. a.hart ≡ h) out → Each (λ a. gave_at (items_at t h) a.place ≡ Some a) out → Each (Stands t) out
stands_own t h [] o f = tt
stands_own t h (a ∷ out) o f = (ap (λ k. gave_at (items_at t k) a.place) o.0 ∙ f.0, stands_own t h out o.1 f.1)

pub done_by : (h : ℕ) (names : List OpId) (s t : State) → Changes h names s t → (out : List Operation) → map name_of out ≡ names → Each (λ a. a.hart ≡ h) out → Each (λ a. gave_at (items_at t.trace h) a.place ≡ Some a) out → Each (IsResolved s.trace) s.trace.performed → done t.trace ≡ done s.trace ++ out
done_by h names s t c out named own found r =
    ap (operations_at (instructions t.trace)) c.performed
    ∙ (filter_map-append (operation_at (instructions t.trace)) s.trace.performed names
    ∙ (ap (λ v. v ++ operations_at (instructions t.trace) names) (operations_on s.trace t.trace c.extends s.trace.performed r)
    ∙ ap (λ v. done s.trace ++ v) (ap (operations_at (instructions t.trace)) (sym named) ∙ operations_named t.trace out (stands_own t.trace h out own found))))

pub done_more : (h : ℕ) (names : List OpId) (s t : State) → Changes h names s t → (p : Performs s.views.config.model h (items_at t.trace h) (node_at t h).buffer (done s.trace) names) → Each (IsResolved s.trace) s.trace.performed → done t.trace ≡ done s.trace ++ p.out
done_more h names s t c p r = done_by h names s t c p.out p.named p.own p.found r

pub order_changes : (h : ℕ) (names : List OpId) (s t : State) → Changes h names s t → Performs s.views.config.model h (items_at t.trace h) (node_at t h).buffer (done s.trace) names → OrderKept s → OrderKept t
order_changes h names s t c p o = record {
  each = λ k l. each k (subst (λ (x : Config). k < x.harts) c.config l) (eqb_tells k h);
  resolved = subst (Each (IsResolved t.trace)) (sym c.performed) (Each-append (IsResolved t.trace) s.trace.performed names (resolved_on s.trace t.trace c.extends s.trace.performed o.resolved)
      (subst (Each (IsResolved t.trace)) p.named (resolved_named t.trace p.out (stands_own t.trace h p.out p.own p.found))));
  distinct = subst EachOnce (sym (done_more h names s t c p o.resolved)) (p.distinct o.distinct);
}
  where
    model_is : t.views.config.model ≡ s.views.config.model
    model_is = ap (λ (x : Config). x.model) c.config

    each : (k : ℕ) → k < s.views.config.harts → ((nat_eq k h ≡ true) × (k ≡ h)) ⊎ ((nat_eq k h ≡ false) × (k ≢ h)) → HartKept t.views.config.model k (items_at t.trace k) (node_at t k).buffer (done t.trace)
    each k l (inl e) =
        subst (λ j. HartKept t.views.config.model j (items_at t.trace j) (node_at t j).buffer (done t.trace)) (sym e.1)
        (kept_same s.views.config.model t.views.config.model h (items_at t.trace h) (items_at t.trace h) (node_at t h).buffer (node_at t h).buffer (done s.trace ++ p.out) (done t.trace) model_is refl refl (done_more h names s t c p o.resolved) p.kept)
    each k l (inr e) =
        kept_same s.views.config.model t.views.config.model k (items_at s.trace k) (items_at t.trace k) (node_at s k).buffer (node_at t k).buffer (done s.trace ++ p.out) (done t.trace) model_is (c.items k e.1) (c.buffers k e.1) (done_more h names s t c p o.resolved)
        (hart_foreign s.views.config.model h k (items_at s.trace k) (node_at s k).buffer (done s.trace) p.out e.1 p.own (o.each k l))

-- ---- drains

filter-stores : (q : Store → Bool) (p : Operation → Bool) → ((a : Operation) → q (store_of_operation a) ≡ p a) → (g : List Operation) → filter q (stores_of g) ≡ stores_of (filter p g)
filter-stores q p f [] = refl
filter-stores q p f (a ∷ g) = ap (λ b. cond b (store_of_operation a ∷ filter q (stores_of g)) (filter q (stores_of g))) (f a) ∙ at (p a) (filter-stores q p f g)
  where
    at : (b : Bool) → filter q (stores_of g) ≡ stores_of (filter p g) → cond b (store_of_operation a ∷ filter q (stores_of g)) (filter q (stores_of g)) ≡ stores_of (cond b (a ∷ filter p g) (filter p g))
    at true e = ap (λ v. store_of_operation a ∷ v) e
    at false e = e

places_of : (g : List Operation) → map (λ (s : Store). s.op) (stores_of g) ≡ map (λ (a : Operation). a.place) g
places_of [] = refl
places_of (a ∷ g) = ap (λ v. a.place ∷ v) (places_of g)

named_own : (h : ℕ) (g : List Operation) → Each (λ a. a.hart ≡ h) g → map name_of g ≡ names_at h (map (λ (a : Operation). a.place) g)
named_own h [] o = refl
named_own h (a ∷ g) o = ap (λ k. record { hart = k; place = a.place } ∷ map name_of g) o.0 ∙ ap (λ v. record { hart = h; place = a.place } ∷ v) (named_own h g o.1)

-- the places of a word's entry in the group that stands first
pub drained_places : (h word : ℕ) (buffer : Groups) (g : List Operation) → oldest buffer ≡ entries_of (stores_of g) → Each (λ a. a.hart ≡ h) (filter (of_word word) g) → map name_of (filter (of_word word) g) ≡ names_at h (entry_of word (oldest buffer)).ops
drained_places h word buffer g e own =
    named_own h (filter (of_word word) g) own
    ∙ ap (names_at h) (sym (ap (λ (es : List Entry). (entry_of word es).ops) e ∙ (ops_are_filter word (stores_of g) ∙ (ap (map (λ (s : Store). s.op)) (filter-stores (is_to_word word) (of_word word) (λ a. refl) g) ∙ places_of (filter (of_word word) g)))))

pub drain_parts : (model : MemoryModel) (h word : ℕ) (items : List Item) (performed g rest : List Operation) → Split h items (g ++ rest) performed → Each (IsWaiting h) g → EachOnce performed → EachOnce (performed ++ filter (of_word word) g)
drain_parts model h word items performed g rest k own d =
    let out = filter (of_word word) g in
    Pairwise-append (λ a b. same a b ≡ false) performed out d (Pairwise-filter (λ a b. same a b ≡ false) (of_word word) g (Pairwise-left (λ a b. same a b ≡ false) g rest (waiting_distinct h items (g ++ rest) performed k)))
    (turned out performed (Each-weaker (λ a. absent performed a ≡ true) (λ a. Each (λ b. same a b ≡ false) performed) (λ a e. each_not (same a) performed (not-true _ e)) out (Each-kept (λ a. absent performed a ≡ true) (of_word word) g (Each-left (λ a. absent performed a ≡ true) g rest (waiting_absent h items (g ++ rest) performed k)))))

kept_stores-is : (g : List Operation) → kept_stores (stores_of g) ≡ map stores_of (kept_group g)
kept_stores-is [] = refl
kept_stores-is (a ∷ g) = refl

-- the group that stands first, and what waits behind it
abbrev pub oldest_group : List (List Operation) → List Operation → List Operation
oldest_group [] current = current
oldest_group (g ∷ gs) current = g

abbrev pub younger : List (List Operation) → List Operation → List Operation
younger [] current = []
younger (g ∷ gs) current = joined gs ++ current

pub oldest_line : (sealed : List (List Operation)) (current : List Operation) → joined sealed ++ current ≡ oldest_group sealed current ++ younger sealed current
oldest_line [] current = sym (append-nil current)
oldest_line (g ∷ gs) current = append_assoc g (joined gs) current

pub oldest_is : (sealed : List (List Operation)) (current : List Operation) → oldest (entries_in (waiting_of sealed current)) ≡ entries_of (stores_of (oldest_group sealed current))
oldest_is [] current = oldest_is_first (waiting_of [] current)
oldest_is (g ∷ gs) current = oldest_is_first (waiting_of (g ∷ gs) current)

rest_is : (word : ℕ) (g : List Operation) → filter (is_elsewhere word) (stores_of g) ≡ stores_of (others (of_word word) g)
rest_is word g = filter-stores (is_elsewhere word) (λ a. not (of_word word a)) (λ a. refl) g

regrouped : (word : ℕ) (g : List Operation) (gs : List (List Operation)) (current : List Operation) → others (of_word word) g ++ (joined gs ++ current) ≡ joined (kept_group (others (of_word word) g) ++ gs) ++ current
regrouped word g gs current = sym (ap (λ v. v ++ current) (joined-kept (others (of_word word) g) gs) ∙ append_assoc (others (of_word word) g) (joined gs) current)

pub drain_hart : (model : MemoryModel) (h word : ℕ) (items : List Item) (buffer : Groups) (performed : List Operation) (sealed : List (List Operation)) (current : List Operation) → buffer ≡ entries_in (waiting_of sealed current) → Kept model h items sealed current performed → Split h items (oldest_group sealed current ++ younger sealed current) performed
    → HartKept model h items (after_take word buffer) (performed ++ filter (of_word word) (oldest_group sealed current))
drain_hart model h word items buffer performed [] g e q split = record {
  sealed = [];
  current = others (of_word word) g;
  buffer_is = ap (after_take word) e ∙ (take_is_drained word (waiting_of [] g) ∙ ap (λ c. entries_in (record { sealed = []; current = c })) (rest_is word g));
  kept = drain_open_keeps model h items g performed word q;
  split = subst (λ v. Split h items v (performed ++ filter (of_word word) g)) (append-nil (others (of_word word) g)) (split_drain h items g [] performed (of_word word) split);
}
drain_hart model h word items buffer performed (g ∷ gs) current e q split = record {
  sealed = kept_group (others (of_word word) g) ++ gs;
  current = current;
  buffer_is = ap (after_take word) e ∙ (take_is_drained word (waiting_of (g ∷ gs) current) ∙ ap (λ v. entries_in (record { sealed = v; current = stores_of current }))
      (ap (λ v. kept_stores v ++ map stores_of gs) (rest_is word g) ∙ (ap (λ v. v ++ map stores_of gs) (kept_stores-is (others (of_word word) g)) ∙ sym (map-append stores_of (kept_group (others (of_word word) g)) gs))));
  kept = drain_sealed_keeps model h items g gs current performed word q;
  split = subst (λ v. Split h items v (performed ++ filter (of_word word) g)) (regrouped word g gs current) (split_drain h items g (joined gs ++ current) performed (of_word word) split);
}

-- the operations that a drain of the word performs
abbrev pub drained_out : {model : MemoryModel} {h : ℕ} {items : List Item} {buffer : Groups} {performed : List Operation} → ℕ → HartKept model h items buffer performed → List Operation
drained_out word k = filter (of_word word) (oldest_group k.sealed k.current)

pub oldest_waiting : (model : MemoryModel) (h : ℕ) (items : List Item) (buffer : Groups) (performed : List Operation) (k : HartKept model h items buffer performed) → Each (IsWaiting h) (oldest_group k.sealed k.current)
oldest_waiting model h items buffer performed k = Each-left (IsWaiting h) (oldest_group k.sealed k.current) (younger k.sealed k.current) (subst (Each (IsWaiting h)) (oldest_line k.sealed k.current) k.kept.waiting)

abbrev pub drain_performs : (model : MemoryModel) (h word : ℕ) (items : List Item) (buffer : Groups) (performed : List Operation) → HartKept model h items buffer performed → Performs model h items (after_take word buffer) performed (names_at h (entry_of word (oldest buffer)).ops)
drain_performs model h word items buffer performed k =
    let g = oldest_group k.sealed k.current in
    let rest = younger k.sealed k.current in
    let split = subst (λ v. Split h items v performed) (oldest_line k.sealed k.current) k.split in
    let own = oldest_waiting model h items buffer performed k in
    let mine = Each-weaker (IsWaiting h) (λ a. a.hart ≡ h) (λ a z. z.own) (filter (of_word word) g) (Each-kept (IsWaiting h) (of_word word) g own) in
    record {
      out = filter (of_word word) (oldest_group k.sealed k.current);
      named = drained_places h word buffer g (ap oldest k.buffer_is ∙ oldest_is k.sealed k.current) mine;
      own = mine;
      found = Each-weaker (IsNamed h items) (λ a. gave_at items a.place ≡ Some a) (λ a z. z.found) (filter (of_word word) g) (Each-kept (IsNamed h items) (of_word word) g (Each-left (IsNamed h items) g rest (waiting_named h items (g ++ rest) performed split)));
      distinct = drain_parts model h word items performed g rest split own;
      kept = drain_hart model h word items buffer performed k.sealed k.current k.buffer_is k.kept split;
    }

performs_count : (h : ℕ) (places : List ℕ) (s : State) → length (performs h places s).views.nodes ≡ length s.views.nodes
performs_count h [] s = refl
performs_count h (place ∷ places) s = performs_count h places _

pub drained_moves : (h word : ℕ) (s : State) → h < length s.views.nodes → Moves h (after_take word (node_at s h).buffer) (names_at h (entry_of word (oldest (node_at s h).buffer)).ops) s (drained h word s)
drained_moves h word s l =
    let e = entry_of word (oldest (node_at s h).buffer) in
    let did = performs h e.ops s in
    let stored = writes_word h word e.mask e.bytes did in
    buffer_after h (node_at s h).buffer (after_take word (node_at s h).buffer) (names_at h e.ops) s stored (moves_on h _ _ s did stored (performs_moves h e.ops s) (node_keeps h _ did refl))
    (subst (λ n. h < n) (sym (length-set did.views.nodes h _ ∙ performs_count h e.ops s)) l)

moves_changes : (h : ℕ) (buffer : Groups) (names : List OpId) (s t : State) → Moves h buffer names s t → Changes h names s t
moves_changes h buffer names s t m = record {
  config = m.config;
  performed = m.performed;
  extends = extends_same s.trace t.trace m.image m.entries;
  items = λ k d. items_same s.trace t.trace m.image m.entries k;
  buffers = m.there;
}

-- a change of one hart, with what it performed
pub record Step (h : ℕ) (names : List OpId) (s t : State) : Type 0 where
  pub changes : Changes h names s t
  pub performs : Performs s.views.config.model h (items_at t.trace h) (node_at t h).buffer (done s.trace) names

pub step_kept : (h : ℕ) (names : List OpId) (s t : State) → Step h names s t → OrderKept s → OrderKept t
step_kept h names s t p o = order_changes h names s t p.changes p.performs o

-- the same of other items and another buffer
pub performs_same : (model : MemoryModel) (h : ℕ) (items items' : List Item) (buffer buffer' : Groups) (performed : List Operation) (names : List OpId) → items' ≡ items → buffer' ≡ buffer → Performs model h items buffer performed names → Performs model h items' buffer' performed names
performs_same model h items items' buffer buffer' performed names e f p = subst (λ b. Performs model h items' b performed names) (sym f) (subst (λ is. Performs model h is buffer performed names) (sym e) p)

abbrev pub drained_names : ℕ → ℕ → State → List OpId
drained_names h word s = names_at h (entry_of word (oldest (node_at s h).buffer)).ops

pub drained_step : (h word : ℕ) (s : State) → h < length s.views.nodes → (l : h < s.views.config.harts) → OrderKept s → Step h (drained_names h word s) s (drained h word s)
drained_step h word s l m o =
    let mv = drained_moves h word s l in
    record {
      changes = moves_changes h _ (names_at h (entry_of word (oldest (node_at s h).buffer)).ops) s (drained h word s) mv;
      performs = performs_same s.views.config.model h (items_at s.trace h) (items_at (drained h word s).trace h) (after_take word (node_at s h).buffer) (node_at (drained h word s) h).buffer (done s.trace) (names_at h (entry_of word (oldest (node_at s h).buffer)).ops)
          (items_same s.trace (drained h word s).trace mv.image mv.entries h) mv.here (drain_performs s.views.config.model h word (items_at s.trace h) (node_at s h).buffer (done s.trace) (o.each h m));
    }

pub order_drained : (h word : ℕ) (s : State) → h < length s.views.nodes → h < s.views.config.harts → OrderKept s → OrderKept (drained h word s)
order_drained h word s l m o = step_kept h (drained_names h word s) s (drained h word s) (drained_step h word s l m o) o

-- what a drain adds to the performed operations
pub drained_done : (h word : ℕ) (s : State) → h < length s.views.nodes → (m : h < s.views.config.harts) → (o : OrderKept s) → done (drained h word s).trace ≡ done s.trace ++ drained_out word (o.each h m)
drained_done h word s l m o =
    let mv = drained_moves h word s l in
    let names = names_at h (entry_of word (oldest (node_at s h).buffer)).ops in
    let t = drained h word s in
    let k = o.each h m in
    let p = drain_performs s.views.config.model h word (items_at s.trace h) (node_at s h).buffer (done s.trace) k in
    let found : Each (λ a. gave_at (items_at t.trace h) a.place ≡ Some a) (drained_out word k) = subst (λ is. Each (λ a. gave_at is a.place ≡ Some a) (drained_out word k)) (sym (items_same s.trace t.trace mv.image mv.entries h)) p.found in
    done_by h names s t (moves_changes h _ names s t mv) (drained_out word k) p.named p.own found o.resolved
