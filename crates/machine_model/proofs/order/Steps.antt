-- What each deed of a retiring instruction does to what is kept of its hart.
use Rattle.std.proofs.Common.{◌≡◌, ℕ, ◌+◌, ◌%◌, ◌≤◌, List, [], ◌∷◌, ◌++◌, Bool, true, false, Option, Some, None, refl, cond, sym, ap, ◌∙◌, subst, not, ◌&&◌, ◌||◌, append-nil, append_assoc, arith, length, map}
use Rattle.std.specs.Prelude.{option_and_then}
use Rattle.std.specs.List.{AllByRecursion as Each, list_any}
use Rattle.std.proofs.lemmas.Bool.{false≢true, true≢false, and_left, and_right, and_parts, or_from, or_parts, eqb-false, eqb-true}
use Rattle.std.proofs.lemmas.List.{map-append}
use Rattle.hart.specs.declared.retired.Retired.{Retired}
use Rattle.machine_model.specs.declared.act.Deed.{Deed}
use Rattle.machine_model.specs.declared.act.Deed.TheVariants as deed
use Rattle.machine_model.specs.Changing.{put_behind as buffered_behind}
use Rattle.machine_model.specs.Steps.{Fetched, waits_for_stores, write_waits}
use Rattle.machine_model.specs.Views.{Node}
use Rattle.machine_model.specs.Words.{word_of, store_of}
use Rattle.memory_model.proofs.Named.{EachOnce}
use Rattle.machine_types.specs.declared.model.MemoryModel.{MemoryModel}
use Rattle.machine_types.specs.declared.model.MemoryModel.TheVariants.{Rvwmo, Ztso}
use Rattle.memory_model.specs.declared.operation.Kind.{Kind}
use Rattle.memory_model.specs.declared.operation.Kind.TheVariants as kind
use Rattle.memory_model.specs.declared.operation.Operation.{Operation}
use Rattle.memory_model.specs.Dependencies.{instr_in, uses_in}
use Rattle.memory_model.specs.Items.{Item, annotations_of, operation_of_access, succeeded}
use Rattle.memory_model.specs.Operations.{same, overlap, writes, has_release}
use Rattle.memory_model.specs.Rules.{fences}
use Rattle.memory_model.specs.Verdict.{name_of}
use Rattle.memory_model.proofs.Forms.{same-swap}
use Rattle.memory_model.proofs.Lists.{Each-left, Each-weaker, Pairwise-append}
use Rattle.machine_model.proofs.order.Deeds.{FitsDeed, Facts, NoFence}
use Rattle.machine_model.proofs.order.Kept.{joined, kept_group, of_word, IsWaiting, IsBelow, Kept, get_new, lates_more, sealed_line, item_keeps, store_keeps, seal_keeps, at_once_keeps}
use Rattle.machine_model.proofs.order.Lists.{Each-always}
use Rattle.machine_model.proofs.order.Rules.{is_store, late, InWord, IsQuiet, apart}
use Rattle.machine_model.proofs.order.Split.{Split, gave_at, new_name, split_store, split_at_once, split_item}
use Rattle.rv32_decode.specs.declared.instruction.Instr.{Instr}
use Rattle.rv32_exec.specs.Meaning.{Access, Private, Loads, Stores, DoesLr, DoesSc, DoesAmo, Fences, Calls}
use Rattle.store_buffer.specs.Groups.{Groups, after_put, after_put_single, after_seal, has, has_sealed, is_empty, is_nil}
use Rattle.store_buffer.specs.Stores.{WaitingStores, entries_in, all_stores, kept_stores, is_to_word, put_behind, sealed_up}
use Rattle.store_buffer.specs.declared.entry.Store.{Store}
use Rattle.store_buffer.proofs.StoreLaws.{put_is_behind, put_single_is_behind, seal_is_up, has_is_any_of_all, empty_is_none, sealed_is_some}
use Rattle.trace_recorder.specs.declared.operation.OpId.{OpId}

-- ---- a buffer as groups of operations

abbrev pub store_of_operation : Operation → Store
store_of_operation a = store_of a.address a.size a.written a.place

abbrev pub stores_of : List Operation → List Store
stores_of g = map store_of_operation g

abbrev pub waiting_of : List (List Operation) → List Operation → WaitingStores
waiting_of sealed current = record { sealed = map stores_of sealed; current = stores_of current }

pub record HartKept (model : MemoryModel) (h : ℕ) (items : List Item) (buffer : Groups) (performed : List Operation) : Type 0 where
  pub sealed : List (List Operation)
  pub current : List Operation
  pub buffer_is : buffer ≡ entries_in (waiting_of sealed current)
  pub kept : Kept model h items sealed current performed
  pub split : Split h items (joined sealed ++ current) performed

pub stores_joined : (sealed : List (List Operation)) (current : List Operation) → all_stores (map stores_of sealed) ++ stores_of current ≡ stores_of (joined sealed ++ current)
stores_joined sealed current = ap (λ v. v ++ stores_of current) (all sealed) ∙ sym (map-append store_of_operation (joined sealed) current)
  where
    all : (gs : List (List Operation)) → all_stores (map stores_of gs) ≡ stores_of (joined gs)
    all [] = refl
    all (g ∷ gs) = ap (λ v. stores_of g ++ v) (all gs) ∙ sym (map-append store_of_operation g (joined gs))

pub any_stores : (word : ℕ) (g : List Operation) → list_any (is_to_word word) (stores_of g) ≡ list_any (of_word word) g
any_stores word [] = refl
any_stores word (a ∷ g) = ap (λ b. of_word word a || b) (any_stores word g)

is_nil-map : {X Y : Type 0} (f : X → Y) (xs : List X) → is_nil (map f xs) ≡ is_nil xs
is_nil-map f [] = refl
is_nil-map f (x ∷ xs) = refl

nil_is : {X : Type 0} (xs : List X) → is_nil xs ≡ true → xs ≡ []
nil_is [] e = refl
nil_is (x ∷ xs) e = absurd (false≢true e)

pub has_is : (word : ℕ) (buffer : Groups) (sealed : List (List Operation)) (current : List Operation) → buffer ≡ entries_in (waiting_of sealed current) → has word buffer ≡ list_any (of_word word) (joined sealed ++ current)
has_is word buffer sealed current e = ap (has word) e ∙ (has_is_any_of_all word (waiting_of sealed current) ∙ (ap (list_any (is_to_word word)) (stores_joined sealed current) ∙ any_stores word (joined sealed ++ current)))

pub empty_waits : (buffer : Groups) (sealed : List (List Operation)) (current : List Operation) → buffer ≡ entries_in (waiting_of sealed current) → is_empty buffer ≡ true → joined sealed ++ current ≡ []
empty_waits buffer sealed current e f =
    let s = and_parts (is_nil sealed) (is_nil current) (sym (ap is_empty e ∙ (empty_is_none (waiting_of sealed current) ∙ (ap (λ b. b && is_nil (stores_of current)) (is_nil-map stores_of sealed) ∙ ap (λ b. is_nil sealed && b) (is_nil-map store_of_operation current)))) ∙ f) in
    ap (λ (gs : List (List Operation)). joined gs ++ current) (nil_is sealed s.0) ∙ nil_is current s.1

unsealed_is : (buffer : Groups) (sealed : List (List Operation)) (current : List Operation) → buffer ≡ entries_in (waiting_of sealed current) → has_sealed buffer ≡ false → sealed ≡ []
unsealed_is buffer sealed current e f = nil_is sealed (turn (is_nil sealed) (sym (ap has_sealed e ∙ (sealed_is_some (waiting_of sealed current) ∙ ap (λ b. not b) (is_nil-map stores_of sealed))) ∙ f))
  where
    turn : (b : Bool) → not b ≡ false → b ≡ true
    turn true e = refl
    turn false e = absurd (true≢false e)

-- ---- puts and seals

abbrev pub buffer_by : MemoryModel → Deed → Groups → Groups
buffer_by model (deed.Store s) b = buffered_behind model s b
buffer_by model deed.Seal b = after_seal b
buffer_by model _ b = b

pushed_is : (s : Operation) (sealed : List (List Operation)) (current : List Operation) → entries_in (put_behind (store_of_operation s) (waiting_of sealed current)) ≡ entries_in (waiting_of sealed (current ++ s ∷ []))
pushed_is s sealed current = ap (λ c. entries_in (record { sealed = map stores_of sealed; current = c })) (sym (map-append store_of_operation current (s ∷ [])))

kept_is : (g : List Operation) → kept_stores (stores_of g) ≡ map stores_of (kept_group g)
kept_is [] = refl
kept_is (a ∷ g) = refl

sealed_is : (sealed : List (List Operation)) (current : List Operation) → entries_in (sealed_up (waiting_of sealed current)) ≡ entries_in (waiting_of (sealed ++ kept_group current) [])
sealed_is sealed current = ap (λ gs. entries_in (record { sealed = gs; current = [] })) (ap (λ gs. map stores_of sealed ++ gs) (kept_is current) ∙ sym (map-append stores_of sealed (kept_group current)))

-- ---- what is performed by a deed

abbrev pub names_by : ℕ → ℕ → Deed → List OpId
names_by h place deed.Load = record { hart = h; place = place } ∷ []
names_by h place (deed.Lr word) = record { hart = h; place = place } ∷ []
names_by h place (deed.Sc word value) = record { hart = h; place = place } ∷ []
names_by h place (deed.Amo word value) = record { hart = h; place = place } ∷ []
names_by h place _ = []

pub record Performs (model : MemoryModel) (h : ℕ) (items : List Item) (buffer : Groups) (performed : List Operation) (names : List OpId) : Type 0 where
  pub out : List Operation
  pub named : map name_of out ≡ names
  pub own : Each (λ a. a.hart ≡ h) out
  pub found : Each (λ a. gave_at items a.place ≡ Some a) out
  pub distinct : EachOnce performed → EachOnce (performed ++ out)
  pub kept : HartKept model h items buffer (performed ++ out)

pub performs_none : (model : MemoryModel) (h : ℕ) (items : List Item) (buffer : Groups) (performed : List Operation) → HartKept model h items buffer performed → Performs model h items buffer performed []
performs_none model h items buffer performed k = record {
  out = [];
  named = refl;
  own = tt;
  found = tt;
  distinct = λ d. subst EachOnce (sym (append-nil performed)) d;
  kept = subst (HartKept model h items buffer) (sym (append-nil performed)) k;
}

-- ---- an operation that is performed as it retires

pub record Passes (model : MemoryModel) (items : List Item) (i : Operation) (waiting : List Operation) : Type 0 where
  pub clear : Each (λ b. (writes i.kind && overlap b i) ≡ false) waiting
  pub unsealed : writes i.kind ≡ true → Each (λ a. late items kind.Store a ≡ false) waiting
  pub unreleased : Each (λ b. has_release model i ≡ false) waiting

passes_nothing : (model : MemoryModel) (items : List Item) (i : Operation) (waiting : List Operation) → waiting ≡ [] → Passes model items i waiting
passes_nothing model items i waiting e = subst (Passes model items i) (sym e) (record { clear = tt; unsealed = λ w. tt; unreleased = tt })

release_only : (model : MemoryModel) (i : Operation) → writes i.kind ≡ false → i.rl ≡ false → has_release model i ≡ false
release_only Rvwmo i w e = e
release_only Ztso i w e = or_from i.rl (writes i.kind) e w

passes_reading : (model : MemoryModel) (items : List Item) (i : Operation) (waiting : List Operation) → writes i.kind ≡ false → i.rl ≡ false → Passes model items i waiting
passes_reading model items i waiting w e = record {
  clear = Each-always (λ b. (writes i.kind && overlap b i) ≡ false) (λ b. and_left (writes i.kind) (overlap b i) w) waiting;
  unsealed = λ t. absurd (true≢false (sym t ∙ w));
  unreleased = Each-always (λ b. has_release model i ≡ false) (λ b. release_only model i w e) waiting;
}

-- nothing of the word waits
none_waits : (h : ℕ) (i : Operation) (word : ℕ) (g : List Operation) → InWord i → word_of i.address ≡ word → Each (IsWaiting h) g → list_any (of_word word) g ≡ false → Each (λ b. (writes i.kind && overlap b i) ≡ false) g
none_waits h i word [] f at own e = tt
none_waits h i word (b ∷ g) f at own e =
    let es = or_parts (of_word word b) (list_any (of_word word) g) e in
    (and_right (writes i.kind) _ (apart b i own.0.in_word f (λ q. eqb-false (word_of b.address) word es.0 (q ∙ at))), none_waits h i word g f at own.1 es.1)

-- what an LR, SC or AMO need not wait for
passes_lr : (model : MemoryModel) (h : ℕ) (n : Node) (items : List Item) (performed : List Operation) (instr : Instr) (i : Operation) (word : ℕ) → writes i.kind ≡ false → i.rl ≡ (annotations_of instr).release → waits_for_stores n.buffer instr word ≡ false → (k : HartKept model h items n.buffer performed) → Passes model items i (joined k.sealed ++ k.current)
passes_lr model h n items performed instr i word w r e k = go (is_empty n.buffer) refl ((annotations_of instr).release) refl
  where
    go : (b : Bool) → is_empty n.buffer ≡ b → (c : Bool) → (annotations_of instr).release ≡ c → Passes model items i (joined k.sealed ++ k.current)
    go true f c g = passes_nothing model items i (joined k.sealed ++ k.current) (empty_waits n.buffer k.sealed k.current k.buffer_is f)
    go false f false g = passes_reading model items i (joined k.sealed ++ k.current) w (r ∙ g)
    go false f true g = absurd (true≢false (sym (rw (g, f) refl) ∙ (or_parts ((annotations_of instr).release && not (is_empty n.buffer)) (has word n.buffer) e).0))

passes_write : (model : MemoryModel) (h : ℕ) (n : Node) (items : List Item) (performed : List Operation) (instr : Instr) (i : Operation) (word : ℕ) → i.rl ≡ (annotations_of instr).release → InWord i → word_of i.address ≡ word → write_waits model n.buffer instr word ≡ false → (k : HartKept model h items n.buffer performed) → Passes model items i (joined k.sealed ++ k.current)
passes_write Ztso h n items performed instr i word r f at e k = passes_nothing Ztso items i (joined k.sealed ++ k.current) (empty_waits n.buffer k.sealed k.current k.buffer_is (turn (is_empty n.buffer) e))
  where
    turn : (b : Bool) → not b ≡ false → b ≡ true
    turn true e = refl
    turn false e = absurd (true≢false e)
passes_write Rvwmo h n items performed instr i word r f at e k =
    let s = or_parts (waits_for_stores n.buffer instr word) (has_sealed n.buffer) e in
    let t = or_parts ((annotations_of instr).release && not (is_empty n.buffer)) (has word n.buffer) s.0 in
    go (is_empty n.buffer) refl ((annotations_of instr).release) refl s.1 t.0 t.1
  where
    go : (b : Bool) → is_empty n.buffer ≡ b → (c : Bool) → (annotations_of instr).release ≡ c → has_sealed n.buffer ≡ false → ((annotations_of instr).release && not (is_empty n.buffer)) ≡ false → has word n.buffer ≡ false → Passes Rvwmo items i (joined k.sealed ++ k.current)
    go true q c g sealed released free = passes_nothing Rvwmo items i (joined k.sealed ++ k.current) (empty_waits n.buffer k.sealed k.current k.buffer_is q)
    go false q true g sealed released free = absurd (true≢false (sym (rw (g, q) refl) ∙ released))
    go false q false g sealed released free = record {
      clear = none_waits h i word (joined k.sealed ++ k.current) f at k.kept.waiting (sym (has_is word n.buffer k.sealed k.current k.buffer_is) ∙ free);
      unsealed = λ t. subst (λ (gs : List (List Operation)). Each (λ a. late items kind.Store a ≡ false) (joined gs ++ k.current)) (sym (unsealed_is n.buffer k.sealed k.current k.buffer_is sealed)) k.kept.none_late;
      unreleased = Each-always (λ b. has_release Rvwmo i ≡ false) (λ b. r ∙ g) (joined k.sealed ++ k.current);
    }

-- an item, with what is known of it
pub record IsNew (h : ℕ) (items : List Item) (m : Item) (i : Instr) : Type 0 where
  pub place_is : m.place ≡ length items
  pub instr_is : m.instr ≡ Some i

no_fence_of : (h : ℕ) (items : List Item) (m : Item) (i : Instr) → IsNew h items m i → NoFence i → (j : Kind) → fences m.instr kind.Store j ≡ false
no_fence_of h items m i new f j = ap (λ o. fences o kind.Store j) new.instr_is ∙ f j

pub performs_once : (model : MemoryModel) (h : ℕ) (items : List Item) (buffer : Groups) (performed : List Operation) (m : Item) (instr : Instr) (i : Operation) → IsNew h items m instr → NoFence instr
    → m.operation ≡ Some i → i.hart ≡ h → i.place ≡ length items → is_store i.kind ≡ false → (k : HartKept model h items buffer performed) → Passes model items i (joined k.sealed ++ k.current) → Performs model h (items ++ m ∷ []) buffer performed (record { hart = h; place = length items } ∷ [])
performs_once model h items buffer performed m instr i new plain gave mine here kind_of k p =
    let below : Each (IsBelow h (length items)) performed = Each-left (IsBelow h (length items)) performed (joined k.sealed ++ k.current) k.kept.places in
    record {
      out = i ∷ [];
      named = rw (mine, here) refl;
      own = (mine, tt);
      found = (ap (option_and_then (λ (m : Item). m.operation)) (get_new items m i.place here) ∙ gave, tt);
      distinct = λ d. Pairwise-append (λ a b. same a b ≡ false) performed (i ∷ []) d (tt, tt) (Each-weaker (IsBelow h (length items)) (λ a. Each (λ b. same a b ≡ false) (i ∷ [])) (λ a q. (same-swap i a (new_name h (length items) i a mine here q), tt)) performed below);
      kept = record {
        sealed = k.sealed;
        current = k.current;
        buffer_is = k.buffer_is;
        kept = at_once_keeps model h items k.sealed k.current performed m i new.place_is (no_fence_of h items m instr new plain) mine kind_of here p.clear p.unsealed p.unreleased k.kept;
        split = split_at_once h items (joined k.sealed ++ k.current) performed m i gave mine here k.split;
      };
    }

-- ---- an instruction that gives no operation

pub keeps_plain : (model : MemoryModel) (h : ℕ) (items : List Item) (buffer : Groups) (performed : List Operation) (m : Item) (i : Instr) → IsNew h items m i → NoFence i → m.operation ≡ None → HartKept model h items buffer performed → HartKept model h (items ++ m ∷ []) buffer performed
keeps_plain model h items buffer performed m i new plain gave k = record {
  sealed = k.sealed;
  current = k.current;
  buffer_is = k.buffer_is;
  kept = item_keeps model h items k.sealed k.current performed m new.place_is (lates_more items m kind.Store k.current (no_fence_of h items m i new plain kind.Store) k.kept.none_late) (lates_more items m kind.Load (joined k.sealed ++ k.current) (no_fence_of h items m i new plain kind.Load) k.kept.none_late_load) k.kept;
  split = split_item h items (joined k.sealed ++ k.current) performed m gave k.split;
}

-- a fence before loads has nothing before it
lates_behind : (model : MemoryModel) (h : ℕ) (n : Node) (items : List Item) (performed : List Operation) (m : Item) (i : Instr) → IsNew h items m i → (fences (Some i) kind.Store kind.Load && not (is_empty n.buffer)) ≡ false → (k : HartKept model h items n.buffer performed) → Each (λ a. late (items ++ m ∷ []) kind.Load a ≡ false) (joined k.sealed ++ k.current)
lates_behind model h n items performed m i new e k = go (fences (Some i) kind.Store kind.Load) refl (is_empty n.buffer) refl
  where
    go : (b : Bool) → fences (Some i) kind.Store kind.Load ≡ b → (c : Bool) → is_empty n.buffer ≡ c → Each (λ a. late (items ++ m ∷ []) kind.Load a ≡ false) (joined k.sealed ++ k.current)
    go false f c g = lates_more items m kind.Load (joined k.sealed ++ k.current) (ap (λ o. fences o kind.Store kind.Load) new.instr_is ∙ f) k.kept.none_late_load
    go true f true g = subst (Each (λ a. late (items ++ m ∷ []) kind.Load a ≡ false)) (sym (empty_waits n.buffer k.sealed k.current k.buffer_is g)) tt
    go true f false g = absurd (true≢false (sym (rw (f, g) refl) ∙ e))

keeps_fence : (model : MemoryModel) (h : ℕ) (n : Node) (items : List Item) (performed : List Operation) (m : Item) (i : Instr) → IsNew h items m i → m.operation ≡ None → (fences (Some i) kind.Store kind.Load && not (is_empty n.buffer)) ≡ false → fences (Some i) kind.Store kind.Store ≡ false → HartKept model h items n.buffer performed → HartKept model h (items ++ m ∷ []) n.buffer performed
keeps_fence model h n items performed m i new gave e f k = record {
  sealed = k.sealed;
  current = k.current;
  buffer_is = k.buffer_is;
  kept = item_keeps model h items k.sealed k.current performed m new.place_is (lates_more items m kind.Store k.current (ap (λ o. fences o kind.Store kind.Store) new.instr_is ∙ f) k.kept.none_late) (lates_behind model h n items performed m i new e k) k.kept;
  split = split_item h items (joined k.sealed ++ k.current) performed m gave k.split;
}

keeps_seal : (model : MemoryModel) (h : ℕ) (n : Node) (items : List Item) (performed : List Operation) (m : Item) (i : Instr) → IsNew h items m i → m.operation ≡ None → (fences (Some i) kind.Store kind.Load && not (is_empty n.buffer)) ≡ false → HartKept model h items n.buffer performed → HartKept model h (items ++ m ∷ []) (after_seal n.buffer) performed
keeps_seal model h n items performed m i new gave e k =
    let line = sym (sealed_line k.sealed k.current) in
    record {
      sealed = k.sealed ++ kept_group k.current;
      current = [];
      buffer_is = ap after_seal k.buffer_is ∙ (seal_is_up (waiting_of k.sealed k.current) ∙ sealed_is k.sealed k.current);
      kept = item_keeps model h items (k.sealed ++ kept_group k.current) [] performed m new.place_is tt (subst (Each (λ a. late (items ++ m ∷ []) kind.Load a ≡ false)) line (lates_behind model h n items performed m i new e k)) (seal_keeps model h items k.sealed k.current performed k.kept);
      split = split_item h items (joined (k.sealed ++ kept_group k.current) ++ []) performed m gave (subst (λ v. Split h items v performed) line k.split);
    }

-- ---- a store waits

keeps_put : (model : MemoryModel) (h : ℕ) (items : List Item) (sealed : List (List Operation)) (current : List Operation) (new_buffer : Groups) (performed : List Operation) (m : Item) (i : Instr) (s : Operation) → IsNew h items m i → NoFence i → m.operation ≡ Some s → IsWaiting h s → IsQuiet (items ++ m ∷ []) s → s.place ≡ length items
    → new_buffer ≡ entries_in (waiting_of sealed (current ++ s ∷ [])) → Kept model h items sealed current performed → Split h items (joined sealed ++ current) performed → (model ≡ Ztso → Each (λ a. word_of a.address ≡ word_of s.address) current) → HartKept model h (items ++ m ∷ []) new_buffer performed
keeps_put model h items sealed current new_buffer performed m i s new plain gave own quiet here behind kept split fits =
    record {
      sealed = sealed;
      current = current ++ s ∷ [];
      buffer_is = behind;
      kept = store_keeps model h items sealed current performed m s new.place_is (no_fence_of h items m i new plain) own quiet here fits kept;
      split = subst (λ v. Split h (items ++ m ∷ []) v performed) (append_assoc (joined sealed) current (s ∷ [])) (split_store h items (joined sealed ++ current) performed m s gave own.own here (Each-left (IsBelow h (length items)) performed (joined sealed ++ current) kept.places) split);
    }

-- a group of one word that has a store to this word
fits_group : (word : ℕ) (g : List Operation) → Each (λ a. Each (λ b. word_of b.address ≡ word_of a.address) g) g → list_any (of_word word) g ≡ true → Each (λ a. word_of a.address ≡ word) g
fits_group word g one e = go g one e
  where
    at : (b : Bool) (x : Operation) (xs : List Operation) → of_word word x ≡ b → Each (λ b. word_of b.address ≡ word_of x.address) g → (list_any (of_word word) xs ≡ true → Each (λ a. word_of a.address ≡ word) g) → (b || list_any (of_word word) xs) ≡ true → Each (λ a. word_of a.address ≡ word) g
    at true x xs f q ih e = Each-weaker (λ b. word_of b.address ≡ word_of x.address) (λ a. word_of a.address ≡ word) (λ b r. r ∙ eqb-true (word_of x.address) word f) g q
    at false x xs f q ih e = ih e

    go : (xs : List Operation) → Each (λ a. Each (λ b. word_of b.address ≡ word_of a.address) g) xs → list_any (of_word word) xs ≡ true → Each (λ a. word_of a.address ≡ word) g
    go [] q e = absurd (false≢true e)
    go (x ∷ xs) q e = at (of_word word x) x xs refl q.0 (go xs q.1) e

keeps_store : (model : MemoryModel) (h : ℕ) (items : List Item) (buffer : Groups) (performed : List Operation) (m : Item) (i : Instr) (s : Operation) → IsNew h items m i → NoFence i → m.operation ≡ Some s → IsWaiting h s → IsQuiet (items ++ m ∷ []) s → s.place ≡ length items → HartKept model h items buffer performed → HartKept model h (items ++ m ∷ []) (buffered_behind model (store_of_operation s) buffer) performed
keeps_store Rvwmo h items buffer performed m i s new plain gave own quiet here k =
    keeps_put Rvwmo h items k.sealed k.current _ performed m i s new plain gave own quiet here (ap (after_put (store_of_operation s)) k.buffer_is ∙ (put_is_behind (store_of_operation s) (waiting_of k.sealed k.current) ∙ pushed_is s k.sealed k.current)) k.kept k.split (λ z. absurd (rvwmo_not z))
  where
    rvwmo_not : Rvwmo ≡ Ztso → ⊥
    rvwmo_not z = cc
keeps_store Ztso h items buffer performed m i s new plain gave own quiet here k = go (list_any (of_word (word_of s.address)) k.current) refl
  where
    st : Store
    st = store_of_operation s

    w : WaitingStores
    w = waiting_of k.sealed k.current

    single : (b : Bool) → list_any (of_word (word_of s.address)) k.current ≡ b → after_put_single (store_of_operation s) buffer ≡ entries_in (cond b (put_behind (store_of_operation s) (waiting_of k.sealed k.current)) (put_behind (store_of_operation s) (sealed_up (waiting_of k.sealed k.current))))
    single b e =
        ap (after_put_single (store_of_operation s)) k.buffer_is ∙ (put_single_is_behind (store_of_operation s) (waiting_of k.sealed k.current)
        ∙ ap (λ c. entries_in (cond c (put_behind (store_of_operation s) (waiting_of k.sealed k.current)) (put_behind (store_of_operation s) (sealed_up (waiting_of k.sealed k.current))))) (any_stores (word_of s.address) k.current ∙ e))

    go : (b : Bool) → list_any (of_word (word_of s.address)) k.current ≡ b → HartKept Ztso h (items ++ m ∷ []) (after_put_single (store_of_operation s) buffer) performed
    go true e =
        keeps_put Ztso h items k.sealed k.current _ performed m i s new plain gave own quiet here (single true e ∙ pushed_is s k.sealed k.current) k.kept k.split (λ z. fits_group (word_of s.address) k.current (k.kept.single_current z) e)
    go false e =
        keeps_put Ztso h items (k.sealed ++ kept_group k.current) [] _ performed m i s new plain gave own quiet here
        (single false e ∙ (sym (put_is_behind (store_of_operation s) (sealed_up (waiting_of k.sealed k.current))) ∙ (ap (after_put (store_of_operation s)) (sealed_is k.sealed k.current) ∙ (put_is_behind (store_of_operation s) (waiting_of (k.sealed ++ kept_group k.current) []) ∙ pushed_is s (k.sealed ++ kept_group k.current) []))))
        (seal_keeps Ztso h items k.sealed k.current performed k.kept) (subst (λ v. Split h items v performed) (sym (sealed_line k.sealed k.current)) k.split) (λ z. tt)

-- ---- all deeds

word_aligned : (address : ℕ) → address % 4 ≡ 0 → word_of address ≡ address
word_aligned address e = omega (arith, e)

aligned_in_word : (address : ℕ) → address % 4 ≡ 0 → address % 4 + 4 ≤ 4
aligned_in_word address e = omega (arith, e)

pub deed_keeps : (model : MemoryModel) (h : ℕ) (n : Node) (f : Fetched) (entry : Retired) (a : Access) (d : Deed) (items : List Item) (performed : List Operation) (m : Item)
    → IsNew h items m f.instr → f.place ≡ length items → m.operation ≡ operation_of_access h (length items) (annotations_of f.instr) entry a → Facts f.instr a → FitsDeed model n f a entry d
    → HartKept model h items n.buffer performed → Performs model h (items ++ m ∷ []) (buffer_by model d n.buffer) performed (names_by h (length items) d)
deed_keeps model h n f entry Private deed.Private items performed m new at gave x e k = performs_none model h _ _ performed (keeps_plain model h items n.buffer performed m f.instr new x gave k)
deed_keeps model h n f entry (Calls number argument) deed.Private items performed m new at gave x e k = performs_none model h _ _ performed (keeps_plain model h items n.buffer performed m f.instr new x gave k)
deed_keeps model h n f entry (Calls number argument) (deed.Output j) items performed m new at gave x e k = performs_none model h _ _ performed (keeps_plain model h items n.buffer performed m f.instr new x gave k)
deed_keeps model h n f entry (Loads address bytes) deed.Load items performed m new at gave x e k =
    performs_once model h items n.buffer performed m f.instr _ new x.0.no_fence gave refl refl refl k (passes_reading model items _ _ refl x.0.no_release)
deed_keeps model h n f entry (Stores address bytes value) (deed.Store s) items performed m new at gave x e k =
    let own : IsWaiting h _ = record { own = refl; plain = refl; in_word = x.1; no_release = x.0.no_release } in
    let quiet : IsQuiet (items ++ m ∷ []) (record { hart = h; place = length items; kind = kind.Store; address = address; size = bytes; read = 0; written = value; aq = (annotations_of f.instr).acquire; rl = (annotations_of f.instr).release }) =
    record { no_acquire = x.0.no_acquire; no_release = x.0.no_release; writes_none = ap (λ (o : Option Item). (uses_in (instr_in o)).written) (get_new items m (length items) refl) ∙ (ap (λ o. (uses_in o).written) new.instr_is ∙ x.2) } in
    performs_none model h _ _ performed (subst (λ (t : Store). HartKept model h (items ++ m ∷ []) (buffered_behind model t n.buffer) performed) (sym (e ∙ ap (store_of address bytes value) at))
    (keeps_store model h items n.buffer performed m f.instr _ new x.0.no_fence gave own quiet refl k))
deed_keeps model h n f entry (DoesLr address) (deed.Lr word) items performed m new at gave x e k =
    performs_once model h items n.buffer performed m f.instr _ new x.0 gave refl refl refl k (passes_lr model h n items performed f.instr _ address refl refl e.1 k)
deed_keeps model h n f entry (DoesSc address value) deed.Fail items performed m new at gave x e k =
    performs_none model h _ _ performed (keeps_plain model h items n.buffer performed m f.instr new x.0 (gave ∙ ap (λ o. cond (succeeded o) (Some (record { hart = h; place = length items; kind = kind.Sc; address = address; size = 4; read = 0; written = value; aq = (annotations_of f.instr).acquire; rl = (annotations_of f.instr).release })) None) e) k)
deed_keeps model h n f entry (DoesSc address value) (deed.Sc word v) items performed m new at gave x e k =
    performs_once model h items n.buffer performed m f.instr (record { hart = h; place = length items; kind = kind.Sc; address = address; size = 4; read = 0; written = value; aq = (annotations_of f.instr).acquire; rl = (annotations_of f.instr).release }) new x.0
    (gave ∙ ap (λ o. cond (succeeded o) (Some (record { hart = h; place = length items; kind = kind.Sc; address = address; size = 4; read = 0; written = value; aq = (annotations_of f.instr).acquire; rl = (annotations_of f.instr).release })) None) e.2) refl refl refl k
    (passes_write model h n items performed f.instr _ address refl (aligned_in_word address x.1) (word_aligned address x.1) e.4 k)
deed_keeps model h n f entry (DoesAmo address op operand) (deed.Amo word v) items performed m new at gave x e k =
    performs_once model h items n.buffer performed m f.instr _ new x.0 gave refl refl refl k (passes_write model h n items performed f.instr _ address refl (aligned_in_word address x.1) (word_aligned address x.1) e.1 k)
deed_keeps model h n f entry Fences deed.Private items performed m new at gave x e k = performs_none model h _ _ performed (keeps_fence model h n items performed m f.instr new gave e.0 e.1 k)
deed_keeps model h n f entry Fences deed.Seal items performed m new at gave x e k = performs_none model h _ _ performed (keeps_seal model h n items performed m f.instr new gave e k)
deed_keeps model h n f entry _ _ items performed m new at gave x e k = absurd e
