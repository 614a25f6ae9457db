-- What is kept of a hart's waiting stores: they are plain stores of its list, in groups that no fence divides, and performed and waiting operations stand in an order that the rules allow.
use Rattle.std.proofs.Common.{◌≡◌, ℕ, zero, suc, ◌+◌, ◌<◌, ◌≤◌, List, [], ◌∷◌, ◌++◌, Bool, true, false, Option, Some, refl, sym, ap, ◌∙◌, subst, not, ◌&&◌, append_assoc, append-nil, arith, length, length-append}
use Rattle.std.specs.Prelude.{nat_eq, slice_get}
use Rattle.std.specs.List.{AllByRecursion as Each, filter}
use Rattle.std.proofs.lemmas.Bool.{true≢false, and_left, and_right, or_from, eqb-true, eqb-false, le-ltb, ne_eqb, not-true}
use Rattle.machine_model.specs.Words.{word_of}
use Rattle.machine_types.specs.declared.model.MemoryModel.{MemoryModel}
use Rattle.machine_types.specs.declared.model.MemoryModel.TheVariants.{Rvwmo, Ztso}
use Rattle.memory_model.specs.declared.operation.Kind.{Kind}
use Rattle.memory_model.specs.declared.operation.Kind.TheVariants.{Load, Store}
use Rattle.memory_model.specs.declared.operation.Operation.{Operation}
use Rattle.memory_model.specs.Dependencies.{instr_in, uses_in}
use Rattle.memory_model.specs.Items.{Item}
use Rattle.memory_model.specs.Operations.{precedes, overlap, writes, has_release}
use Rattle.memory_model.specs.Rules.{fences}
use Rattle.memory_model.proofs.Forms.{Ordered}
use Rattle.memory_model.proofs.Lists.{Each-append, Each-left, Each-right, Each-weaker, Each-both, Each-kept, Pairwise-append, Pairwise}
use Rattle.machine_model.proofs.order.Lists.{Each-always, Pairwise-left, Pairwise-right, Pairwise-across, Pairwise-weaker, Pairwise-moved, Pairwise-between, Each-between, Each-push, Each-moved, others}
use Rattle.machine_model.proofs.order.Rules.{is_store, late, late-more, fenced, fenced-late, fenced-back, fenced-more, late_kind, precedes_not, must_not_after, must-more, must_free, must, IsQuiet, InWord, apart}

-- ---- words of the invariant

-- the operations of groups, oldest first
abbrev pub joined : List (List Operation) → List Operation
joined [] = []
joined (g ∷ gs) = g ++ joined gs

abbrev pub kept_group : List Operation → List (List Operation)
kept_group [] = []
kept_group (a ∷ g) = (a ∷ g) ∷ []

-- it writes to this word
abbrev pub of_word : ℕ → Operation → Bool
of_word word a = nat_eq (word_of a.address) word

-- a plain store of this hart, within one word
pub record IsWaiting (h : ℕ) (a : Operation) : Type 0 where
  pub own : a.hart ≡ h
  pub plain : a.kind ≡ Store
  pub in_word : InWord a
  pub no_release : a.rl ≡ false

-- if it is this hart's, its place is one of the list's
pub record IsBelow (h n : ℕ) (a : Operation) : Type 0 where
  pub below : a.hart ≡ h → a.place < n

-- the facts of a plain store's item
pub record IsKnown (h : ℕ) (items : List Item) (a : Operation) : Type 0 where
  pub known : a.hart ≡ h → a.kind ≡ Store → IsQuiet items a

-- no fence stands between two stores of a group, in either direction
abbrev pub Free : List Item → List Operation → Type 0
Free items g = Each (λ a. Each (λ b. fenced items b a ≡ false) g) g

-- all of a group lies in one word
abbrev pub OneWord : List Operation → Type 0
OneWord g = Each (λ a. Each (λ b. word_of b.address ≡ word_of a.address) g) g

pub record Kept (model : MemoryModel) (h : ℕ) (items : List Item) (sealed : List (List Operation)) (current performed : List Operation) : Type 0 where
  pub item_places : Each (λ (m : Item). m.place < length items) items
  pub waiting : Each (IsWaiting h) (joined sealed ++ current)
  pub places : Each (IsBelow h (length items)) (performed ++ (joined sealed ++ current))
  pub quiet : Each (IsKnown h items) (performed ++ (joined sealed ++ current))
  pub free_sealed : Each (Free items) sealed
  pub free_current : Free items current
  pub none_late : Each (λ a. late items Store a ≡ false) current
  pub none_late_load : Each (λ a. late items Load a ≡ false) (joined sealed ++ current)
  pub single_sealed : model ≡ Ztso → Each OneWord sealed
  pub single_current : model ≡ Ztso → OneWord current
  pub ordered : Ordered (must model h items) (performed ++ (joined sealed ++ current))

-- ---- lists

pub joined-kept : (r : List Operation) (gs : List (List Operation)) → joined (kept_group r ++ gs) ≡ r ++ joined gs
joined-kept [] gs = refl
joined-kept (a ∷ r) gs = refl

pub joined-append : (gs hs : List (List Operation)) → joined (gs ++ hs) ≡ joined gs ++ joined hs
joined-append [] hs = refl
joined-append (g ∷ gs) hs = ap (λ ys. g ++ ys) (joined-append gs hs) ∙ sym (append_assoc g (joined gs) (joined hs))

Each-kept_group : (P : List Operation → Type 0) (g : List Operation) → P g → Each P (kept_group g)
Each-kept_group P [] p = tt
Each-kept_group P (a ∷ g) p = (p, tt)

square-kept : (R : Operation → Operation → Type 0) (p : Operation → Bool) (g : List Operation) → Each (λ a. Each (R a) g) g → Each (λ a. Each (R a) (filter p g)) (filter p g)
square-kept R p g free = Each-kept (λ a. Each (R a) (filter p g)) p g (Each-weaker (λ a. Each (R a) g) (λ a. Each (R a) (filter p g)) (λ a k. Each-kept (R a) p g k) g free)

square-push : (R : Operation → Operation → Type 0) (g : List Operation) (s : Operation) → Each (λ a. Each (R a) g) g → R s s → Each (λ a. R a s × R s a) g → Each (λ a. Each (R a) (g ++ s ∷ [])) (g ++ s ∷ [])
square-push R g s f r q =
    Each-append (λ a. Each (R a) (g ++ s ∷ [])) g (s ∷ [])
    (Each-weaker (λ a. Each (R a) g × (R a s × R s a)) (λ a. Each (R a) (g ++ s ∷ [])) (λ a k. Each-append (R a) g (s ∷ []) k.0 (k.1.0, tt)) g (Each-both (λ a. Each (R a) g) (λ a. R a s × R s a) g f q))
    (Each-append (R s) g (s ∷ []) (Each-weaker (λ a. R a s × R s a) (R s) (λ a k. k.1) g q) (r, tt), tt)

-- ---- a new item

pub length_more : (items : List Item) (m : Item) → length (items ++ m ∷ []) ≡ length items + 1
length_more items m = length-append items (m ∷ [])

places_more : (h : ℕ) (items : List Item) (m : Item) (xs : List Operation) → Each (IsBelow h (length items)) xs → Each (IsBelow h (length (items ++ m ∷ []))) xs
places_more h items m xs k = rw length_more (Each-weaker (IsBelow h (length items)) (IsBelow h (length items + 1)) (λ a q. record { below = λ e. let l = q.below e in omega (arith, l) }) xs k)

new_place : (h : ℕ) (items : List Item) (m : Item) (s : Operation) → s.place ≡ length items → IsBelow h (length (items ++ m ∷ [])) s
new_place h items m s here = record { below = λ e. rw length_more (omega (arith, here)) }

ordered_more : (model : MemoryModel) (h : ℕ) (items : List Item) (m : Item) (xs : List Operation) → m.place ≡ length items → Each (IsBelow h (length items)) xs → Ordered (must model h items) xs → Ordered (must model h (items ++ m ∷ [])) xs
ordered_more model h items m xs at k =
    Pairwise-weaker (λ a b. must model h items b a ≡ false) (λ a b. must model h (items ++ m ∷ []) b a ≡ false) (IsBelow h (length items))
    (λ a b ka kb e. must-more model h items m b a (λ mine. let l = ka.below mine in omega (arith, l, at)) e) xs k

free_more : (h : ℕ) (items : List Item) (m : Item) (g : List Operation) → m.place ≡ length items → Each (IsWaiting h) g → Each (IsBelow h (length items)) g → Free items g → Free (items ++ m ∷ []) g
free_more h items m g at own k free =
    Each-weaker (λ a. (IsWaiting h a × IsBelow h (length items) a) × Each (λ b. fenced items b a ≡ false) g) (λ a. Each (λ b. fenced (items ++ m ∷ []) b a ≡ false) g)
    (λ a q. Each-weaker (λ b. fenced items b a ≡ false) (λ b. fenced (items ++ m ∷ []) b a ≡ false) (λ b e. let l = q.0.1.below q.0.0.own in fenced-more items m b a (omega (arith, l, at)) ∙ e) g q.1) g
    (Each-both (λ a. IsWaiting h a × IsBelow h (length items) a) (λ a. Each (λ b. fenced items b a ≡ false) g) g (Each-both (IsWaiting h) (IsBelow h (length items)) g own k) free)

frees_more : (h : ℕ) (items : List Item) (m : Item) (gs : List (List Operation)) → m.place ≡ length items → Each (IsWaiting h) (joined gs) → Each (IsBelow h (length items)) (joined gs) → Each (Free items) gs → Each (Free (items ++ m ∷ [])) gs
frees_more h items m [] at own k free = tt
frees_more h items m (g ∷ gs) at own k free = (
  free_more h items m g at (Each-left (IsWaiting h) g (joined gs) own) (Each-left (IsBelow h (length items)) g (joined gs) k) free.0,
  frees_more h items m gs at (Each-right (IsWaiting h) g (joined gs) own) (Each-right (IsBelow h (length items)) g (joined gs) k) free.1,
)

pub lates_more : (items : List Item) (m : Item) (k : Kind) (xs : List Operation) → fences m.instr Store k ≡ false → Each (λ a. late items k a ≡ false) xs → Each (λ a. late (items ++ m ∷ []) k a ≡ false) xs
lates_more items m k xs e h = Each-weaker (λ a. late items k a ≡ false) (λ a. late (items ++ m ∷ []) k a ≡ false) (λ a l. late-more items m k a l e) xs h

-- a store behind all items has no late fence
late_none : (items : List Item) (k : Kind) (s : Operation) → Each (λ (m : Item). m.place ≤ s.place) items → late items k s ≡ false
late_none [] k s h = refl
late_none (m ∷ items) k s h = or_from _ (late items k s) (and_left _ _ (le-ltb s.place m.place h.0)) (late_none items k s h.1)

item_places_more : (items : List Item) (m : Item) → m.place ≡ length items → Each (λ (q : Item). q.place < length items) items → Each (λ (q : Item). q.place < length (items ++ m ∷ [])) (items ++ m ∷ [])
item_places_more items m at k =
    rw length_more (Each-append (λ (q : Item). q.place < length items + 1) items (m ∷ []) (Each-weaker (λ (q : Item). q.place < length items) (λ (q : Item). q.place < length items + 1) (λ q l. omega (arith, l)) items k) (omega (arith, at), tt))

-- no fence stands between a group and a new operation
free_before : (h : ℕ) (items : List Item) (m : Item) (s : Operation) (g : List Operation) → m.place ≡ length items → s.place ≡ length items → Each (IsWaiting h) g → Each (IsBelow h (length items)) g → Each (λ a. late items s.kind a ≡ false) g
    → Each (λ a. (fenced (items ++ m ∷ []) s a ≡ false) × (fenced (items ++ m ∷ []) a s ≡ false)) g
free_before h items m s [] at here a b c = tt
free_before h items m s (x ∷ g) at here a b c =
    let l = b.0.below a.0.own in
    ((fenced-back (items ++ m ∷ []) s x (omega (arith, l, here)), fenced-more items m x s (omega (arith, at, here)) ∙ fenced-late items x s a.0.plain c.0), free_before h items m s g at here a.1 b.1 c.1)

pub get_left : (items : List Item) (m : Item) (k : ℕ) → k < length items → slice_get (items ++ m ∷ []) k ≡ slice_get items k
get_left [] m k l = absurd (omega (arith, l))
get_left (x ∷ items) m zero l = refl
get_left (x ∷ items) m (suc k) l = get_left items m k (omega (arith, l))

pub get_new : (items : List Item) (m : Item) (k : ℕ) → k ≡ length items → slice_get (items ++ m ∷ []) k ≡ Some m
get_new [] m zero l = refl
get_new [] m (suc k) l = absurd (omega (arith, l))
get_new (x ∷ items) m zero l = absurd (omega (arith, l))
get_new (x ∷ items) m (suc k) l = get_new items m k (omega (arith, l))

quiet_more : (items : List Item) (m : Item) (a : Operation) → a.place < length items → IsQuiet items a → IsQuiet (items ++ m ∷ []) a
quiet_more items m a l q = record { no_acquire = q.no_acquire; no_release = q.no_release; writes_none = ap (λ (o : Option Item). (uses_in (instr_in o)).written) (get_left items m a.place l) ∙ q.writes_none }

known_more : (h : ℕ) (items : List Item) (m : Item) (xs : List Operation) → Each (IsBelow h (length items)) xs → Each (IsKnown h items) xs → Each (IsKnown h (items ++ m ∷ [])) xs
known_more h items m xs b k =
    Each-weaker (λ a. IsBelow h (length items) a × IsKnown h items a) (IsKnown h (items ++ m ∷ [])) (λ a q. record { known = λ mine s. quiet_more items m a (q.0.below mine) (q.1.known mine s) }) xs (Each-both (IsBelow h (length items)) (IsKnown h items) xs b k)

-- ---- an item that gives no operation retires

pub item_keeps : (model : MemoryModel) (h : ℕ) (items : List Item) (sealed : List (List Operation)) (current performed : List Operation) (m : Item) → m.place ≡ length items
    → Each (λ a. late (items ++ m ∷ []) Store a ≡ false) current → Each (λ a. late (items ++ m ∷ []) Load a ≡ false) (joined sealed ++ current)
    → Kept model h items sealed current performed → Kept model h (items ++ m ∷ []) sealed current performed
item_keeps model h items sealed current performed m at late_store late_load k =
    let pend = joined sealed ++ current in
    let kp : Each (IsBelow h (length items)) pend = Each-right (IsBelow h (length items)) performed pend k.places in
    record {
      item_places = item_places_more items m at k.item_places;
      waiting = k.waiting;
      places = places_more h items m (performed ++ pend) k.places;
      quiet = known_more h items m (performed ++ pend) k.places k.quiet;
      free_sealed = frees_more h items m sealed at (Each-left (IsWaiting h) (joined sealed) current k.waiting) (Each-left (IsBelow h (length items)) (joined sealed) current kp) k.free_sealed;
      free_current = free_more h items m current at (Each-right (IsWaiting h) (joined sealed) current k.waiting) (Each-right (IsBelow h (length items)) (joined sealed) current kp) k.free_current;
      none_late = late_store;
      none_late_load = late_load;
      single_sealed = k.single_sealed;
      single_current = k.single_current;
      ordered = ordered_more model h items m (performed ++ pend) at k.places k.ordered;
    }

-- ---- a store retires

pub store_keeps : (model : MemoryModel) (h : ℕ) (items : List Item) (sealed : List (List Operation)) (current performed : List Operation) (m : Item) (s : Operation)
    → m.place ≡ length items → ((j : Kind) → fences m.instr Store j ≡ false) → IsWaiting h s → IsQuiet (items ++ m ∷ []) s → s.place ≡ length items
    → (model ≡ Ztso → Each (λ a. word_of a.address ≡ word_of s.address) current)
    → Kept model h items sealed current performed → Kept model h (items ++ m ∷ []) sealed (current ++ s ∷ []) performed
store_keeps model h items sealed current performed m s at none own calm here fits k =
    let its = items ++ m ∷ [] in
    let pend = joined sealed ++ current in
    let line : performed ++ (joined sealed ++ (current ++ s ∷ [])) ≡ (performed ++ pend) ++ s ∷ [] = ap (λ ys. performed ++ ys) (sym (append_assoc (joined sealed) current (s ∷ []))) ∙ sym (append_assoc performed pend (s ∷ [])) in
    let k2 = item_keeps model h items sealed current performed m at (lates_more items m Store current (none Store) k.none_late) (lates_more items m Load pend (none Load) k.none_late_load) k in
    let own_current : Each (IsWaiting h) current = Each-right (IsWaiting h) (joined sealed) current k.waiting in
    let places_current : Each (IsBelow h (length items)) current = Each-right (IsBelow h (length items)) (joined sealed) current (Each-right (IsBelow h (length items)) performed pend k.places) in
    let fresh_late : (j : Kind) → late its j s ≡ false = λ j. late-more items m j s (late_none items j s (Each-weaker (λ (q : Item). q.place < length items) (λ (q : Item). q.place ≤ s.place) (λ q l. omega (arith, l, here)) items k.item_places)) (none j) in
    record {
      item_places = k2.item_places;
      waiting = Each-push (IsWaiting h) (joined sealed) current s k.waiting own;
      places = subst (Each (IsBelow h (length its))) (sym line) (Each-append (IsBelow h (length its)) (performed ++ pend) (s ∷ []) k2.places (new_place h items m s here, tt));
      quiet = subst (Each (IsKnown h its)) (sym line) (Each-append (IsKnown h its) (performed ++ pend) (s ∷ []) k2.quiet (record { known = λ _ _. calm }, tt));
      free_sealed = k2.free_sealed;
      free_current = square-push (λ a b. fenced its b a ≡ false) current s k2.free_current (fenced-back its s s (omega arith)) (free_before h items m s current at here own_current places_current (subst (λ (j : Kind). Each (λ a. late items j a ≡ false) current) (sym own.plain) k.none_late));
      none_late = Each-append (λ a. late its Store a ≡ false) current (s ∷ []) k2.none_late (fresh_late Store, tt);
      none_late_load = Each-push (λ a. late its Load a ≡ false) (joined sealed) current s k2.none_late_load (fresh_late Load);
      single_sealed = k.single_sealed;
      single_current = λ z. square-push (λ a b. word_of b.address ≡ word_of a.address) current s (k.single_current z) refl (Each-weaker (λ a. word_of a.address ≡ word_of s.address) (λ a. (word_of s.address ≡ word_of a.address) × (word_of a.address ≡ word_of s.address)) (λ a e. (sym e, e)) current (fits z));
      ordered = subst (Ordered (must model h its)) (sym line) (Pairwise-append (λ a b. must model h its b a ≡ false) (performed ++ pend) (s ∷ []) k2.ordered (tt, tt)
          (Each-weaker (IsBelow h (length items)) (λ a. Each (λ b. must model h its b a ≡ false) (s ∷ [])) (λ a q. (must_not_after model h its s a (precedes_not s a (λ e. let l = q.below (e ∙ own.own) in omega (arith, l, here))), tt)) (performed ++ pend) k.places));
    }

-- ---- the open group is sealed

pub sealed_line : (sealed : List (List Operation)) (current : List Operation) → joined (sealed ++ kept_group current) ++ [] ≡ joined sealed ++ current
sealed_line sealed [] = append-nil _ ∙ (joined-append sealed [])
sealed_line sealed (a ∷ g) = append-nil _ ∙ (joined-append sealed ((a ∷ g) ∷ []) ∙ ap (λ ys. joined sealed ++ ys) (append-nil (a ∷ g)))

pub seal_keeps : (model : MemoryModel) (h : ℕ) (items : List Item) (sealed : List (List Operation)) (current performed : List Operation)
    → Kept model h items sealed current performed → Kept model h items (sealed ++ kept_group current) [] performed
seal_keeps model h items sealed current performed k =
    let e = sym (sealed_line sealed current) in
    record {
      item_places = k.item_places;
      waiting = subst (Each (IsWaiting h)) e k.waiting;
      places = subst (λ ys. Each (IsBelow h (length items)) (performed ++ ys)) e k.places;
      quiet = subst (λ ys. Each (IsKnown h items) (performed ++ ys)) e k.quiet;
      free_sealed = Each-append (Free items) sealed (kept_group current) k.free_sealed (Each-kept_group (Free items) current k.free_current);
      free_current = tt;
      none_late = tt;
      none_late_load = subst (Each (λ a. late items Load a ≡ false)) e k.none_late_load;
      single_sealed = λ z. Each-append OneWord sealed (kept_group current) (k.single_sealed z) (Each-kept_group OneWord current (k.single_current z));
      single_current = λ z. tt;
      ordered = subst (λ ys. Ordered (must model h items) (performed ++ ys)) e k.ordered;
    }

-- ---- an operation is performed as it retires

pub at_once_keeps : (model : MemoryModel) (h : ℕ) (items : List Item) (sealed : List (List Operation)) (current performed : List Operation) (m : Item) (i : Operation)
    → m.place ≡ length items → ((j : Kind) → fences m.instr Store j ≡ false) → i.hart ≡ h → is_store i.kind ≡ false → i.place ≡ length items
    → Each (λ b. (writes i.kind && overlap b i) ≡ false) (joined sealed ++ current) → (writes i.kind ≡ true → Each (λ a. late items Store a ≡ false) (joined sealed ++ current)) → Each (λ b. has_release model i ≡ false) (joined sealed ++ current)
    → Kept model h items sealed current performed → Kept model h (items ++ m ∷ []) sealed current (performed ++ i ∷ [])
at_once_keeps model h items sealed current performed m i at none mine kind_of here clear unsealed unreleased k =
    let pend = joined sealed ++ current in
    let its = items ++ m ∷ [] in
    let k2 = item_keeps model h items sealed current performed m at (lates_more items m Store current (none Store) k.none_late) (lates_more items m Load pend (none Load) k.none_late_load) k in
    let places_done : Each (IsBelow h (length items)) performed = Each-left (IsBelow h (length items)) performed pend k.places in
    let places_pend : Each (IsBelow h (length items)) pend = Each-right (IsBelow h (length items)) performed pend k.places in
    record {
      item_places = k2.item_places;
      waiting = k2.waiting;
      places = Each-between (IsBelow h (length its)) performed pend i k2.places (new_place h items m i here);
      quiet = Each-between (IsKnown h its) performed pend i k2.quiet (record { known = λ e s. absurd (true≢false (sym (ap is_store s) ∙ kind_of)) });
      free_sealed = k2.free_sealed;
      free_current = k2.free_current;
      none_late = k2.none_late;
      none_late_load = k2.none_late_load;
      single_sealed = k.single_sealed;
      single_current = k.single_current;
      ordered = subst (Ordered (must model h its)) (sym (append_assoc performed (i ∷ []) pend)) (Pairwise-between (λ a b. must model h its b a ≡ false) performed pend i k2.ordered
          (passed its pend k.waiting clear unreleased (free_before h items m i pend at here k.waiting places_pend (lates pend k.none_late_load unsealed)))
          (Each-weaker (IsBelow h (length items)) (λ a. must model h its i a ≡ false) (λ a q. must_not_after model h its i a (precedes_not i a (λ e. let l = q.below (e ∙ mine) in omega (arith, l, here)))) performed places_done));
    }
  where
    lates : (g : List Operation) → Each (λ a. late items Load a ≡ false) g → (writes i.kind ≡ true → Each (λ a. late items Store a ≡ false) g) → Each (λ a. late items i.kind a ≡ false) g
    lates [] a f = tt
    lates (x ∷ g) a f = (late_kind i.kind items x kind_of a.0 (λ w. (f w).0), lates g a.1 (λ w. (f w).1))

    passed : (its : List Item) (g : List Operation) → Each (IsWaiting h) g → Each (λ b. (writes i.kind && overlap b i) ≡ false) g → Each (λ b. has_release model i ≡ false) g → Each (λ a. (fenced its i a ≡ false) × (fenced its a i ≡ false)) g → Each (λ b. must model h its b i ≡ false) g
    passed its [] a b c d = tt
    passed its (x ∷ g) a b c d = (must_free model h its x i a.0.plain b.0 d.0.1 c.0, passed its g a.1 b.1 c.1 d.1)

-- ---- another hart's operations are performed

foreign_free : (model : MemoryModel) (h : ℕ) (items : List Item) (s x : Operation) → (s.hart ≡ h → ⊥) → must model h items s x ≡ false
foreign_free model h items s x other = and_left _ _ (and_left (nat_eq s.hart h) (precedes s x) (ne_eqb s.hart h other))

foreign_away : (model : MemoryModel) (h : ℕ) (items : List Item) (b s : Operation) → (s.hart ≡ h → ⊥) → IsWaiting h b → must model h items b s ≡ false
foreign_away model h items b s other q = must_not_after model h items b s (precedes_not b s (λ e. absurd (other (e ∙ q.own))))

foreign_alone : (model : MemoryModel) (h : ℕ) (items : List Item) (xs : List Operation) → Each (λ s. s.hart ≡ h → ⊥) xs → Pairwise (λ a b. must model h items b a ≡ false) xs
foreign_alone model h items [] f = tt
foreign_alone model h items (x ∷ xs) f = (Each-weaker (λ s. s.hart ≡ h → ⊥) (λ s. must model h items s x ≡ false) (λ s other. foreign_free model h items s x other) xs f.1, foreign_alone model h items xs f.1)

insert_all : (R : Operation → Operation → Type 0) (done out ys : List Operation) → Pairwise R (done ++ ys) → Pairwise R out → Each (λ i. Each (R i) ys) out → Each (λ x. Each (R x) out) done → Pairwise R ((done ++ out) ++ ys)
insert_all R done out ys h own after before =
    Pairwise-append R (done ++ out) ys (Pairwise-append R done out (Pairwise-left R done ys h) own before) (Pairwise-right R done ys h) (Each-append (λ x. Each (R x) ys) done out (Pairwise-across R done ys h) after)

among : (P : Operation → Type 0) (done out ys : List Operation) → Each P (done ++ ys) → Each P out → Each P ((done ++ out) ++ ys)
among P done out ys a b = Each-append P (done ++ out) ys (Each-append P done out (Each-left P done ys a) b) (Each-right P done ys a)

pub foreign_keeps : (model : MemoryModel) (h : ℕ) (items : List Item) (sealed : List (List Operation)) (current performed out : List Operation) → Each (λ s. s.hart ≡ h → ⊥) out
    → Kept model h items sealed current performed → Kept model h items sealed current (performed ++ out)
foreign_keeps model h items sealed current performed out foreign k =
    let pend = joined sealed ++ current in
    record {
      item_places = k.item_places;
      waiting = k.waiting;
      places = among (IsBelow h (length items)) performed out pend k.places (Each-weaker (λ s. s.hart ≡ h → ⊥) (IsBelow h (length items)) (λ s other. record { below = λ e. absurd (other e) }) out foreign);
      quiet = among (IsKnown h items) performed out pend k.quiet (Each-weaker (λ s. s.hart ≡ h → ⊥) (IsKnown h items) (λ s other. record { known = λ e f. absurd (other e) }) out foreign);
      free_sealed = k.free_sealed;
      free_current = k.free_current;
      none_late = k.none_late;
      none_late_load = k.none_late_load;
      single_sealed = k.single_sealed;
      single_current = k.single_current;
      ordered = insert_all (λ a b. must model h items b a ≡ false) performed out pend k.ordered (foreign_alone model h items out foreign)
          (Each-weaker (λ s. s.hart ≡ h → ⊥) (λ s. Each (λ b. must model h items b s ≡ false) pend) (λ s other. Each-weaker (IsWaiting h) (λ b. must model h items b s ≡ false) (λ b q. foreign_away model h items b s other q) pend k.waiting) out foreign)
          (Each-always (λ x. Each (λ s. must model h items s x ≡ false) out) (λ x. Each-weaker (λ s. s.hart ≡ h → ⊥) (λ s. must model h items s x ≡ false) (λ s other. foreign_free model h items s x other) out foreign) performed);
    }

-- ---- a word leaves the group that stands first

apart_by : (word : ℕ) (a b : Operation) → of_word word a ≡ true → not (of_word word b) ≡ true → word_of b.address ≡ word_of a.address → ⊥
apart_by word a b ea eb e = eqb-false (word_of b.address) word (not-true _ eb) (e ∙ eqb-true (word_of a.address) word ea)

-- a store that leaves passes none of its group that it must not pass
leaves_free : (model : MemoryModel) (h : ℕ) (items : List Item) (word : ℕ) (a b : Operation) → IsWaiting h a → IsWaiting h b → fenced items b a ≡ false → (model ≡ Ztso → word_of b.address ≡ word_of a.address) → of_word word a ≡ true → not (of_word word b) ≡ true → must model h items b a ≡ false
leaves_free Rvwmo h items word a b qa qb f single ea eb = must_free Rvwmo h items b a qb.plain (and_right (writes a.kind) (overlap b a) (apart b a qb.in_word qa.in_word (apart_by word a b ea eb))) f qa.no_release
leaves_free Ztso h items word a b qa qb f single ea eb = absurd (apart_by word a b ea eb (single refl))

-- a group, and what is known of it
pub record Group (model : MemoryModel) (h : ℕ) (items : List Item) (g : List Operation) : Type 0 where
  pub own : Each (IsWaiting h) g
  pub free : Free items g
  pub single : model ≡ Ztso → OneWord g

single_at : (model : MemoryModel) (g xs ys : List Operation) → (model ≡ Ztso → Each (λ a. Each (λ b. word_of b.address ≡ word_of a.address) ys) xs) → Each (λ a. Each (λ b. model ≡ Ztso → word_of b.address ≡ word_of a.address) ys) xs
single_at model g [] ys f = tt
single_at model g (x ∷ xs) ys f = (each ys (λ z. (f z).0), single_at model g xs ys (λ z. (f z).1))
  where
    each : (ys : List Operation) → (model ≡ Ztso → Each (λ b. word_of b.address ≡ word_of x.address) ys) → Each (λ b. model ≡ Ztso → word_of b.address ≡ word_of x.address) ys
    each [] f = tt
    each (y ∷ ys) f = (λ z. (f z).0, each ys (λ z. (f z).1))

drain_ordered : (model : MemoryModel) (h : ℕ) (items : List Item) (word : ℕ) (done g rest : List Operation) → Group model h items g → Ordered (must model h items) (done ++ (g ++ rest)) → Ordered (must model h items) ((done ++ filter (of_word word) g) ++ (others (of_word word) g ++ rest))
drain_ordered model h items word done g rest q k =
    Pairwise-moved (λ a b. must model h items b a ≡ false) (of_word word) done g rest k
    (Each-weaker (λ a. (IsWaiting h a × Each (λ b. fenced items b a ≡ false) g) × Each (λ b. model ≡ Ztso → word_of b.address ≡ word_of a.address) g) (λ a. Each (λ b. of_word word a ≡ true → not (of_word word b) ≡ true → must model h items b a ≡ false) g)
    (λ a z. Each-weaker (λ b. (IsWaiting h b × (fenced items b a ≡ false)) × (model ≡ Ztso → word_of b.address ≡ word_of a.address)) (λ b. of_word word a ≡ true → not (of_word word b) ≡ true → must model h items b a ≡ false)
    (λ b r ea eb. leaves_free model h items word a b z.0.0 r.0.0 r.0.1 r.1 ea eb)
    g (Each-both (λ b. IsWaiting h b × (fenced items b a ≡ false)) (λ b. model ≡ Ztso → word_of b.address ≡ word_of a.address) g (Each-both (IsWaiting h) (λ b. fenced items b a ≡ false) g q.own z.0.1) z.1))
    g (Each-both (λ a. IsWaiting h a × Each (λ b. fenced items b a ≡ false) g) (λ a. Each (λ b. model ≡ Ztso → word_of b.address ≡ word_of a.address) g) g (Each-both (IsWaiting h) (λ a. Each (λ b. fenced items b a ≡ false) g) g q.own q.free) (single_at model g g g q.single)))

-- from a sealed group
pub drain_sealed_keeps : (model : MemoryModel) (h : ℕ) (items : List Item) (g : List Operation) (gs : List (List Operation)) (current performed : List Operation) (word : ℕ)
    → Kept model h items (g ∷ gs) current performed
    → Kept model h items (kept_group (others (of_word word) g) ++ gs) current (performed ++ filter (of_word word) g)
drain_sealed_keeps model h items g gs current performed word k =
    let rest = joined gs ++ current in
    let p = of_word word in
    let old : (g ++ joined gs) ++ current ≡ g ++ rest = append_assoc g (joined gs) current in
    let new : others p g ++ rest ≡ joined (kept_group (others p g) ++ gs) ++ current = sym (ap (λ v. v ++ current) (joined-kept (others p g) gs) ∙ append_assoc (others p g) (joined gs) current) in
    let own : Each (IsWaiting h) (g ++ rest) = subst (Each (IsWaiting h)) old k.waiting in
    let tail : (P : Operation → Type 0) → Each P (g ++ rest) → Each P (others p g ++ rest) = λ P z. Each-append P (others p g) rest (Each-kept P (λ x. not (p x)) g (Each-left P g rest z)) (Each-right P g rest z) in
    record {
      item_places = k.item_places;
      waiting = subst (Each (IsWaiting h)) new (tail (IsWaiting h) own);
      places = subst (λ v. Each (IsBelow h (length items)) ((performed ++ filter p g) ++ v)) new (Each-moved (IsBelow h (length items)) p performed g rest (subst (λ v. Each (IsBelow h (length items)) (performed ++ v)) old k.places));
      quiet = subst (λ v. Each (IsKnown h items) ((performed ++ filter p g) ++ v)) new (Each-moved (IsKnown h items) p performed g rest (subst (λ v. Each (IsKnown h items) (performed ++ v)) old k.quiet));
      free_sealed = Each-append (Free items) (kept_group (others p g)) gs (Each-kept_group (Free items) (others p g) (square-kept (λ a b. fenced items b a ≡ false) (λ x. not (p x)) g k.free_sealed.0)) k.free_sealed.1;
      free_current = k.free_current;
      none_late = k.none_late;
      none_late_load = subst (Each (λ a. late items Load a ≡ false)) new (tail (λ a. late items Load a ≡ false) (subst (Each (λ a. late items Load a ≡ false)) old k.none_late_load));
      single_sealed = λ z. Each-append OneWord (kept_group (others p g)) gs (Each-kept_group OneWord (others p g) (square-kept (λ a b. word_of b.address ≡ word_of a.address) (λ x. not (p x)) g (k.single_sealed z).0)) (k.single_sealed z).1;
      single_current = k.single_current;
      ordered = subst (λ v. Ordered (must model h items) ((performed ++ filter p g) ++ v)) new (drain_ordered model h items word performed g rest
          (record { own = Each-left (IsWaiting h) g rest own; free = k.free_sealed.0; single = λ z. (k.single_sealed z).0 }) (subst (λ v. Ordered (must model h items) (performed ++ v)) old k.ordered));
    }

-- from the open group, where no group is sealed
pub drain_open_keeps : (model : MemoryModel) (h : ℕ) (items : List Item) (g performed : List Operation) (word : ℕ)
    → Kept model h items [] g performed
    → Kept model h items [] (others (of_word word) g) (performed ++ filter (of_word word) g)
drain_open_keeps model h items g performed word k =
    let p = of_word word in
    let old : g ≡ g ++ [] = sym (append-nil g) in
    let new : others p g ++ [] ≡ others p g = append-nil (others p g) in
    record {
      item_places = k.item_places;
      waiting = Each-kept (IsWaiting h) (λ x. not (p x)) g k.waiting;
      places = subst (λ v. Each (IsBelow h (length items)) ((performed ++ filter p g) ++ v)) new (Each-moved (IsBelow h (length items)) p performed g [] (subst (λ v. Each (IsBelow h (length items)) (performed ++ v)) old k.places));
      quiet = subst (λ v. Each (IsKnown h items) ((performed ++ filter p g) ++ v)) new (Each-moved (IsKnown h items) p performed g [] (subst (λ v. Each (IsKnown h items) (performed ++ v)) old k.quiet));
      free_sealed = tt;
      free_current = square-kept (λ a b. fenced items b a ≡ false) (λ x. not (p x)) g k.free_current;
      none_late = Each-kept (λ a. late items Store a ≡ false) (λ x. not (p x)) g k.none_late;
      none_late_load = Each-kept (λ a. late items Load a ≡ false) (λ x. not (p x)) g k.none_late_load;
      single_sealed = λ z. tt;
      single_current = λ z. square-kept (λ a b. word_of b.address ≡ word_of a.address) (λ x. not (p x)) g (k.single_current z);
      ordered = subst (λ v. Ordered (must model h items) ((performed ++ filter p g) ++ v)) new (drain_ordered model h items word performed g [] (record { own = k.waiting; free = k.free_current; single = k.single_current }) (subst (λ v. Ordered (must model h items) (performed ++ v)) old k.ordered));
    }
