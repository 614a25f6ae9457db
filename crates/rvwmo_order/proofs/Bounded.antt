-- What a walk says of an operation bounds the weight of each that must come before it, rule by rule.
use Rattle.std.proofs.Common.{◌≡◌, ℕ, zero, suc, ◌+◌, ◌<◌, ◌≤◌, max, find, List, [], ◌∷◌, Bool, true, false, Option, Some, None, refl, cond, sym, subst, ap, ◌∙◌, not, ◌&&◌, ◌||◌, ◌⊎◌, ⊎_elim, inl, inr, arith}
use Rattle.std.specs.Prelude.{◌==◌, filter, nat_eq, nat_lt, slice_get, slice_index_or}
use Rattle.std.specs.List.{AllByRecursion as Each, last_or, list_any, range_with_len}
use Rattle.std.specs.Option.{option_map_or}
use Rattle.std.proofs.lemmas.Bool.{and_from, and_parts, eqb-true, le-leb, lt-ltb, ltb-true, ne_eqb, not-true, or_cases, true≢false}
use Rattle.std.proofs.lemmas.List.Folds.{find_at}
use Rattle.std.proofs.lemmas.Option.{none-some, same_Some}
use Rattle.machine_types.specs.declared.model.MemoryModel.{MemoryModel}
use Rattle.memory_model.specs.declared.operation.Operation.{Operation}
use Rattle.memory_model.specs.Dependencies.{between, has_address_dependency, has_control_dependency, has_data_dependency, has_dependent_address_between, instr_in, uses_in}
use Rattle.memory_model.specs.Items.{Item}
use Rattle.memory_model.specs.Operations.{addresses_of, has_rcsc, has_release, is_amo, is_sc, is_lr, overlap, precedes, reads, same, stores_to, touches, writes}
use Rattle.memory_model.specs.Order.{candidates, position_in, same_source, source}
use Rattle.memory_model.specs.Rules.{are_from_different_writes, asked_by, has_store_to, is_lr_or_sc, items_of, passes_on, returns_from}
use Rattle.memory_model.proofs.Forms.{same-self, same-swap}
use Rattle.memory_model.proofs.Lists.{Member, Each-at, Each-from, Each-kept}
use Rattle.rvwmo_order.specs.Bounds.{Bounds, BoundsEach, GivesEach, HasCome, IsGiven, IsBoundsRow, IsSource, bound_of, own_weight, unbounded, weight_of}
use Rattle.rvwmo_order.specs.Carried.{greatest}
use Rattle.rvwmo_order.specs.Rules.{rule_of}
use Rattle.rvwmo_order.specs.Ranks.{rank_of}
use Rattle.rvwmo_order.specs.Passed.{fenced_before}
use Rattle.trace_operations.specs.Placed.{GivesOwn, IsPlaced}
use Rattle.rvwmo_order.specs.Touched.{but}
use Rattle.rvwmo_order.specs.declared.bounds.passed.Passed.{Passed}
use Rattle.rvwmo_order.specs.declared.bounds.carried.Carried.{Carried}
use Rattle.rvwmo_order.specs.declared.bounds.rows.Row.{Row}
use Rattle.rvwmo_order.specs.declared.bounds.touched.Touch.{Touch}
use Rattle.rvwmo_order.specs.declared.rule.Rule.{Rule}
use Rattle.rvwmo_order.specs.declared.rule.Rule.TheVariants.{OverlappingStore, SameByteLoads, AtomicSource, Fence, Acquire, Release, Annotations, Pair, Address, Data, Control, DependentStore, DependentAddress}
use Rattle.rvwmo_order.specs.declared.bounds.walking.Walk.{Walk}
use Rattle.rvwmo_order.proofs.Covered.{address_covered, carried_at, control_covered, data_covered, dependent_address_covered}
use Rattle.rvwmo_order.proofs.Noted.{acquire_passed, all_passed, annotated_passed, fence_passed, pair_passed}
use Rattle.rvwmo_order.proofs.Touches.{access_touched, load_touched}

-- ---- tests

pub three : (p q r : Bool) → (p && q && r) ≡ true → (p ≡ true) × (q ≡ true) × (r ≡ true)
three true true true e = (refl, refl, refl)
three true true false e = absurd (true≢false (sym e))
three true false r e = absurd (true≢false (sym e))
three false q r e = absurd (true≢false (sym e))

-- one of a list passes a test
record Found {X : Type 0} (p : X → Bool) (xs : List X) : Type 0 where
  index : ℕ
  found : X
  there : slice_get xs index ≡ Some found
  passes : p found ≡ true

found_filtered : {X : Type 0} (p q : X → Bool) (xs : List X) → list_any p (filter q xs) ≡ true → Found p xs
found_filtered p q [] e = absurd (true≢false (sym e))
found_filtered p q (x ∷ rest) e = go (q x) e (found_filtered p q rest)
  where
    later : Found p rest → Found p (x ∷ rest)
    later f = record { index = suc f.index; found = f.found; there = f.there; passes = f.passes }

    go : (b : Bool) → list_any p (cond b (x ∷ filter q rest) (filter q rest)) ≡ true → (list_any p (filter q rest) ≡ true → Found p rest) → Found p (x ∷ rest)
    go true h ih = ⊎_elim (λ (k : p x ≡ true). record { index = 0; found = x; there = refl; passes = k }) (λ (k : list_any p (filter q rest) ≡ true). later (ih k)) (or_cases (p x) (list_any p (filter q rest)) h)
    go false h ih = later (ih h)

-- ---- bytes

record Byte (p : ℕ → Bool) (address size : ℕ) : Type 0 where
  x : ℕ
  low : address ≤ x
  high : x < address + size
  passes : p x ≡ true

byte_from : (p : ℕ → Bool) (address size : ℕ) → list_any p (range_with_len address size) ≡ true → Byte p address size
byte_from p address zero e = absurd (true≢false (sym e))
byte_from p address (suc n) e = ⊎_elim (λ (h : p address ≡ true). record { x = address; low = omega arith; high = omega arith; passes = h }) (λ (h : list_any p (range_with_len (address + 1) n) ≡ true). let f = byte_from p (address + 1) n h in let l = f.low in let k = f.high in record { x = f.x; low = omega (arith, l); high = omega (arith, k); passes = f.passes }) (or_cases (p address) (list_any p (range_with_len (address + 1) n)) e)

touches_within : (x : ℕ) (a : Operation) → a.address ≤ x → x < a.address + a.size → touches x a ≡ true
touches_within x a l h = and_from _ _ (le-leb a.address x l) (lt-ltb x (a.address + a.size) h)

-- ---- operations of an order

same_hart : (a b : Operation) → precedes a b ≡ true → a.hart ≡ b.hart
same_hart a b e = eqb-true a.hart b.hart (and_parts (nat_eq a.hart b.hart) (nat_lt a.place b.place) e).0

earlier : (a b : Operation) → precedes a b ≡ true → a.place < b.place
earlier a b e = ltb-true a.place b.place (and_parts (nat_eq a.hart b.hart) (nat_lt a.place b.place) e).1

-- an item that gives an operation at its place gives the one of that name
pub one_given : (harts : List (List Item)) (t s : Operation) (m : Item) → IsGiven (items_of harts t.hart) t → slice_get (items_of harts s.hart) s.place ≡ Some m → m.operation ≡ Some s → same t s ≡ true → t ≡ s
one_given harts t s m g e o h =
    let p = and_parts (nat_eq t.hart s.hart) (nat_eq t.place s.place) h in
    let hart : t.hart ≡ s.hart = eqb-true t.hart s.hart p.0 in
    let place : t.place ≡ s.place = eqb-true t.place s.place p.1 in
    let items : slice_get (items_of harts t.hart) t.place ≡ slice_get (items_of harts s.hart) s.place = ap (λ (n : ℕ). slice_get (items_of harts n) t.place) hart ∙ ap (slice_get (items_of harts s.hart)) place in
    let item : g.item ≡ m = same_Some g.item m (sym g.there ∙ (items ∙ e)) in
    same_Some t s (sym g.gives ∙ (ap (λ (i : Item). i.operation) item ∙ o))

each_candidate : (P : Operation → Type 0) (order : List Operation) (b : Operation) (x : ℕ) → Each P order → Each P (candidates order b x)
each_candidate P [] b x h = tt
each_candidate P (s ∷ rest) b x h = go (same s b) (stores_to x s) (each_candidate P rest b x h.1)
  where
    go : (c d : Bool) → Each P (candidates rest b x) → Each P (cond c (filter (λ t. stores_to x t && precedes t b) rest) (cond d (s ∷ candidates rest b x) (candidates rest b x)))
    go true d ih = Each-kept P (λ t. stores_to x t && precedes t b) rest h.1
    go false true ih = (h.0, ih)
    go false false ih = ih

last_each : (P : Operation → Type 0) (o : Option Operation) (xs : List Operation) (s : Operation) → (o ≡ Some s → P s) → Each P xs → last_or o xs ≡ Some s → P s
last_each P o [] s f h e = f e
last_each P o (x ∷ rest) s f h e = last_each P (Some x) rest s (λ k. subst P (same_Some x s k) h.0) h.1 e

-- what holds of each operation holds of a source
source_each : (P : Operation → Type 0) (order : List Operation) (b : Operation) (x : ℕ) (s : Operation) → Each P order → source order b x ≡ Some s → P s
source_each P order b x s h e = last_each P None (candidates order b x) s (λ k. absurd (none-some s k)) (each_candidate P order b x h) e

record From (o : Option Operation) (a : Operation) : Type 0 where
  store : Operation
  stored : o ≡ Some store
  is_same : same store a ≡ true

from_source : (o : Option Operation) (a : Operation) → same_source o (Some a) ≡ true → From o a
from_source None a e = absurd (true≢false (sym e))
from_source (Some t) a e = record { store = t; stored = refl; is_same = e }

find_it : (order : List Operation) (t : Operation) → Member t order → Each (λ (u : Operation). same t u ≡ true → t ≡ u) order → find (same t) order ≡ Some t
find_it [] t m h = absurd m
find_it (u ∷ rest) t m h = go (same t u) refl m (λ k. find_it rest t k h.1)
  where
    go : (c : Bool) → same t u ≡ c → (t ≡ u) ⊎ Member t rest → (Member t rest → find (same t) rest ≡ Some t) → cond c (Some u) (find (same t) rest) ≡ Some t
    go true e m ih = ap (λ (y : Operation). Some y) (sym (h.0 e))
    go false e (inl k) ih = absurd (true≢false (sym (same-self t) ∙ (ap (same t) k ∙ e)))
    go false e (inr k) ih = ih k

-- what is found by an operation's name bears it, and is given
pub at_place : (harts : List (List Item)) (order : List Operation) (b c : Operation) → GivesEach harts order → find (same b) order ≡ Some c → (same c b ≡ true) × IsGiven (items_of harts c.hart) c
at_place harts [] b c g e = absurd (none-some c e)
at_place harts (u ∷ rest) b c g e = go (same b u) refl e (at_place harts rest b c g.1)
  where
    swapped : (d : Bool) → same u b ≡ d → same b u ≡ true → same u b ≡ true
    swapped true k h = k
    swapped false k h = absurd (true≢false (sym h ∙ same-swap u b k))

    go : (d : Bool) → same b u ≡ d → cond d (Some u) (find (same b) rest) ≡ Some c → (find (same b) rest ≡ Some c → (same c b ≡ true) × IsGiven (items_of harts c.hart) c) → (same c b ≡ true) × IsGiven (items_of harts c.hart) c
    go true h k ih = subst (λ (y : Operation). (same y b ≡ true) × IsGiven (items_of harts y.hart) y) (same_Some u c k) (swapped (same u b) refl h, g.0)
    go false h k ih = ih k

-- ---- the operation at hand

record Here (model : MemoryModel) (harts : List (List Item)) (order : List Operation) (weights : List ℕ) (rows : List Row) (b : Operation) (w : Walk) (r : Row) : Type 0 where
  gives : GivesEach harts order
  bound : BoundsEach model harts order weights rows
  placed : IsPlaced 0 (items_of harts b.hart)
  own : GivesOwn b.hart (items_of harts b.hart)
  given : IsGiven (items_of harts b.hart) b
  come : HasCome model (own_weight weights order) order (items_of harts b.hart) b.place w
  row : IsBoundsRow order weights rows b (uses_in given.item.instr) w r

-- an earlier operation, by its item in b's list
record Earlier (harts : List (List Item)) (order : List Operation) (weights : List ℕ) (a b : Operation) : Type 0 where
  item : Item
  there : slice_get (items_of harts b.hart) a.place ≡ Some item
  gives : item.operation ≡ Some a
  before : a.place < b.place
  weighs : own_weight weights order item ≡ weight_of weights order a
  hart : a.hart ≡ b.hart
  has_bytes : 0 < a.size

earlier_than : (harts : List (List Item)) (order : List Operation) (weights : List ℕ) (a b : Operation) → IsGiven (items_of harts a.hart) a → precedes a b ≡ true → Earlier harts order weights a b
earlier_than harts order weights a b g e = record {
  item = g.item;
  there = ap (λ (n : ℕ). slice_get (items_of harts n) a.place) (sym (same_hart a b e)) ∙ g.there;
  gives = g.gives;
  before = earlier a b e;
  weighs = ap (λ (o : Option Operation). option_map_or (weight_of weights order) o 0) g.gives;
  hart = same_hart a b e;
  has_bytes = g.has_bytes;
}

-- a store of b's hart that b returns from is its source
returned : (model : MemoryModel) (harts : List (List Item)) (order : List Operation) (weights : List ℕ) (rows : List Row) (b : Operation) (w : Walk) (r : Row) (s : Operation) (m : Item) → Here model harts order weights rows b w r
    → slice_get (items_of harts b.hart) s.place ≡ Some m → m.operation ≡ Some s → s.hart ≡ b.hart → returns_from order b s ≡ true → (x : ℕ) × IsSource order b x s
returned model harts order weights rows b w r s m h e o k f =
    let byte = byte_from (λ x. same_source (source order b x) (Some s)) b.address b.size f in
    let from = from_source (source order b byte.x) s byte.passes in
    let given = source_each (λ (a : Operation). IsGiven (items_of harts a.hart) a) order b byte.x from.store h.gives from.stored in
    let there : slice_get (items_of harts s.hart) s.place ≡ Some m = ap (λ (n : ℕ). slice_get (items_of harts n) s.place) k ∙ e in
    let it : from.store ≡ s = one_given harts from.store s m given there o from.is_same in
    (byte.x, record { touched = touches_within byte.x b byte.low byte.high; stored = from.stored ∙ ap (λ (y : Operation). Some y) it; own = k })

-- a source stands in the order where its name is found
stands : (harts : List (List Item)) (order : List Operation) (b : Operation) (x : ℕ) (s : Operation) → GivesEach harts order → source order b x ≡ Some s → slice_get order (position_in order s) ≡ Some s
stands harts order b x s g e =
    let member = source_each (λ (a : Operation). Member a order) order b x s (Each-from (λ (a : Operation). Member a order) order (λ c m. m)) e in
    let given = source_each (λ (a : Operation). IsGiven (items_of harts a.hart) a) order b x s g e in
    sym (find_at (same s) order) ∙ find_it order s member (Each-from (λ (u : Operation). same s u ≡ true → s ≡ u) order (λ u m f. let other = Each-at (λ (a : Operation). IsGiven (items_of harts a.hart) a) u order g m in one_given harts s u other.item given other.there other.gives f))

-- sources that are two have ranks apart
ranks_apart : (harts : List (List Item)) (order : List Operation) (a b : Operation) (x : ℕ) → GivesEach harts order → same_source (source order a x) (source order b x) ≡ false → (rank_of order (source order a x) == rank_of order (source order b x)) ≡ false
ranks_apart harts order a b x g d = go (source order a x) refl (source order b x) refl d
  where
    go : (o : Option Operation) → source order a x ≡ o → (p : Option Operation) → source order b x ≡ p → same_source o p ≡ false → (rank_of order o == rank_of order p) ≡ false
    go None e None f d = absurd (true≢false d)
    go None e (Some t) f d = ne_eqb 0 (position_in order t + 1) (λ h. omega (arith, h))
    go (Some s) e None f d = ne_eqb (position_in order s + 1) 0 (λ h. omega (arith, h))
    go (Some s) e (Some t) f d = ne_eqb (position_in order s + 1) (position_in order t + 1) (λ h. one h)
      where
        one : position_in order s + 1 ≡ position_in order t + 1 → ⊥
        one h =
            let place : position_in order s ≡ position_in order t = omega (arith, h) in
            let it : s ≡ t = same_Some s t (sym (stands harts order a x s g e) ∙ (ap (slice_get order) place ∙ stands harts order b x t g f)) in
            true≢false (sym (ap (same s) (sym it) ∙ same-self s) ∙ d)

-- ---- rule by rule

bounded_by : (model : MemoryModel) (harts : List (List Item)) (order : List Operation) (weights : List ℕ) (rows : List Row) (a b : Operation) (w : Walk) (r : Row) (rule : Rule) → Here model harts order weights rows b w r → Member a order → Earlier harts order weights a b
    → (rule_of rule).asks model (items_of harts b.hart) order a b ≡ true → weight_of weights order a ≤ bound_of rule r
bounded_by model harts order weights rows a b w r OverlappingStore h m e t =
    let p = and_parts (writes b.kind) (overlap a b) t in
    let q = and_parts (nat_lt a.address (b.address + b.size)) (nat_lt b.address (a.address + a.size)) p.1 in
    let left = ltb-true a.address (b.address + b.size) q.0 in
    let right = ltb-true b.address (a.address + a.size) q.1 in
    let k = e.has_bytes in let l = h.given.has_bytes in
    let x : ℕ = max a.address b.address in
    let in_a = touches_within x a (omega arith) (omega (arith, left, right, k, l)) in
    let in_b = touches_within x b (omega arith) (omega (arith, left, right, k, l)) in
    let kept = access_touched order x (own_weight weights order) (items_of harts b.hart) a b e.item h.placed e.there e.gives e.before in_a in
    let row = h.row.overlapping_store p.0 x in_b in
    let come = ap (λ (t : Touch). t.all) (h.come.touched x) in
    let weighs = e.weighs in
    omega (arith, kept, row, come, weighs)
bounded_by model harts order weights rows a b w r SameByteLoads h m e t =
    let p = three (reads a.kind) (reads b.kind) (list_any (are_from_different_writes (items_of harts b.hart) order a b) (addresses_of a)) t in
    let byte = byte_from (are_from_different_writes (items_of harts b.hart) order a b) a.address a.size p.2 in
    let x : ℕ = byte.x in
    let q = three (touches x b) (not (list_any (λ (m : Item). has_store_to x m.operation) (between (items_of harts b.hart) a b))) (not (same_source (source order a x) (source order b x))) byte.passes in
    let in_a = touches_within x a byte.low byte.high in
    let kept = load_touched order x (own_weight weights order) (items_of harts b.hart) a b e.item (rank_of order (source order b x)) h.placed e.there e.gives e.before in_a p.0 (not-true _ q.1) (ranks_apart harts order a b x h.gives (not-true _ q.2)) in
    let row = h.row.same_byte_loads p.1 x q.0 in
    let come = ap (but (rank_of order (source order b x))) (h.come.touched x) in
    let weighs = e.weighs in
    omega (arith, kept, row, come, weighs)
bounded_by model harts order weights rows a b w r AtomicSource h m e t =
    let p = three (is_amo a.kind || is_sc a.kind) (reads b.kind) (returns_from order b a) t in
    let s = returned model harts order weights rows b w r a e.item h e.there e.gives e.hart p.2 in
    h.row.atomic_source p.1 s.0 a s.1 p.0
bounded_by model harts order weights rows a b w r Fence h m e t =
    let kept = fence_passed model (own_weight weights order) (items_of harts b.hart) a b e.item h.placed e.there e.gives e.before t in
    let row = h.row.fence in
    let come = ap (fenced_before b.kind) h.come.passed in
    let weighs = e.weighs in
    omega (arith, kept, row, come, weighs)
bounded_by model harts order weights rows a b w r Acquire h m e t =
    let kept = acquire_passed model (own_weight weights order) (items_of harts b.hart) a b e.item h.placed e.there e.gives e.before t in
    let row = h.row.acquire in
    let come = ap (λ (s : Passed). s.acquires) h.come.passed in
    let weighs = e.weighs in
    omega (arith, kept, row, come, weighs)
bounded_by model harts order weights rows a b w r Release h m e t =
    let kept = all_passed model (own_weight weights order) (items_of harts b.hart) a b e.item h.placed e.there e.gives e.before in
    let row = h.row.release (ap (λ (x : MemoryModel). has_release x b) h.come.model_is ∙ t) in
    let come = ap (λ (s : Passed). s.all) h.come.passed in
    let weighs = e.weighs in
    omega (arith, kept, row, come, weighs)
bounded_by model harts order weights rows a b w r Annotations h m e t =
    let p = and_parts (has_rcsc model a) (has_rcsc model b) t in
    let kept = annotated_passed model (own_weight weights order) (items_of harts b.hart) a b e.item h.placed e.there e.gives e.before p.0 in
    let row = h.row.annotations (ap (λ (x : MemoryModel). has_rcsc x b) h.come.model_is ∙ p.1) in
    let come = ap (λ (s : Passed). s.annotated) h.come.passed in
    let weighs = e.weighs in
    omega (arith, kept, row, come, weighs)
bounded_by model harts order weights rows a b w r Pair h m e t =
    let kept = pair_passed model (own_weight weights order) (items_of harts b.hart) a b e.item h.placed e.there e.gives e.before t in
    let row = h.row.pair (conditional (precedes a b) (is_lr a.kind) (is_sc b.kind) (not (list_any (λ (m : Item). is_lr_or_sc m.instr) (between (items_of harts b.hart) a b))) t) in
    let come = ap (λ (s : Passed). s.reserved) h.come.passed in
    let weighs = e.weighs in
    omega (arith, kept, row, come, weighs)
  where
    conditional : (p r c n : Bool) → (p && r && c && n) ≡ true → c ≡ true
    conditional true true true n e = refl
    conditional true true false n e = e
    conditional true false c n e = absurd (true≢false (sym e))
    conditional false r c n e = absurd (true≢false (sym e))
bounded_by model harts order weights rows a b w r Address h m e t =
    let kept = address_covered (own_weight weights order) (items_of harts b.hart) a b e.item h.placed e.there e.before t in
    let row = h.row.address in
    let come = ap (λ (c : Carried). greatest c.registers (uses_in h.given.item.instr).address) h.come.carried in
    let uses = ap (λ (o : Option Item). greatest (carried_at (own_weight weights order) (items_of harts b.hart) b.place).registers (uses_in (instr_in o)).address) h.given.there in
    let weighs = e.weighs in
    omega (arith, kept, row, come, uses, weighs)
bounded_by model harts order weights rows a b w r Data h m e t =
    let kept = data_covered (own_weight weights order) (items_of harts b.hart) a b e.item h.placed e.there e.before t in
    let row = h.row.data_stored in
    let come = ap (λ (c : Carried). greatest c.registers (uses_in h.given.item.instr).stored) h.come.carried in
    let uses = ap (λ (o : Option Item). greatest (carried_at (own_weight weights order) (items_of harts b.hart) b.place).registers (uses_in (instr_in o)).stored) h.given.there in
    let weighs = e.weighs in
    omega (arith, kept, row, come, uses, weighs)
bounded_by model harts order weights rows a b w r Control h m e t =
    let p = and_parts (writes b.kind) (has_control_dependency (items_of harts b.hart) a b) t in
    let kept = control_covered (own_weight weights order) (items_of harts b.hart) a b e.item h.placed e.there e.before p.1 in
    let row = h.row.control p.0 in
    let come = ap (λ (c : Carried). c.steered) h.come.carried in
    let weighs = e.weighs in
    omega (arith, kept, row, come, weighs)
bounded_by model harts order weights rows a b w r DependentStore h m e t =
    let p = and_parts (reads b.kind) (list_any (λ (m : Item). passes_on (items_of harts b.hart) order a b m.operation) (between (items_of harts b.hart) a b)) t in
    let f = found_filtered (λ (m : Item). passes_on (items_of harts b.hart) order a b m.operation) (λ (m : Item). nat_lt a.place m.place && nat_lt m.place b.place) (items_of harts b.hart) p.1 in
    passed_on f.found f.index f.there f.found.operation refl f.passes p.0
  where
    -- the store's row bounds the operations that it depends on
    dependent : (s : Operation) (x : ℕ) → IsSource order b x s → reads b.kind ≡ true → has_address_dependency (items_of harts b.hart) a s ≡ true → s.hart ≡ b.hart → weight_of weights order a ≤ r.dependent_store
    dependent s x i q d k =
        let before = (and_parts (precedes a s) _ d).0 in
        let asked : asked_by model harts order (rule_of Address) a s ≡ true = and_from _ _ before (ap (λ (n : ℕ). has_address_dependency (items_of harts n) a s) e.hart ∙ d) in
        let at_most = Each-at (λ (y : Operation). asked_by model harts order (rule_of Address) y s ≡ true → weight_of weights order y ≤ bound_of Address (slice_index_or rows (position_in order s) unbounded)) a order (h.bound.each (position_in order s) s (stands harts order b x s h.gives i.stored) Address) m asked in
        let row = h.row.dependent_store q x s i in
        omega (arith, at_most, row)

    dependent_data : (s : Operation) (x : ℕ) → IsSource order b x s → reads b.kind ≡ true → has_data_dependency (items_of harts b.hart) a s ≡ true → s.hart ≡ b.hart → weight_of weights order a ≤ r.dependent_store
    dependent_data s x i q d k =
        let before = (and_parts (precedes a s) _ d).0 in
        let asked : asked_by model harts order (rule_of Data) a s ≡ true = and_from _ _ before (ap (λ (n : ℕ). has_data_dependency (items_of harts n) a s) e.hart ∙ d) in
        let at_most = Each-at (λ (y : Operation). asked_by model harts order (rule_of Data) y s ≡ true → weight_of weights order y ≤ bound_of Data (slice_index_or rows (position_in order s) unbounded)) a order (h.bound.each (position_in order s) s (stands harts order b x s h.gives i.stored) Data) m asked in
        let row = h.row.dependent_store q x s i in
        omega (arith, at_most, row)

    passed_on : (found : Item) (k : ℕ) → slice_get (items_of harts b.hart) k ≡ Some found → (o : Option Operation) → found.operation ≡ o → passes_on (items_of harts b.hart) order a b o ≡ true → reads b.kind ≡ true → weight_of weights order a ≤ r.dependent_store
    passed_on found k there None o t q = absurd (true≢false (sym t))
    passed_on found k there (Some s) o t q =
        let p = three (writes s.kind) (has_address_dependency (items_of harts b.hart) a s || has_data_dependency (items_of harts b.hart) a s) (returns_from order b s) t in
        let place : s.place ≡ k = h.own.at_place k found s there o in
        let hart : s.hart ≡ b.hart = h.own.of_hart k found s there o in
        let i = returned model harts order weights rows b w r s found h (ap (slice_get (items_of harts b.hart)) place ∙ there) o hart p.2 in
        ⊎_elim (λ (d : has_address_dependency (items_of harts b.hart) a s ≡ true). dependent s i.0 i.1 q d hart) (λ (d : has_data_dependency (items_of harts b.hart) a s ≡ true). dependent_data s i.0 i.1 q d hart) (or_cases _ _ p.1)
bounded_by model harts order weights rows a b w r DependentAddress h m e t =
    let p = and_parts (writes b.kind) (has_dependent_address_between (items_of harts b.hart) a b) t in
    let kept = dependent_address_covered (own_weight weights order) (items_of harts b.hart) a b e.item h.placed e.there e.before p.1 in
    let row = h.row.dependent_address p.0 in
    let come = ap (λ (c : Carried). c.addressed) h.come.carried in
    let weighs = e.weighs in
    omega (arith, kept, row, come, weighs)

pub bounded : (model : MemoryModel) (harts : List (List Item)) (order : List Operation) (weights : List ℕ) (rows : List Row) (b : Operation) (w : Walk) (r : Row) → GivesEach harts order → BoundsEach model harts order weights rows → IsPlaced 0 (items_of harts b.hart) → GivesOwn b.hart (items_of harts b.hart)
    → (given : IsGiven (items_of harts b.hart) b) → HasCome model (own_weight weights order) order (items_of harts b.hart) b.place w → IsBoundsRow order weights rows b (uses_in given.item.instr) w r → Bounds model harts order weights b r
bounded model harts order weights rows b w r gives bound placed own given come row rule =
    Each-from (λ (a : Operation). asked_by model harts order (rule_of rule) a b ≡ true → weight_of weights order a ≤ bound_of rule r) order (λ a m t.
    let p = and_parts (precedes a b) ((rule_of rule).asks model (items_of harts a.hart) order a b) t in
    let there = Each-at (λ (a : Operation). IsGiven (items_of harts a.hart) a) a order gives m in
    bounded_by model harts order weights rows a b w r rule (record { gives = gives; bound = bound; placed = placed; own = own; given = given; come = come; row = row }) m (earlier_than harts order weights a b there p.0) (ap (λ (n : ℕ). (rule_of rule).asks model (items_of harts n) order a b) (sym (same_hart a b p.0)) ∙ p.1))
