-- A row that is filled in bounds its operation, and the others stay; a walk that goes past an instruction has come one further.
use Rattle.std.proofs.Common.{◌≡◌, ℕ, zero, suc, ◌+◌, ◌<◌, ◌≤◌, List, [], ◌∷◌, ◌++◌, true, Some, sym, subst, ap, ◌∙◌, ⊎_elim, arith, length, set, take}
use Rattle.std.specs.Prelude.{slice_get, slice_index_or}
use Rattle.std.proofs.lemmas.Bool.{cases_eq, cases_lt}
use Rattle.std.proofs.lemmas.Grind.{get_or-set_at}
use Rattle.std.proofs.lemmas.List.{get_or-set_other, get_or_past, length-set}
use Rattle.std.proofs.lemmas.List.Folds.{find_at}
use Rattle.std.proofs.lemmas.Option.{none-some, same_Some}
use Rattle.machine_types.specs.declared.model.MemoryModel.{MemoryModel}
use Rattle.memory_model.specs.declared.operation.Operation.{Operation}
use Rattle.memory_model.specs.Dependencies.{uses_in}
use Rattle.memory_model.specs.Items.{Item}
use Rattle.memory_model.specs.Operations.{is_lr, same}
use Rattle.memory_model.specs.Order.{position_in}
use Rattle.memory_model.specs.Rules.{is_lr_or_sc, items_of}
use Rattle.rvwmo_order.specs.Bounds.{Bounds, BoundsEach, GivesEach, HasCome, IsGiven, IsBoundsRow, own_weight, unbounded}
use Rattle.rvwmo_order.specs.Carried.{carried_after, carried_behind, nothing_carried}
use Rattle.rvwmo_order.specs.Passed.{none_passed, passed_after, passed_behind}
use Rattle.trace_operations.specs.Placed.{GivesOwn, IsPlaced}
use Rattle.rvwmo_order.specs.Touched.{touch_after, touch_behind, touch_in, untouched}
use Rattle.rvwmo_order.specs.declared.bounds.carried.Carried.{Carried}
use Rattle.rvwmo_order.specs.declared.bounds.passed.Passed.{Passed}
use Rattle.rvwmo_order.specs.declared.bounds.rows.Row.{Row}
use Rattle.rvwmo_order.specs.declared.bounds.touched.Touch.{Touch}
use Rattle.rvwmo_order.specs.declared.bounds.walking.Walk.{Walk}
use Rattle.rvwmo_order.proofs.Bounded.{at_place, bounded, one_given}
use Rattle.rvwmo_order.proofs.Covered.{carried_append}
use Rattle.rvwmo_order.proofs.Noted.{passed_append}
use Rattle.rvwmo_order.proofs.Parted.{one_more}
use Rattle.rvwmo_order.proofs.Touches.{touch_append}

pub come_further : (model : MemoryModel) (own : Item → ℕ) (order : List Operation) (items : List Item) (place n : ℕ) (m : Item) (old new : Walk) → HasCome model own order items place old → slice_get items place ≡ Some m → own m ≡ n
    → new.model ≡ old.model → new.carried ≡ carried_after n m.instr old.carried → new.passed ≡ passed_after old.model n m old.passed → ((x : ℕ) → touch_in new.touches x ≡ touch_after order x n m (touch_in old.touches x))
    → HasCome model own order items (place + 1) new
come_further model own order items place n m old new h e weighs f g k t =
    let more : take (place + 1) items ≡ take place items ++ (m ∷ []) = one_more items place m e in
    record {
      model_is = f ∙ h.model_is;
      carried = g ∙ (ap (λ (c : Carried). carried_after n m.instr c) h.carried ∙ (ap (λ (w : ℕ). carried_after w m.instr (carried_behind own nothing_carried (take place items))) (sym weighs) ∙ sym (ap (carried_behind own nothing_carried) more ∙ carried_append own nothing_carried (take place items) (m ∷ []))));
      passed = k ∙ (ap (λ (x : MemoryModel). passed_after x n m old.passed) h.model_is ∙ (ap (λ (s : Passed). passed_after model n m s) h.passed ∙ (ap (λ (w : ℕ). passed_after model w m (passed_behind model own none_passed (take place items))) (sym weighs) ∙ sym (ap (passed_behind model own none_passed) more ∙ passed_append model own none_passed (take place items) (m ∷ [])))));
      touched = λ x. t x ∙ (ap (λ (s : Touch). touch_after order x n m s) (h.touched x) ∙ (ap (λ (w : ℕ). touch_after order x w m (touch_behind order x own untouched (take place items))) (sym weighs) ∙ sym (ap (touch_behind order x own untouched) more ∙ touch_append order x own untouched (take place items) (m ∷ []))));
    }

-- the operation where a name is found is the one that an instruction gives
found_one : (harts : List (List Item)) (order : List Operation) (b c : Operation) (m : Item) (p : ℕ) → GivesEach harts order → slice_get (items_of harts b.hart) b.place ≡ Some m → m.operation ≡ Some b → p ≡ position_in order b → slice_get order p ≡ Some c → (c ≡ b) × IsGiven (items_of harts b.hart) b
found_one harts order b c m p g e o k f =
    let at = at_place harts order b c g (find_at (same b) order ∙ (ap (slice_get order) (sym k) ∙ f)) in
    let it : c ≡ b = one_given harts c b m at.1 e o at.0 in
    (it, subst (λ (y : Operation). IsGiven (items_of harts y.hart) y) it at.1)

filled_at : (model : MemoryModel) (harts : List (List Item)) (order : List Operation) (weights : List ℕ) (rows : List Row) (b : Operation) (w : Walk) (r : Row) (m : Item) (position : ℕ) → GivesEach harts order → BoundsEach model harts order weights rows → IsPlaced 0 (items_of harts b.hart) → GivesOwn b.hart (items_of harts b.hart)
    → slice_get (items_of harts b.hart) b.place ≡ Some m → m.operation ≡ Some b → HasCome model (own_weight weights order) order (items_of harts b.hart) b.place w → IsBoundsRow order weights rows b (uses_in m.instr) w r → position ≡ position_in order b → (p : ℕ) (c : Operation) → slice_get order p ≡ Some c → Bounds model harts order weights c (slice_index_or (set rows position r) p unbounded)
filled_at model harts order weights rows b w r m position gives bound placed own there of_item come row is_at p c e = ⊎_elim here other (cases_eq p position)
  where
    inside : p ≡ position → p < length rows → Bounds model harts order weights c (slice_index_or (set rows position r) p unbounded)
    inside k l =
        let f = found_one harts order b c m p gives there of_item (k ∙ is_at) e in
        let one : f.1.item ≡ m = same_Some f.1.item m (sym f.1.there ∙ there) in
        let of_lr = λ (is : is_lr b.kind ≡ true). ap (λ (i : Item). is_lr_or_sc i.instr) (sym one) ∙ f.1.of_lr is in
        let given : IsGiven (items_of harts b.hart) b = record { item = m; there = there; gives = of_item; has_bytes = f.1.has_bytes; small = f.1.small; of_lr = of_lr } in
        let written : slice_index_or (set rows position r) p unbounded ≡ r = get_or-set_at rows position p r unbounded k (omega (arith, k, l)) in
        subst (λ (y : Row). Bounds model harts order weights c y) (sym written)
        (subst (λ (y : Operation). Bounds model harts order weights y r) (sym f.0) (bounded model harts order weights rows b w r gives bound placed own given come row))

    past : length rows ≤ p → Bounds model harts order weights c (slice_index_or (set rows position r) p unbounded)
    past l =
        let long = length-set rows position r in
        subst (λ (y : Row). Bounds model harts order weights c y) (get_or_past rows p unbounded l ∙ sym (get_or_past (set rows position r) p unbounded (omega (arith, long, l)))) (bound.each p c e)

    here : p ≡ position → Bounds model harts order weights c (slice_index_or (set rows position r) p unbounded)
    here k = ⊎_elim (λ l. inside k l) (λ l. past l) (cases_lt p (length rows))

    other : (p ≡ position → ⊥) → Bounds model harts order weights c (slice_index_or (set rows position r) p unbounded)
    other k = subst (λ (y : Row). Bounds model harts order weights c y) (sym (get_or-set_other rows position p r unbounded k)) (bound.each p c e)

pub filled : (model : MemoryModel) (harts : List (List Item)) (order : List Operation) (weights : List ℕ) (rows : List Row) (b : Operation) (w : Walk) (r : Row) (m : Item) (position : ℕ) → GivesEach harts order → BoundsEach model harts order weights rows → IsPlaced 0 (items_of harts b.hart) → GivesOwn b.hart (items_of harts b.hart)
    → slice_get (items_of harts b.hart) b.place ≡ Some m → m.operation ≡ Some b → HasCome model (own_weight weights order) order (items_of harts b.hart) b.place w → IsBoundsRow order weights rows b (uses_in m.instr) w r → position ≡ position_in order b → BoundsEach model harts order weights (set rows position r)
filled model harts order weights rows b w r m position gives bound placed own there of_item come row is_at =
    record { each = filled_at model harts order weights rows b w r m position gives bound placed own there of_item come row is_at }

placed_at : (n : ℕ) (items : List Item) (k : ℕ) (m : Item) → IsPlaced n items → slice_get items k ≡ Some m → m.place ≡ n + k
placed_at n [] k m h e = absurd (none-some m e)
placed_at n (x ∷ rest) zero m h e = let same = ap (λ (i : Item). i.place) (same_Some x m e) in let place = h.0 in omega (arith, same, place)
placed_at n (x ∷ rest) (suc k) m h e = let ih = placed_at (n + 1) rest k m h.1 e in omega (arith, ih)

-- of the item at an index
pub placed_there : (items : List Item) (k : ℕ) (m : Item) → IsPlaced 0 items → slice_get items k ≡ Some m → m.place ≡ k
placed_there items k m h e = placed_at 0 items k m h e ∙ omega arith

-- by the item and its hart
pub filled_by : (model : MemoryModel) (harts : List (List Item)) (order : List Operation) (weights : List ℕ) (rows : List Row) (hart : ℕ) (b : Operation) (w : Walk) (r : Row) (m : Item) (position : ℕ) → GivesEach harts order → BoundsEach model harts order weights rows → IsPlaced 0 (items_of harts hart) → GivesOwn hart (items_of harts hart)
    → slice_get (items_of harts hart) m.place ≡ Some m → m.operation ≡ Some b → HasCome model (own_weight weights order) order (items_of harts hart) m.place w → IsBoundsRow order weights rows b (uses_in m.instr) w r → position ≡ position_in order b → BoundsEach model harts order weights (set rows position r)
filled_by model harts order weights rows hart b w r m position gives bound placed own there of_item come row is_at =
    let is_hart : b.hart ≡ hart = own.of_hart m.place m b there of_item in
    let is_place : b.place ≡ m.place = own.at_place m.place m b there of_item in
    let list : items_of harts hart ≡ items_of harts b.hart = ap (items_of harts) (sym is_hart) in
    filled model harts order weights rows b w r m position gives bound (subst (λ (is : List Item). IsPlaced 0 is) list placed) (subst (λ (n : ℕ). GivesOwn n (items_of harts n)) (sym is_hart) own)
    (ap (λ (is : List Item). slice_get is b.place) (sym list) ∙ (ap (slice_get (items_of harts hart)) is_place ∙ there)) of_item
    (subst (λ (k : ℕ). HasCome model (own_weight weights order) order (items_of harts b.hart) k w) (sym is_place) (subst (λ (is : List Item). HasCome model (own_weight weights order) order is m.place w) list come)) row is_at

pub filled_put : (model : MemoryModel) (harts : List (List Item)) (order : List Operation) (weights : List ℕ) (rows put : List Row) (hart : ℕ) (b : Operation) (w : Walk) (r : Row) (m : Item) (position : ℕ) → GivesEach harts order → BoundsEach model harts order weights rows → IsPlaced 0 (items_of harts hart) → GivesOwn hart (items_of harts hart)
    → slice_get (items_of harts hart) m.place ≡ Some m → m.operation ≡ Some b → HasCome model (own_weight weights order) order (items_of harts hart) m.place w → IsBoundsRow order weights rows b (uses_in m.instr) w r → position ≡ position_in order b → put ≡ set rows position r → BoundsEach model harts order weights put
filled_put model harts order weights rows put hart b w r m position gives bound placed own there of_item come row is_at is_put =
    subst (λ (xs : List Row). BoundsEach model harts order weights xs) (sym is_put) (filled_by model harts order weights rows hart b w r m position gives bound placed own there of_item come row is_at)

-- ---- an item of a list

pub come_there : (model walked : MemoryModel) (own : Item → ℕ) (order : List Operation) (items : List Item) (k : ℕ) (m : Item) (w : Walk) → IsPlaced 0 items → slice_get items k ≡ Some m → walked ≡ model → HasCome model own order items k w → HasCome walked own order items m.place w
come_there model walked own order items k m w placed e is_model come =
    subst (λ (n : ℕ). HasCome walked own order items n w) (sym (placed_there items k m placed e)) (subst (λ (x : MemoryModel). HasCome x own order items k w) (sym is_model) come)

pub bound_as : (model walked : MemoryModel) (harts : List (List Item)) (order : List Operation) (weights : List ℕ) (rows : List Row) → walked ≡ model → BoundsEach model harts order weights rows → BoundsEach walked harts order weights rows
bound_as model walked harts order weights rows e h = subst (λ (x : MemoryModel). BoundsEach x harts order weights rows) (sym e) h
