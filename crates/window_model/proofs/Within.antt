-- Each set is of positions of its window: a step only adds positions of what waits, and what leaves leaves every set.
use Rattle.std.proofs.Common.{◌≡◌, ℕ, zero, suc, ◌<◌, ◌≤◌, List, [], ◌∷◌, ◌++◌, Bool, true, false, Option, Some, None, refl, cond, sym, ap, ◌∙◌, ◌&&◌, ⊎_elim, arith, length, subst, take, drop}
use Rattle.std.specs.Prelude.{nat_eq, map, slice_get, slice_set}
use Rattle.std.specs.List.{list_any, remove, range_with_len}
use Rattle.std.specs.Option.{option_map, option_to_list}
use Rattle.std.proofs.lemmas.Bool.{false≢true, and_parts, cases_lt, eqb-true}
use Rattle.std.proofs.lemmas.List.{append-nil, length-append, length-map, take-append-drop}
use Rattle.std.proofs.lemmas.Option.{none-some, same_Some, slice_get-map, slice_get_within}
use Rattle.elf_loader.specs.Image.{Initial}
use Rattle.hart.specs.declared.retired.Retired.{Retired}
use Rattle.machine_types.specs.declared.model.MemoryModel.{MemoryModel}
use Rattle.memory_model.specs.declared.operation.Operation.{Operation}
use Rattle.memory_model.specs.Dependencies.{sources, steers, uses_in}
use Rattle.memory_model.specs.Operations.{has_acquire, is_lr, is_sc, reads, writes}
use Rattle.memory_model.specs.declared.operation.Kind.TheVariants.{Load, Store, Lr}
use Rattle.memory_model.specs.Rules.{fences, is_lr_or_sc}
use Rattle.rv32_decode.specs.Rows.{decoded}
use Rattle.rv32_decode.specs.declared.instruction.Instr.{Instr}
use Rattle.rv32_exec.specs.Uses.{Uses}
use Rattle.window_model.specs.Fetching.{acquired, fetched, fetched_as, itself, must_precede, operation_of, registers_behind, reservation_behind, reserves, waiting_with, window_behind}
use Rattle.window_model.specs.Laws.{IsBehind, IsBelow, IsWithin, SetsAreWithin}
use Rattle.window_model.specs.Nodes.{Node, Reserved, lr_of, node_at_reset, own_of}
use Rattle.window_model.specs.Placing.{beside, closed_reservation, ends, kept_beside, leaving, pinned_by, placed}
use Rattle.window_model.specs.Systems.{Fetches, Leads, Places, Step, System, opening}
use Rattle.window_model.specs.Systems.Step.{Fetch, Place}
use Rattle.window_model.specs.Waiting.{Waiting, closed_up, is_store, overlaps}
use Rattle.window_model.specs.Waits.{Waits, none, of_registers, only, stood_at, those, when, without, ◌∪◌}
use Rattle.window_model.proofs.Positions.{at_longer, at_remove, length_remove, stood_before, stood_behind}
use Rattle.window_model.proofs.Waits.{either, those_are}

-- ---- how a set is made

below_none : (n : ℕ) → IsBelow n none
below_none n k e = absurd (false≢true e)

below_union : (n : ℕ) (s t : Waits) → IsBelow n s → IsBelow n t → IsBelow n (s ∪ t)
below_union n s t f g k e = either (k < n) (s k) (t k) e (f k) (g k)

below_when : (n : ℕ) (c : Bool) (s : Waits) → IsBelow n s → IsBelow n (when c s)
below_when n c s f k e = f k (and_parts c (s k) e).1

below_more : (n m : ℕ) (s : Waits) → n ≤ m → IsBelow n s → IsBelow m s
below_more n m s l f k e = let h = f k e in omega arith

below_only : (n p : ℕ) → p < n → IsBelow n (only p)
below_only n p l k e = let h = eqb-true k p e in omega (arith, h)

below_those : (test : Waiting → Bool) (window : List Waiting) → IsBelow (length window) (those test window)
below_those test window k e = let h = those_are test window k e in slice_get_within window k h.element h.stands

below_registers : (n : ℕ) (registers : ℕ → Waits) (rs : List ℕ) → ((r : ℕ) → IsBelow n (registers r)) → IsBelow n (of_registers registers rs)
below_registers n registers [] f k e = absurd (false≢true e)
below_registers n registers (r ∷ rest) f k e = either (k < n) (registers r k) (of_registers registers rest k) e (f r k) (below_registers n registers rest f k)

-- what leaves leaves a set
below_without : (n p : ℕ) (s : Waits) → p < suc n → IsBelow (suc n) s → IsBelow n (without p s)
below_without n p s l f k e =
    let h = f (stood_at p k) e in
    ⊎_elim
    (λ before. let there = stood_before p k before in omega arith)
    (λ behind. let there = stood_behind p k behind in omega (arith, h, there))
    (cases_lt k p)

-- ---- the node behind an instruction

behind_pushed : (model : MemoryModel) (n : Node) (uses : Uses) (b : Operation) → IsWithin n → IsBehind (length n.window) (waiting_with model n uses b)
behind_pushed model n uses b h = record {
  needs =
      below_union p (those (must_precede model b) n.window) _ (below_those (must_precede model b) n.window)
      (below_union p (when (is_sc b.kind) (lr_of n.reserved)) _ (below_when p (is_sc b.kind) (lr_of n.reserved) h.lr)
      (below_union p (of_registers n.registers uses.address) _ (below_registers p n.registers uses.address h.registers)
      (below_union p (of_registers n.registers uses.stored) _ (below_registers p n.registers uses.stored h.registers)
      (below_union p (when (reads b.kind) n.loads) (when (writes b.kind) n.stores) (below_when p (reads b.kind) n.loads h.loads) (below_when p (writes b.kind) n.stores h.stores)))));
  source = below_when p (is_store b.kind) (of_registers n.registers uses.address ∪ of_registers n.registers uses.stored) (below_union p (of_registers n.registers uses.address) (of_registers n.registers uses.stored) (below_registers p n.registers uses.address h.registers) (below_registers p n.registers uses.stored h.registers));
  pair = below_when p (is_sc b.kind) (lr_of n.reserved) h.lr;
  own = below_when p (is_sc b.kind) (own_of n.reserved) h.own;
}
  where
    p : ℕ
    p = length n.window

length_more : {X : Type 0} (xs ys : List X) → length xs ≤ length (xs ++ ys)
length_more xs ys = let e = length-append xs ys in omega arith

length_one : {X : Type 0} (xs : List X) (x : X) → length xs < length (xs ++ x ∷ [])
length_one xs x = let e = length-append xs (x ∷ []) in omega arith

abbrev waits_in : MemoryModel → Node → Option Instr → Option Operation → List Waiting
waits_in model n i o = option_to_list (option_map (waiting_with model n (uses_in i)) o)

below_itself : (model : MemoryModel) (n : Node) (i : Option Instr) (o : Option Operation) → IsBelow (length (window_behind model n i o)) (itself (length n.window) o)
below_itself model n i None = below_none (length (window_behind model n i None))
below_itself model n i (Some b) = below_only (length (window_behind model n i (Some b))) (length n.window) (length_one n.window (waiting_with model n (uses_in i) b))

below_acquired : (model : MemoryModel) (n : Node) (i : Option Instr) (o : Option Operation) → IsBelow (length (window_behind model n i o)) (acquired model (length n.window) o)
below_acquired model n i None = below_none (length (window_behind model n i None))
below_acquired model n i (Some b) = below_when (length (window_behind model n i (Some b))) (has_acquire model b) (only (length n.window)) (below_itself model n i (Some b))

fetched_window : (model : MemoryModel) (n : Node) (i : Option Instr) (o : Option Operation) → IsWithin n → (k : ℕ) (w : Waiting) → slice_get (window_behind model n i o) k ≡ Some w → IsBehind k w
fetched_window model n i None h k w e = h.window k w (sym (ap (λ ws. slice_get ws k) (append-nil n.window)) ∙ e)
fetched_window model n i (Some b) h k w e =
    at_longer (IsBehind k) n.window (waiting_with model n (uses_in i) b) k w e (h.window k w) (λ f. subst (λ j. IsBehind j (waiting_with model n (uses_in i) b)) (sym f) (behind_pushed model n (uses_in i) b h))

fetched_lr : (model : MemoryModel) (n : Node) (i : Option Instr) (o : Option Operation) → IsWithin n → IsBelow (length (window_behind model n i o)) (lr_of (reservation_behind n i o))
fetched_lr model n i o h = go (is_lr_or_sc i)
  where
    q : ℕ
    q = length (window_behind model n i o)

    made : (o' : Option Operation) → IsBelow q (itself (length n.window) o') → IsBelow q (lr_of (reserves n.window o'))
    made None f = below_none q
    made (Some b) f = first (is_lr b.kind)
      where
        first : (c : Bool) → IsBelow q (lr_of (cond c (reserves n.window (Some (record b { kind = Lr }))) None))
        first true = f
        first false = below_none q

    go : (c : Bool) → IsBelow q (lr_of (cond c (reserves n.window o) n.reserved))
    go true = made o (below_itself model n i o)
    go false = below_more (length n.window) q (lr_of n.reserved) (length_more n.window (waits_in model n i o)) h.lr

fetched_own : (model : MemoryModel) (n : Node) (i : Option Instr) (o : Option Operation) → IsWithin n → IsBelow (length (window_behind model n i o)) (own_of (reservation_behind n i o))
fetched_own model n i o h = go (is_lr_or_sc i)
  where
    q : ℕ
    q = length (window_behind model n i o)

    made : (o' : Option Operation) → IsBelow q (own_of (reserves n.window o'))
    made None = below_none q
    made (Some b) = first (is_lr b.kind)
      where
        first : (c : Bool) → IsBelow q (own_of (cond c (reserves n.window (Some (record b { kind = Lr }))) None))
        first true = below_more (length n.window) q (those (λ (w : Waiting). writes w.kind && overlaps b.address b.size w) n.window) (length_more n.window (waits_in model n i o)) (below_those (λ (w : Waiting). writes w.kind && overlaps b.address b.size w) n.window)
        first false = below_none q

    go : (c : Bool) → IsBelow q (own_of (cond c (reserves n.window o) n.reserved))
    go true = made o
    go false = below_more (length n.window) q (own_of n.reserved) (length_more n.window (waits_in model n i o)) h.own

fetched_registers : (model : MemoryModel) (n : Node) (i : Option Instr) (o : Option Operation) → IsWithin n → (r : ℕ) → IsBelow (length (window_behind model n i o)) (registers_behind n i o r)
fetched_registers model n i o h r = go (list_any (nat_eq r) (uses_in i).written)
  where
    q : ℕ
    q = length (window_behind model n i o)

    wider : length n.window ≤ q
    wider = length_more n.window (waits_in model n i o)

    go : (c : Bool) → IsBelow q (cond c (of_registers n.registers (sources (uses_in i)) ∪ itself (length n.window) o) (n.registers r))
    go true = below_union q (of_registers n.registers (sources (uses_in i))) (itself (length n.window) o) (below_registers q n.registers (sources (uses_in i)) (λ s. below_more (length n.window) q (n.registers s) wider (h.registers s))) (below_itself model n i o)
    go false = below_more (length n.window) q (n.registers r) wider (h.registers r)

pub fetched_within : (model : MemoryModel) (n : Node) (entry : Retired) (i : Option Instr) (o : Option Operation) → IsWithin n → IsWithin (fetched_as model n entry i o)
fetched_within model n entry i o h = record {
  registers = fetched_registers model n i o h;
  loads = below_union q n.loads _ (below_more p q n.loads wider h.loads) (below_union q (those (λ (w : Waiting). fences i w.kind Load) n.window) (acquired model p o) (below_more p q (those (λ (w : Waiting). fences i w.kind Load) n.window) wider (below_those (λ (w : Waiting). fences i w.kind Load) n.window)) (below_acquired model n i o));
  stores =
      below_union q n.stores _ (below_more p q n.stores wider h.stores)
      (below_union q (those (λ (w : Waiting). fences i w.kind Store) n.window) _ (below_more p q (those (λ (w : Waiting). fences i w.kind Store) n.window) wider (below_those (λ (w : Waiting). fences i w.kind Store) n.window))
      (below_union q (acquired model p o) _ (below_acquired model n i o)
      (below_union q (when (steers i) (of_registers n.registers (sources (uses_in i)))) (of_registers n.registers (uses_in i).address) (below_when q (steers i) (of_registers n.registers (sources (uses_in i))) (below_registers q n.registers (sources (uses_in i)) old)) (below_registers q n.registers (uses_in i).address old))));
  lr = fetched_lr model n i o h;
  own = fetched_own model n i o h;
  window = fetched_window model n i o h;
}
  where
    p : ℕ
    p = length n.window

    q : ℕ
    q = length (window_behind model n i o)

    wider : p ≤ q
    wider = length_more n.window (waits_in model n i o)

    old : (r : ℕ) → IsBelow q (n.registers r)
    old r = below_more p q (n.registers r) wider (h.registers r)

-- ---- the node behind an operation that leaves

lr_closed : (k : ℕ) (r : Option Reserved) → lr_of (option_map (closed_reservation k) r) ≡ without k (lr_of r)
lr_closed k None = refl
lr_closed k (Some r) = refl

own_closed : (k : ℕ) (r : Option Reserved) → own_of (option_map (closed_reservation k) r) ≡ without k (own_of r)
own_closed k None = refl
own_closed k (Some r) = refl

-- an operation that stays, at j now
behind_closed : (k j : ℕ) (w : Waiting) → IsBehind (stood_at k j) w → IsBehind j (closed_up k w)
behind_closed k j w h = record { needs = closed w.needs h.needs; source = closed w.source h.source; pair = closed w.pair h.pair; own = closed w.own h.own }
  where
    closed : (s : Waits) → IsBelow (stood_at k j) s → IsBelow j (without k s)
    closed s f m e =
        let l = f (stood_at k m) e in
        ⊎_elim
        (λ before. ⊎_elim
        (λ first. let a = stood_before k j before in let b = stood_before k m first in omega (arith, l, a, b))
        (λ last. let a = stood_before k j before in let b = stood_behind k m last in omega (arith, l, a, b, last, before))
        (cases_lt m k))
        (λ behind. ⊎_elim
        (λ first. omega (arith, first, behind))
        (λ last. let a = stood_behind k j behind in let b = stood_behind k m last in omega (arith, l, a, b))
        (cases_lt m k))
        (cases_lt j k)

pub leaving_within : (k : ℕ) (n : Node) → k < length n.window → IsWithin n → IsWithin (leaving k n)
leaving_within k n l h = record {
  registers = λ r. closed (n.registers r) (h.registers r);
  loads = closed n.loads h.loads;
  stores = closed n.stores h.stores;
  lr = subst (IsBelow q) (sym (lr_closed k n.reserved)) (closed (lr_of n.reserved) h.lr);
  own = subst (IsBelow q) (sym (own_closed k n.reserved)) (closed (own_of n.reserved) h.own);
  window = stays;
}
  where
    q : ℕ
    q = length (map (closed_up k) (remove n.window k))

    one_less : suc q ≡ length n.window
    one_less = ap (λ m. suc m) (length-map (remove n.window k) (closed_up k)) ∙ length_remove n.window k l

    closed : (s : Waits) → IsBelow (length n.window) s → IsBelow q (without k s)
    closed s f = below_without q k s (omega (arith, one_less, l)) (subst (λ m. IsBelow m s) (sym one_less) f)

    stood : (j : ℕ) (w : Waiting) (o : Option Waiting) → slice_get n.window (stood_at k j) ≡ o → option_map (closed_up k) o ≡ Some w → IsBehind j w
    stood j w None f e = absurd (none-some w e)
    stood j w (Some v) f e = subst (IsBehind j) (same_Some (closed_up k v) w e) (behind_closed k j v (h.window (stood_at k j) v f))

    stays : (j : ℕ) (w : Waiting) → slice_get (map (closed_up k) (remove n.window k)) j ≡ Some w → IsBehind j w
    stays j w e = stood j w (slice_get (remove n.window k) j) (sym (at_remove n.window k j)) (sym (slice_get-map (closed_up k) (remove n.window k) j) ∙ e)

-- pins change no set
record Pinned (w : Waiting) (ws : List Waiting) (k : ℕ) (e : Waiting) : Type 0 where
  was : Waiting
  stood : slice_get ws k ≡ Some was
  keeps : (j : ℕ) → IsBehind j was → IsBehind j e

pinned_at : (w : Waiting) (before after : List Waiting) (k : ℕ) (e : Waiting) → slice_get (pinned_by w before ++ after) k ≡ Some e → Pinned w (before ++ after) k e
pinned_at w [] after k e f = record { was = e; stood = f; keeps = λ j h. h }
pinned_at w (x ∷ before) after zero e f = record {
  was = x;
  stood = refl;
  keeps = λ j h. subst (IsBehind j) (same_Some _ e f) (record { needs = h.needs; source = h.source; pair = h.pair; own = h.own });
}
pinned_at w (x ∷ before) after (suc k) e f = let p = pinned_at w before after k e f in record { was = p.was; stood = p.stood; keeps = p.keeps }

pub pinned_length : (w : Waiting) (before after : List Waiting) → length (pinned_by w before ++ after) ≡ length (before ++ after)
pinned_length w [] after = refl
pinned_length w (x ∷ before) after = ap (λ m. suc m) (pinned_length w before after)

pinned_within : (w : Waiting) (k : ℕ) (n : Node) → IsWithin n → IsWithin (record n { window = pinned_by w (take k n.window) ++ drop k n.window })
pinned_within w k n h = record {
  registers = λ r. subst (λ m. IsBelow m (n.registers r)) as_long (h.registers r);
  loads = subst (λ m. IsBelow m n.loads) as_long h.loads;
  stores = subst (λ m. IsBelow m n.stores) as_long h.stores;
  lr = subst (λ m. IsBelow m (lr_of n.reserved)) as_long h.lr;
  own = subst (λ m. IsBelow m (own_of n.reserved)) as_long h.own;
  window = λ j e f. let p = pinned_at w (take k n.window) (drop k n.window) j e f in p.keeps j (h.window j p.was (sym (ap (λ ws. slice_get ws j) (take-append-drop k n.window)) ∙ p.stood));
}
  where
    as_long : length n.window ≡ length (pinned_by w (take k n.window) ++ drop k n.window)
    as_long = ap length (sym (take-append-drop k n.window)) ∙ sym (pinned_length w (take k n.window) (drop k n.window))

pub placed_within : (n : Node) (k : ℕ) (w : Waiting) → slice_get n.window k ≡ Some w → IsWithin n → IsWithin (placed n k w)
placed_within n k w e h =
    leaving_within k (record n { window = pinned_by w (take k n.window) ++ drop k n.window })
    (let l = slice_get_within n.window k w e in let m = ap length (sym (take-append-drop k n.window)) ∙ sym (pinned_length w (take k n.window) (drop k n.window)) in omega (arith, l, m))
    (pinned_within w k n h)

-- another hart's store changes no set, but may end the reservation
pub beside_within : (w : Waiting) (n : Node) → IsWithin n → IsWithin (beside w n)
beside_within w n h = record {
  registers = h.registers;
  loads = h.loads;
  stores = h.stores;
  lr = lr n.reserved h.lr;
  own = own n.reserved h.own;
  window = h.window;
}
  where
    lr : (r : Option Reserved) → IsBelow (length n.window) (lr_of r) → IsBelow (length n.window) (lr_of (kept_beside w n.window r))
    lr None f = f
    lr (Some r) f = go (ends w n.window r)
      where
        go : (c : Bool) → IsBelow (length n.window) (lr_of (cond c None (Some r)))
        go true = below_none (length n.window)
        go false = f

    own : (r : Option Reserved) → IsBelow (length n.window) (own_of r) → IsBelow (length n.window) (own_of (kept_beside w n.window r))
    own None f = f
    own (Some r) f = go (ends w n.window r)
      where
        go : (c : Bool) → IsBelow (length n.window) (own_of (cond c None (Some r)))
        go true = below_none (length n.window)
        go false = f

-- ---- paths

abbrev pub AllWithin : System → Type 0
AllWithin s = (h : ℕ) (n : Node) → slice_get s.nodes h ≡ Some n → IsWithin n

-- what is at a position once one element is set
pub at_set : (nodes : List Node) (h g : ℕ) (m n : Node) → slice_get (slice_set nodes h m) g ≡ Some n → IsWithin m → (slice_get nodes g ≡ Some n → IsWithin n) → IsWithin n
at_set [] h g m n e new old = absurd (none-some n e)
at_set (x ∷ nodes) zero zero m n e new old = subst IsWithin (same_Some m n e) new
at_set (x ∷ nodes) zero (suc g) m n e new old = old e
at_set (x ∷ nodes) (suc h) zero m n e new old = old e
at_set (x ∷ nodes) (suc h) (suc g) m n e new old = at_set nodes h g m n e new old

beside_at : (w : Waiting) (nodes : List Node) (g : ℕ) (n : Node) → ((m : Node) → slice_get nodes g ≡ Some m → IsWithin m) → slice_get (map (beside w) nodes) g ≡ Some n → IsWithin n
beside_at w nodes g n f e = go (slice_get nodes g) refl (sym (slice_get-map (beside w) nodes g) ∙ e)
  where
    go : (o : Option Node) → slice_get nodes g ≡ o → option_map (beside w) o ≡ Some n → IsWithin n
    go None k h = absurd (none-some n h)
    go (Some m) k h = subst IsWithin (same_Some (beside w m) n h) (beside_within w m (f m k))

pub fetches_within : (model : MemoryModel) (image : Initial) (h : ℕ) (entry : Retired) (s t : System) → Fetches model image h entry s t → AllWithin s → AllWithin t
fetches_within model image h entry s t f all g n e =
    at_set s.nodes h g (fetched model f.node entry) n (sym (ap (λ (u : System). slice_get u.nodes g) f.new) ∙ e)
    (fetched_within model f.node entry (decoded entry.word) (operation_of f.node.hart entry) (all h f.node f.stands))
    (all g n)

pub places_within : (h k : ℕ) (s t : System) → Places h k s t → AllWithin s → AllWithin t
places_within h k s t f all g n e =
    at_set (map (beside f.operation) s.nodes) h g (placed f.node k f.operation) n (sym (ap (λ (u : System). slice_get u.nodes g) f.new) ∙ e)
    (placed_within f.node k f.operation f.can.waits (all h f.node f.stands))
    (beside_at f.operation s.nodes g n (all g))

path_within : (model : MemoryModel) (image : Initial) (steps : List Step) (s t : System) → Leads model image steps s t → AllWithin s → AllWithin t
path_within model image [] s t l all = subst AllWithin l all
path_within model image (Fetch h entry ∷ rest) s t l all = path_within model image rest l.0 t l.2 (fetches_within model image h entry s l.0 l.1 all)
path_within model image (Place h k ∷ rest) s t l all = path_within model image rest l.0 t l.2 (places_within h k s l.0 l.1 all)

reset_within : (image : Initial) (harts id : ℕ) → IsWithin (node_at_reset image harts id)
reset_within image harts id = record {
  registers = λ r. below_none 0;
  loads = below_none 0;
  stores = below_none 0;
  lr = below_none 0;
  own = below_none 0;
  window = λ k w e. absurd (none-some w e);
}

pub opening_within : (image : Initial) (harts : ℕ) → AllWithin (opening image harts)
opening_within image harts h n e = go (slice_get (range_with_len 0 harts) h) (sym (slice_get-map (node_at_reset image harts) (range_with_len 0 harts) h) ∙ e)
  where
    go : (o : Option ℕ) → option_map (node_at_reset image harts) o ≡ Some n → IsWithin n
    go None f = absurd (none-some n f)
    go (Some id) f = subst IsWithin (same_Some (node_at_reset image harts id) n f) (reset_within image harts id)

pub sets_are_within : SetsAreWithin
sets_are_within model image harts steps s h n l e = path_within model image steps (opening image harts) s l (opening_within image harts) h n e
