-- Placing comes before fetching: what waits at a hart before it fetches an instruction may as well be placed first, and the node is the same.
use Rattle.std.proofs.Common.{◌≡◌, ℕ, zero, suc, ◌+◌, ◌<◌, ◌≤◌, List, [], ◌∷◌, ◌++◌, Bool, true, false, Option, Some, None, refl, cond, sym, ap, ◌∙◌, not, ◌&&◌, ◌||◌, ⊎_elim, arith, length, subst, take, drop}
use Rattle.std.specs.Prelude.{nat_eq, map, slice_get}
use Rattle.std.specs.List.{list_any, remove}
use Rattle.std.specs.Option.{option_map, option_map_or, option_to_list}
use Rattle.std.proofs.Math.Path.{fun_ext}
use Rattle.std.proofs.lemmas.Bool.{false≢true, and_from, and_parts, cases_lt, eq-eqb, eqb-false, eqb-true, ne_eqb, not-true}
use Rattle.std.proofs.lemmas.List.{append_assoc, drop-append-le, length-append, length-map, map-append, take-append-drop, take-append-le}
use Rattle.std.proofs.lemmas.Option.{slice_get-map}
use Rattle.hart.specs.declared.retired.Retired.{Retired}
use Rattle.machine_types.specs.declared.model.MemoryModel.{MemoryModel}
use Rattle.memory_model.specs.declared.operation.Kind.{Kind}
use Rattle.memory_model.specs.declared.operation.Kind.TheVariants.{Load, Store}
use Rattle.memory_model.specs.declared.operation.Operation.{Operation}
use Rattle.memory_model.specs.Dependencies.{sources, steers, uses_in}
use Rattle.memory_model.specs.Operations.{has_acquire, is_lr, is_sc, reads, writes}
use Rattle.memory_model.specs.Rules.{fences, is_lr_or_sc}
use Rattle.rv32_decode.specs.Rows.{decoded}
use Rattle.rv32_decode.specs.declared.instruction.Instr.{Instr}
use Rattle.rv32_exec.specs.Uses.{Uses}
use Rattle.window_model.specs.Fetching.{acquired, fetched_as, itself, loads_behind, must_precede, needs_of, operation_of, registers_behind, reservation_behind, reserves, stores_behind, waiting_with, window_behind}
use Rattle.window_model.specs.Laws.{PlacingComesFirst}
use Rattle.window_model.specs.Nodes.{Node, Reserved, address_of, lr_of, own_of}
use Rattle.window_model.specs.Placing.{AgreeWith, byte_seen, can_forward, closed_reservation, pinned_by, placed, reads_with}
use Rattle.window_model.specs.Reserving.{may_do}
use Rattle.window_model.specs.Waiting.{Waiting, closed_up, is_store, last_store, overlaps}
use Rattle.window_model.specs.Waits.{Waits, has_any, of_registers, only, stood_at, those, without, ◌∪◌}
use Rattle.window_model.proofs.Positions.{at_remove, length_remove, stood_before, stood_behind}
use Rattle.window_model.proofs.Waits.{has_any_at, has_any_none}
use Rattle.window_model.proofs.Within.{pinned_length}

-- ---- tests that no set and no pin matters to

pub record Plain (test : Waiting → Bool) : Type 0 where
  pub closed : (k : ℕ) (e : Waiting) → test (closed_up k e) ≡ test e
  pub pinned : (w : Waiting) (between : List Waiting) (e : Waiting) → test (record e { pinned = λ x. e.pinned x || reads_with w between e x }) ≡ test e

test_at : (test : Waiting → Bool) → Plain test → (k : ℕ) (o : Option Waiting) → option_map_or test (option_map (closed_up k) o) false ≡ option_map_or test o false
test_at test p k None = refl
test_at test p k (Some e) = p.closed k e

those_pinned : (test : Waiting → Bool) → Plain test → (w : Waiting) (before after : List Waiting) (j : ℕ) → those test (pinned_by w before ++ after) j ≡ those test (before ++ after) j
those_pinned test p w [] after j = refl
those_pinned test p w (e ∷ before) after zero = p.pinned w before e
those_pinned test p w (e ∷ before) after (suc j) = those_pinned test p w before after j

-- the same pass it behind a placement, where they stand then
those_placed : (test : Waiting → Bool) → Plain test → (n : Node) (k : ℕ) (w : Waiting) (j : ℕ) → those test n.window (stood_at k j) ≡ those test (placed n k w).window j
those_placed test p n k w j =
    ap (λ ws. those test ws (stood_at k j)) (sym (take-append-drop k n.window))
    ∙ sym (those_pinned test p w (take k n.window) (drop k n.window) (stood_at k j))
    ∙ sym (ap (λ o. option_map_or test o false) (at_remove pinned k j))
    ∙ sym (test_at test p k (slice_get (remove pinned k) j))
    ∙ sym (ap (λ o. option_map_or test o false) (slice_get-map (closed_up k) (remove pinned k) j))
  where
    pinned : List Waiting
    pinned = pinned_by w (take k n.window) ++ drop k n.window

must_plain : (model : MemoryModel) (b : Operation) → Plain (must_precede model b)
must_plain model b = record { closed = λ k e. refl; pinned = λ w between e. refl }

fence_plain : (test : Kind → Bool) → Plain (λ (w : Waiting). test w.kind)
fence_plain test = record { closed = λ k e. refl; pinned = λ w between e. refl }

own_plain : (address size : ℕ) → Plain (λ (w : Waiting). writes w.kind && overlaps address size w)
own_plain address size = record { closed = λ k e. refl; pinned = λ w between e. refl }

-- ---- one fewer wait

one_fewer : (n : Node) (k : ℕ) (w : Waiting) → k < length n.window → suc (length (placed n k w).window) ≡ length n.window
one_fewer n k w l =
    let whole = pinned_length w (take k n.window) (drop k n.window) ∙ ap length (take-append-drop k n.window) in
    let fewer = length_remove (pinned_by w (take k n.window) ++ drop k n.window) k (omega (arith, l, whole)) in
    ap (λ m. suc m) (length-map (remove (pinned_by w (take k n.window) ++ drop k n.window) k) (closed_up k)) ∙ fewer ∙ whole

-- the end of the window moves with it
only_moved : (k q j : ℕ) → k ≤ q → only (suc q) (stood_at k j) ≡ only q j
only_moved k q j l =
    ⊎_elim
    (λ a. ap (only (suc q)) (stood_before k j a) ∙ ne_eqb j (suc q) (λ e. absurd (omega (arith, e, a, l))) ∙ sym (ne_eqb j q (λ e. absurd (omega (arith, e, a, l)))))
    (λ a. ap (only (suc q)) (stood_behind k j a) ∙ go (nat_eq j q) refl)
    (cases_lt j k)
  where
    go : (b : Bool) → nat_eq j q ≡ b → nat_eq (j + 1) (suc q) ≡ b
    go true e = let f = eqb-true j q e in eq-eqb (j + 1) (suc q) (omega (arith, f))
    go false e = ne_eqb (j + 1) (suc q) (λ f. eqb-false j q e (omega (arith, f)))

itself_moved : (n : Node) (k : ℕ) (w : Waiting) (o : Option Operation) (j : ℕ) → k < length n.window → itself (length n.window) o (stood_at k j) ≡ itself (length (placed n k w).window) o j
itself_moved n k w None j l = refl
itself_moved n k w (Some b) j l = let e = one_fewer n k w l in ap (λ p. only p (stood_at k j)) (sym e) ∙ only_moved k (length (placed n k w).window) j (omega (arith, e, l))

acquired_moved : (model : MemoryModel) (n : Node) (k : ℕ) (w : Waiting) (o : Option Operation) (j : ℕ) → k < length n.window → acquired model (length n.window) o (stood_at k j) ≡ acquired model (length (placed n k w).window) o j
acquired_moved model n k w None j l = refl
acquired_moved model n k w (Some b) j l = ap (λ t. has_acquire model b && t) (itself_moved n k w (Some b) j l)

-- ---- each set

lr_closed : (k : ℕ) (r : Option Reserved) (j : ℕ) → lr_of r (stood_at k j) ≡ lr_of (option_map (closed_reservation k) r) j
lr_closed k None j = refl
lr_closed k (Some r) j = refl

own_closed : (k : ℕ) (r : Option Reserved) (j : ℕ) → own_of r (stood_at k j) ≡ own_of (option_map (closed_reservation k) r) j
own_closed k None j = refl
own_closed k (Some r) j = refl

registers_moved : (n : Node) (k : ℕ) (w : Waiting) (i : Option Instr) (o : Option Operation) → k < length n.window → (λ r. without k (registers_behind n i o r)) ≡ registers_behind (placed n k w) i o
registers_moved n k w i o l = fun_ext (λ r. fun_ext (λ j. go r j (list_any (nat_eq r) (uses_in i).written)))
  where
    go : (r j : ℕ) (c : Bool)
        → cond c (of_registers n.registers (sources (uses_in i)) ∪ itself (length n.window) o) (n.registers r) (stood_at k j)
        ≡ cond c (of_registers (placed n k w).registers (sources (uses_in i)) ∪ itself (length (placed n k w).window) o) ((placed n k w).registers r) j
    go r j true = ap (λ t. of_registers n.registers (sources (uses_in i)) (stood_at k j) || t) (itself_moved n k w o j l)
    go r j false = refl

loads_moved : (model : MemoryModel) (n : Node) (k : ℕ) (w : Waiting) (i : Option Instr) (o : Option Operation) → k < length n.window → without k (loads_behind model n i o) ≡ loads_behind model (placed n k w) i o
loads_moved model n k w i o l = fun_ext (λ j.
    ap (λ t. n.loads (stood_at k j) || (t || acquired model (length n.window) o (stood_at k j))) (those_placed (λ (e : Waiting). fences i e.kind Load) (fence_plain (λ a. fences i a Load)) n k w j)
    ∙ ap (λ t. n.loads (stood_at k j) || (those (λ (e : Waiting). fences i e.kind Load) (placed n k w).window j || t)) (acquired_moved model n k w o j l))

stores_moved : (model : MemoryModel) (n : Node) (k : ℕ) (w : Waiting) (i : Option Instr) (o : Option Operation) → k < length n.window → without k (stores_behind model n i o) ≡ stores_behind model (placed n k w) i o
stores_moved model n k w i o l = fun_ext (λ j.
    ap (λ t. n.stores (stood_at k j) || (t || (acquired model (length n.window) o (stood_at k j) || rest j))) (those_placed (λ (e : Waiting). fences i e.kind Store) (fence_plain (λ a. fences i a Store)) n k w j)
    ∙ ap (λ t. n.stores (stood_at k j) || (those (λ (e : Waiting). fences i e.kind Store) (placed n k w).window j || (t || rest j))) (acquired_moved model n k w o j l))
  where
    rest : ℕ → Bool
    rest j = (steers i && of_registers n.registers (sources (uses_in i)) (stood_at k j)) || of_registers n.registers (uses_in i).address (stood_at k j)

needs_moved : (model : MemoryModel) (n : Node) (k : ℕ) (w : Waiting) (u : Uses) (b : Operation) → without k (needs_of model n u b) ≡ needs_of model (placed n k w) u b
needs_moved model n k w u b = fun_ext (λ j.
    ap (λ t. t || ((is_sc b.kind && lr_of n.reserved (stood_at k j)) || rest j)) (those_placed (must_precede model b) (must_plain model b) n k w j)
    ∙ ap (λ t. those (must_precede model b) (placed n k w).window j || ((is_sc b.kind && t) || rest j)) (lr_closed k n.reserved j))
  where
    rest : ℕ → Bool
    rest j =
        of_registers n.registers u.address (stood_at k j)
        || (of_registers n.registers u.stored (stood_at k j) || ((reads b.kind && n.loads (stood_at k j)) || (writes b.kind && n.stores (stood_at k j))))

waiting_moved : (model : MemoryModel) (n : Node) (k : ℕ) (w : Waiting) (u : Uses) (b : Operation) → closed_up k (waiting_with model n u b) ≡ waiting_with model (placed n k w) u b
waiting_moved model n k w u b =
    ap (λ s. record (waiting_with model (placed n k w) u b) { needs = s; pair = without k (waiting_with model n u b).pair; own = without k (waiting_with model n u b).own }) (needs_moved model n k w u b)
    ∙ ap (λ s. record (waiting_with model (placed n k w) u b) { pair = s; own = without k (waiting_with model n u b).own }) (fun_ext (λ j. ap (λ t. is_sc b.kind && t) (lr_closed k n.reserved j)))
    ∙ ap (λ s. record (waiting_with model (placed n k w) u b) { own = s }) (fun_ext (λ j. ap (λ t. is_sc b.kind && t) (own_closed k n.reserved j)))

reserves_moved : (n : Node) (k : ℕ) (w : Waiting) (o : Option Operation) → k < length n.window → option_map (closed_reservation k) (reserves n.window o) ≡ reserves (placed n k w).window o
reserves_moved n k w None l = refl
reserves_moved n k w (Some b) l = go (is_lr b.kind)
  where
    test : Waiting → Bool
    test e = writes e.kind && overlaps b.address b.size e

    go : (c : Bool)
        → option_map (closed_reservation k) (cond c (Some (record { address = b.address; lr = only (length n.window); own = those (λ (e : Waiting). writes e.kind && overlaps b.address b.size e) n.window })) None)
        ≡ cond c (Some (record { address = b.address; lr = only (length (placed n k w).window); own = those (λ (e : Waiting). writes e.kind && overlaps b.address b.size e) (placed n k w).window })) None
    go false = refl
    go true =
        ap (λ s. Some (record { address = b.address; lr = s; own = without k (those (λ (e : Waiting). writes e.kind && overlaps b.address b.size e) n.window) })) (fun_ext (λ j. itself_moved n k w (Some b) j l))
        ∙ ap (λ s. Some (record { address = b.address; lr = only (length (placed n k w).window); own = s })) (fun_ext (λ j. those_placed (λ (e : Waiting). writes e.kind && overlaps b.address b.size e) (own_plain b.address b.size) n k w j))

reservation_moved : (n : Node) (k : ℕ) (w : Waiting) (i : Option Instr) (o : Option Operation) → k < length n.window → option_map (closed_reservation k) (reservation_behind n i o) ≡ reservation_behind (placed n k w) i o
reservation_moved n k w i o l = go (is_lr_or_sc i)
  where
    go : (c : Bool) → option_map (closed_reservation k) (cond c (reserves n.window o) n.reserved) ≡ cond c (reserves (placed n k w).window o) (placed n k w).reserved
    go true = reserves_moved n k w o l
    go false = refl

-- ---- the window

remove_append : {X : Type 0} (xs ys : List X) (k : ℕ) → k < length xs → remove (xs ++ ys) k ≡ remove xs k ++ ys
remove_append [] ys k l = absurd (omega (arith, l))
remove_append (x ∷ xs) ys zero l = refl
remove_append (x ∷ xs) ys (suc k) l = ap (λ zs. x ∷ zs) (remove_append xs ys k (omega (arith, l)))

window_moved : (model : MemoryModel) (n : Node) (k : ℕ) (w : Waiting) (i : Option Instr) (o : Option Operation) → k < length n.window
    → map (closed_up k) (remove (pinned_by w (take k (window_behind model n i o)) ++ drop k (window_behind model n i o)) k) ≡ window_behind model (placed n k w) i o
window_moved model n k w i o l =
    ap (λ ws. map (closed_up k) (remove (pinned_by w ws ++ drop k (n.window ++ new)) k)) (take-append-le k n.window new (omega (arith, l)))
    ∙ ap (λ ws. map (closed_up k) (remove (pinned_by w (take k n.window) ++ ws) k)) (drop-append-le k n.window new (omega (arith, l)))
    ∙ ap (λ ws. map (closed_up k) (remove ws k)) (sym (append_assoc (pinned_by w (take k n.window)) (drop k n.window) new))
    ∙ ap (map (closed_up k)) (remove_append pinned new k (omega (arith, l, whole)))
    ∙ map-append (closed_up k) (remove pinned k) new
    ∙ ap (λ ws. map (closed_up k) (remove pinned k) ++ ws) (go o)
  where
    new : List Waiting
    new = option_to_list (option_map (waiting_with model n (uses_in i)) o)

    pinned : List Waiting
    pinned = pinned_by w (take k n.window) ++ drop k n.window

    whole : length pinned ≡ length n.window
    whole = pinned_length w (take k n.window) (drop k n.window) ∙ ap length (take-append-drop k n.window)

    go : (q : Option Operation) → map (closed_up k) (option_to_list (option_map (waiting_with model n (uses_in i)) q)) ≡ option_to_list (option_map (waiting_with model (placed n k w) (uses_in i)) q)
    go None = refl
    go (Some b) = ap (λ e. e ∷ []) (waiting_moved model n k w (uses_in i) b)

-- ---- the node

pub placed_fetched : (model : MemoryModel) (n : Node) (entry : Retired) (i : Option Instr) (o : Option Operation) (k : ℕ) (w : Waiting) → k < length n.window → placed (fetched_as model n entry i o) k w ≡ fetched_as model (placed n k w) entry i o
placed_fetched model n entry i o k w l =
    ap (λ rs. record there { registers = rs; loads = without k (loads_behind model n i o); stores = without k (stores_behind model n i o); reserved = option_map (closed_reservation k) (reservation_behind n i o); window = moved }) (registers_moved n k w i o l)
    ∙ ap (λ s. record there { loads = s; stores = without k (stores_behind model n i o); reserved = option_map (closed_reservation k) (reservation_behind n i o); window = moved }) (loads_moved model n k w i o l)
    ∙ ap (λ s. record there { stores = s; reserved = option_map (closed_reservation k) (reservation_behind n i o); window = moved }) (stores_moved model n k w i o l)
    ∙ ap (λ r. record there { reserved = r; window = moved }) (reservation_moved n k w i o l)
    ∙ ap (λ ws. record there { window = ws }) (window_moved model n k w i o l)
  where
    there : Node
    there = fetched_as model (placed n k w) entry i o

    moved : List Waiting
    moved = map (closed_up k) (remove (pinned_by w (take k (window_behind model n i o)) ++ drop k (window_behind model n i o)) k)

-- ---- the law

at_front : {X : Type 0} (xs ys : List X) (k : ℕ) (x : X) → k < length xs → slice_get (xs ++ ys) k ≡ Some x → slice_get xs k ≡ Some x
at_front [] ys k x l e = absurd (omega (arith, l))
at_front (y ∷ xs) ys zero x l e = e
at_front (y ∷ xs) ys (suc k) x l e = at_front xs ys k x (omega (arith, l)) e

has_any_fewer : (m n : ℕ) (s : Waits) → m ≤ n → has_any n s ≡ false → has_any m s ≡ false
has_any_fewer m n s l e = has_any_none m s (λ k below f. false≢true (sym e ∙ has_any_at n s k (omega (arith, l, below)) f))

forward_fewer : (m n : ℕ) (o : Option Waiting) → m ≤ n → can_forward n o ≡ true → can_forward m o ≡ true
forward_fewer m n None l e = refl
forward_fewer m n (Some s) l e =
    let h = and_parts (is_store s.kind) (not (has_any n s.source)) e in
    and_from (is_store s.kind) (not (has_any m s.source)) h.0 (ap (λ b. not b) (has_any_fewer m n s.source l (not-true (has_any n s.source) h.1)))

pub may_do_closed : (k : ℕ) (r : Option Reserved) (o : Option Operation) → may_do (address_of (option_map (closed_reservation k) r)) o ≡ may_do (address_of r) o
may_do_closed k None o = refl
may_do_closed k (Some r) o = refl

pub placing_comes_first : PlacingComesFirst
placing_comes_first model image memory n entry k w fetch l place = record {
  can_place = record {
    waits = at_front n.window new k w l place.waits;
    ready = has_any_fewer (length n.window) (length (n.window ++ new)) w.needs fewer place.ready;
    values = λ r x t.
        let h = place.values r x t in
        record {
          value = h.value ∙ ap (λ ws. byte_seen memory ws x) same_front;
          forwarded = ap (λ ws. can_forward (length n.window) (last_store x ws)) (sym same_front) ∙ forward_fewer (length n.window) (length (n.window ++ new)) (last_store x (take k (n.window ++ new))) fewer h.forwarded;
        };
    agreed = subst (AgreeWith w) same_front place.agreed;
  };
  can_fetch = record { step = fetch.step; reserved = may_do_closed k n.reserved (operation_of n.hart entry) ∙ fetch.reserved };
  same = placed_fetched model n entry (decoded entry.word) (operation_of n.hart entry) k w l;
}
  where
    new : List Waiting
    new = option_to_list (option_map (waiting_with model n (uses_in (decoded entry.word))) (operation_of n.hart entry))

    fewer : length n.window ≤ length (n.window ++ new)
    fewer = let e = length-append n.window new in omega arith

    same_front : take k (n.window ++ new) ≡ take k n.window
    same_front = take-append-le k n.window new (omega (arith, l))
