-- Rule 12 by a sweep back: where b returns a store's value, what the store asks for is wanted. For this each operation must bear the place of its instruction.
use Rattle.std.proofs.Common.{◌≡◌, ℕ, ◌+◌, ◌-◌, ◌<◌, List, [], ◌∷◌, ◌++◌, Bool, true, false, Option, Some, None, refl, cond, sym, ap, ◌∙◌, ◌&&◌, ◌||◌, arith, drop, take, length}
use Rattle.std.specs.Prelude.{slice_get, slice_index_or}
use Rattle.std.specs.List.{list_any}
use Rattle.std.proofs.lemmas.Bool.{and_from, and_right, eq-eqb, lt-ltb}
use Rattle.std.proofs.lemmas.List.{append_assoc, length-append, length-take, take-take, take_at}
use Rattle.std.proofs.lemmas.List.Folds.{list_any-append}
use Rattle.memory_model.specs.declared.operation.Operation.{Operation}
use Rattle.memory_model.specs.Dependencies.{between, has_address_dependency, has_data_dependency, held_after, held_behind, held_first, holds, instr_in, uses_at, uses_in}
use Rattle.memory_model.specs.Items.{Item}
use Rattle.memory_model.specs.Operations.{precedes, reads, writes}
use Rattle.memory_model.specs.Rules.{passes_on, returns_from, rule_12}
use Rattle.trace_operations.specs.Placed.{GivesOwn, IsPlaced}
use Rattle.rvwmo_order.specs.Sweeps.{carries, gives_wanted, is_returned, passing, wanted_from}
use Rattle.trace_operations.proofs.Placed.{between_cut}
use Rattle.rvwmo_order.proofs.Sweeps.{first_carried, slice_get-drop, slice_get-take}

-- ---- an instruction between a and b, those before it and those behind it

at_front : (front back : List Item) (m : Item) → slice_get (front ++ m ∷ back) (length front) ≡ Some m
at_front [] back m = refl
at_front (x ∷ front) back m = at_front front back m

front_within : (items front back : List Item) (m : Item) (a b : Operation) → IsPlaced 0 items → between items a b ≡ front ++ m ∷ back → length front < b.place - (a.place + 1)
front_within items front back m a b p e =
    let taken = length-take (b.place - (a.place + 1)) (drop (a.place + 1) items) in
    let cut = ap length (between_cut items a b p ∙ e) in
    let joined = length-append front (m ∷ back) in
    omega (arith, taken, cut, joined)

item_behind : (items front back : List Item) (m : Item) (a b : Operation) → IsPlaced 0 items → between items a b ≡ front ++ m ∷ back → slice_get items (a.place + 1 + length front) ≡ Some m
item_behind items front back m a b p e =
    sym (slice_get-drop (a.place + 1) items (length front))
    ∙ (sym (slice_get-take (b.place - (a.place + 1)) (drop (a.place + 1) items) (length front) (front_within items front back m a b p e))
    ∙ (ap (λ (ms : List Item). slice_get ms (length front)) (between_cut items a b p ∙ e) ∙ at_front front back m))

front_between : (items front back : List Item) (m : Item) (a b s : Operation) → IsPlaced 0 items → between items a b ≡ front ++ m ∷ back → s.place ≡ a.place + 1 + length front → between items a s ≡ front
front_between items front back m a b s p e f =
    let within = front_within items front back m a b p e in
    let count : s.place - (a.place + 1) ≡ length front = omega (arith, f) in
    sym (between_cut items a s p)
    ∙ (ap (λ (n : ℕ). take n (drop (a.place + 1) items)) count
    ∙ (sym (take-take (length front) (b.place - (a.place + 1)) (drop (a.place + 1) items) (omega (arith, within)))
    ∙ (ap (take (length front)) (between_cut items a b p ∙ e) ∙ take_at front (m ∷ back) (length front) refl)))

-- ---- its store depends on a where what it asks for holds what came from a

store_asks : (items front : List Item) (m : Item) (order : List Operation) (a b s : Operation) → precedes a s ≡ true → uses_at items s ≡ uses_in m.instr → between items a s ≡ front
    → (writes s.kind && (has_address_dependency items a s || has_data_dependency items a s) && returns_from order b s)
    ≡ holds (held_behind (held_first (uses_at items a)) front) (cond (writes s.kind && returns_from order b s) ((uses_in m.instr).address ++ (uses_in m.instr).stored) [])
store_asks items front m order a b s e f g = rw (e, f, g) (go (writes s.kind) (returns_from order b s) (list_any-append (λ r. slice_index_or held r false) (uses_in m.instr).address (uses_in m.instr).stored))
  where
    held : List Bool
    held = held_behind (held_first (uses_at items a)) front

    go : (w r : Bool) → holds held ((uses_in m.instr).address ++ (uses_in m.instr).stored) ≡ (holds held (uses_in m.instr).address || holds held (uses_in m.instr).stored)
        → (w && (holds held (uses_in m.instr).address || holds held (uses_in m.instr).stored) && r) ≡ holds held (cond (w && r) ((uses_in m.instr).address ++ (uses_in m.instr).stored) [])
    go false r h = refl
    go true true h = and_true (holds held (uses_in m.instr).address || holds held (uses_in m.instr).stored) ∙ sym h
      where
        and_true : (c : Bool) → (c && true) ≡ c
        and_true true = refl
        and_true false = refl
    go true false h = and_right (holds held (uses_in m.instr).address || holds held (uses_in m.instr).stored) false refl

passes : (items front back : List Item) (m : Item) (order : List Operation) (a b : Operation) → IsPlaced 0 items → GivesOwn a.hart items → between items a b ≡ front ++ m ∷ back
    → passes_on items order a b m.operation ≡ holds (held_behind (held_first (uses_at items a)) front) (passing order b m)
passes items front back m order a b p own e = go m.operation refl
  where
    there : slice_get items (a.place + 1 + length front) ≡ Some m
    there = item_behind items front back m a b p e

    go : (o : Option Operation) → m.operation ≡ o → passes_on items order a b o ≡ holds (held_behind (held_first (uses_at items a)) front) (cond (is_returned order b o) ((uses_in m.instr).address ++ (uses_in m.instr).stored) [])
    go None f = refl
    go (Some s) f =
        let place : s.place ≡ a.place + 1 + length front = own.at_place (a.place + 1 + length front) m s there f in
        let hart : s.hart ≡ a.hart = own.of_hart (a.place + 1 + length front) m s there f in
        let behind : precedes a s ≡ true = and_from _ _ (eq-eqb a.hart s.hart (sym hart)) (lt-ltb a.place s.place (omega (arith, place))) in
        let uses : uses_at items s ≡ uses_in m.instr = ap (λ (o : Option Item). uses_in (instr_in o)) (ap (slice_get items) place ∙ there) in
        store_asks items front m order a b s behind uses (front_between items front back m a b s p e place)

-- ---- from an instruction on

behind_one : (held : List Bool) (front : List Item) (m : Item) → held_behind held (front ++ m ∷ []) ≡ held_after (held_behind held front) (uses_in m.instr)
behind_one held [] m = refl
behind_one held (x ∷ front) m = behind_one (held_after held (uses_in x.instr)) front m

any_passes : (items front back : List Item) (order : List Operation) (a b : Operation) → IsPlaced 0 items → GivesOwn a.hart items → between items a b ≡ front ++ back
    → list_any (λ (m : Item). passes_on items order a b m.operation) back ≡ carries (passing order b) [] (held_behind (held_first (uses_at items a)) front) back
any_passes items front [] order a b p own e = refl
any_passes items front (m ∷ back) order a b p own e =
    ap (λ (c : Bool). c || list_any (λ (n : Item). passes_on items order a b n.operation) back) (passes items front back m order a b p own e)
    ∙ ap (λ (c : Bool). holds (held_behind (held_first (uses_at items a)) front) (passing order b m) || c)
    (any_passes items (front ++ m ∷ []) back order a b p own (e ∙ sym (append_assoc front (m ∷ []) back)) ∙ ap (λ (held : List Bool). carries (passing order b) [] held back) (behind_one (held_first (uses_at items a)) front m))

pub rule_12_swept : (items : List Item) (order : List Operation) (a b : Operation) → IsPlaced 0 items → GivesOwn a.hart items → precedes a b ≡ true
    → rule_12 items order a b ≡ (reads b.kind && gives_wanted (uses_at items a) (wanted_from (passing order b) [] (between items a b)))
rule_12_swept items order a b p own e =
    ap (λ (c : Bool). reads b.kind && c) (any_passes items [] (between items a b) order a b p own refl ∙ first_carried (passing order b) [] (uses_at items a) (between items a b))
