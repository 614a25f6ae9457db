-- Lists that begin with others have their instructions and their operations, at the same places.
use Rattle.std.proofs.Common.{◌≡◌, ℕ, zero, suc, ◌+◌, ◌≤◌, List, [], ◌∷◌, ◌++◌, true, false, Option, Some, None, refl, sym, ap, ◌∙◌, arith, length}
use Rattle.std.specs.Prelude.{is_some, option_and_then, slice_get}
use Rattle.std.specs.List.{AllByRecursion as Each, cons_option}
use Rattle.std.proofs.lemmas.Bool.{false≢true}
use Rattle.std.proofs.lemmas.Option.{none-some, same_Some}
use Rattle.elf_loader.specs.Image.{Initial}
use Rattle.hart.specs.declared.retired.Retired.{Retired}
use Rattle.hart.specs.declared.state.Hart.{Hart}
use Rattle.hart.specs.Run.{after, at_reset}
use Rattle.machine_types.specs.declared.model.MemoryModel.{MemoryModel}
use Rattle.memory_model.specs.declared.operation.Operation.{Operation}
use Rattle.memory_model.specs.Items.{Item, items_from, items_of_harts}
use Rattle.memory_model.specs.Rules.{items_of}
use Rattle.memory_model.specs.Traces.{IsOrder, instructions, is_among, names_in, operation_at, operations_at}
use Rattle.memory_model.proofs.Forms.{same-self}
use Rattle.memory_model.proofs.Lists.{Each-from_list_all, Member}
use Rattle.memory_model.proofs.Told.{names_find_operations}
use Rattle.trace_recorder.specs.History.{History}
use Rattle.trace_recorder.specs.declared.operation.OpId.{OpId}
use Rattle.window_model.specs.Pairs.{Pairs}
use Rattle.window_model.proofs.following.Whole.{Legal, apart, member_right}
use Rattle.window_hangs.specs.Hanging.{Continues}

abbrev pub ListsContinue : List (List Retired) → List (List Retired) → Type 0
ListsContinue = Pairs (λ (xs : List Retired) (ys : List Retired). Continues xs ys)

-- ---- instructions

more_items : (place : ℕ) (hart : Hart) (xs more : List Retired) (k : ℕ) (m : Item) → slice_get (items_from place hart xs) k ≡ Some m → slice_get (items_from place hart (xs ++ more)) k ≡ Some m
more_items place hart [] more k m e = absurd (none-some m e)
more_items place hart (x ∷ xs) more zero m e = e
more_items place hart (x ∷ xs) more (suc k) m e = more_items (place + 1) (after hart x) xs more k m e

pub items_continue : (image : Initial) (harts id : ℕ) (xs ys : List (List Retired)) (h k : ℕ) (m : Item) → ListsContinue xs ys → slice_get (items_of (items_of_harts image harts id xs) h) k ≡ Some m → slice_get (items_of (items_of_harts image harts id ys) h) k ≡ Some m
items_continue image harts id [] ys h k m c e = absurd (none-some m e)
items_continue image harts id (x ∷ xs) [] h k m c e = absurd c
items_continue image harts id (x ∷ xs) (y ∷ ys) zero k m c e = ap (λ es. slice_get (items_from 0 (at_reset image id harts) es) k) c.0.1 ∙ more_items 0 (at_reset image id harts) x c.0.0 k m e
items_continue image harts id (x ∷ xs) (y ∷ ys) (suc h) k m c e = items_continue image harts (id + 1) xs ys h k m c.1 e

-- what stands before an element is there
some_before : {X : Type 0} (xs : List X) (i j : ℕ) (x : X) → slice_get xs j ≡ Some x → i ≤ j → (y : X) × (slice_get xs i ≡ Some y)
some_before [] i j x e l = absurd (none-some x e)
some_before (y ∷ xs) zero j x e l = (y, refl)
some_before (y ∷ xs) (suc i) zero x e l = absurd (omega (arith, l))
some_before (y ∷ xs) (suc i) (suc j) x e l = some_before xs i j x e (omega (arith, l))

-- an operation that stands up to one of a run's, and behind that run's order, can't be
pub stands_later : (model : MemoryModel) (bytes : ℕ → ℕ) (image : Initial) (harts : ℕ) (xs ys : List (List Retired)) (whole extra : List Operation) → ListsContinue xs ys
    → Legal model bytes (items_of_harts image harts 0 xs) whole → Legal model bytes (items_of_harts image harts 0 ys) (whole ++ extra)
    → (b y : Operation) → Member b whole → Member y extra → y.hart ≡ b.hart → y.place ≤ b.place → ⊥
stands_later model bytes image harts xs ys whole extra c legal longer b y in_whole in_extra of_hart l =
    false≢true (sym (apart (whole ++ extra) whole extra longer.once refl y y there.0 in_extra) ∙ same-self y)
  where
    here : (m : Item) × (slice_get (items_of (items_of_harts image harts 0 xs) b.hart) y.place ≡ Some m)
    here = let o = legal.own b in_whole in some_before (items_of (items_of_harts image harts 0 xs) b.hart) y.place b.place o.item o.stands l

    gives : here.0.operation ≡ Some y
    gives =
        let o = longer.own y (member_right y whole extra in_extra) in
        ap (λ (m : Item). m.operation) (same_Some here.0 o.item (sym (items_continue image harts 0 xs ys b.hart y.place here.0 c here.1) ∙ ap (λ h. slice_get (items_of (items_of_harts image harts 0 ys) h) y.place) (sym of_hart) ∙ o.stands)) ∙ o.gives

    there : Member y whole × (y.hart ≡ b.hart) × (y.place ≡ y.place)
    there = legal.every b.hart y.place here.0 y here.1 gives

-- ---- operations

abbrev by_place : List (List Item) → (h k : ℕ) → Option Operation
by_place all h k = option_and_then (λ (m : Item). m.operation) (option_and_then (λ (items : List Item). slice_get items k) (slice_get all h))

operation_continues : (image : Initial) (harts id : ℕ) (xs ys : List (List Retired)) (h k : ℕ) (a : Operation) → ListsContinue xs ys → by_place (items_of_harts image harts id xs) h k ≡ Some a → by_place (items_of_harts image harts id ys) h k ≡ Some a
operation_continues image harts id [] ys h k a c e = absurd (none-some a e)
operation_continues image harts id (x ∷ xs) [] h k a c e = absurd c
operation_continues image harts id (x ∷ xs) (y ∷ ys) (suc h) k a c e = operation_continues image harts (id + 1) xs ys h k a c.1 e
operation_continues image harts id (x ∷ xs) (y ∷ ys) zero k a c e = go (slice_get (items_from 0 (at_reset image id harts) x) k) refl e
  where
    go : (o : Option Item) → slice_get (items_from 0 (at_reset image id harts) x) k ≡ o → option_and_then (λ (m : Item). m.operation) o ≡ Some a → option_and_then (λ (m : Item). m.operation) (slice_get (items_from 0 (at_reset image id harts) y) k) ≡ Some a
    go None f g = absurd (none-some a g)
    go (Some m) f g = ap (option_and_then (λ (i : Item). i.operation)) (ap (λ es. slice_get (items_from 0 (at_reset image id harts) es) k) c.0.1 ∙ more_items 0 (at_reset image id harts) x c.0.0 k m f) ∙ g

some_of : {X : Type 0} (o : Option X) → is_some o ≡ true → (x : X) × (o ≡ Some x)
some_of None e = absurd (false≢true e)
some_of (Some x) e = (x, refl)

same_operations : (t : History) (more : List (List Item)) (names : List OpId) → ((name : OpId) (a : Operation) → operation_at (instructions t) name ≡ Some a → operation_at more name ≡ Some a)
    → Each (λ name. is_among (names_in t) name ≡ true) names → operations_at more names ≡ operations_at (instructions t) names
same_operations t more [] f each = refl
same_operations t more (name ∷ rest) f each =
    let a = some_of (operation_at (instructions t) name) (sym (names_find_operations t name) ∙ each.0) in
    ap (λ o. cons_option o (operations_at more rest)) (f name a.0 a.1 ∙ sym a.1) ∙ ap (cons_option (operation_at (instructions t) name)) (same_operations t more rest f each.1)

-- the operations of an order are the same in lists that go on
pub operations_continue : (t : History) (ys : List (List Retired)) → ListsContinue t.entries ys → IsOrder t t.performed → operations_at (items_of_harts t.image (length t.entries) 0 ys) t.performed ≡ operations_at (instructions t) t.performed
operations_continue t ys c o =
    same_operations t (items_of_harts t.image (length t.entries) 0 ys) t.performed
    (λ name a e. operation_continues t.image (length t.entries) 0 t.entries ys name.hart name.place a c e)
    (Each-from_list_all (is_among (names_in t)) t.performed o.only)
