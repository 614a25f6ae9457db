-- Items and operations of a trace whose lists grow.
use Rattle.std.proofs.Common.{◌≡◌, ◌≢◌, ℕ, zero, suc, ◌+◌, ◌<◌, List, [], ◌∷◌, ◌++◌, Bool, true, false, Some, None, refl, sym, ap, ◌∙◌, subst, arith, length, map, slice_index_or, slice_set}
use Rattle.std.specs.Prelude.{slice_get, option_and_then, nat_eq}
use Rattle.std.specs.List.{AllByRecursion as Each, cons_option}
use Rattle.std.proofs.lemmas.Bool.{true≢false, eq-eqb, eqb-true}
use Rattle.std.proofs.lemmas.List.{length-set, get_or-set_same, get_or-set_other}
use Rattle.elf_loader.specs.Image.{Initial}
use Rattle.hart.specs.declared.retired.Retired.{Retired}
use Rattle.hart.specs.declared.state.Hart.{Hart}
use Rattle.hart.specs.Run.{after, at_reset, reached}
use Rattle.memory_model.specs.declared.operation.Operation.{Operation}
use Rattle.memory_model.specs.Items.{Item, item_of, items_from, items_of_harts}
use Rattle.memory_model.specs.Rules.{items_of}
use Rattle.memory_model.specs.Traces.{instructions, operation_at, operations_at}
use Rattle.memory_model.specs.Verdict.{name_of}
use Rattle.memory_model.proofs.Lists.{Each-weaker}
use Rattle.memory_model.proofs.Named.{id-after}
use Rattle.machine_model.proofs.order.Split.{gave_at}
use Rattle.trace_recorder.specs.History.{History, entries_of}
use Rattle.trace_recorder.specs.declared.operation.OpId.{OpId}

-- ---- a hart's items

abbrev pub items_at : History → ℕ → List Item
items_at t h = items_from 0 (at_reset t.image h (length t.entries)) (entries_of t h)

pub length-items_from : (place : ℕ) (hart : Hart) (es : List Retired) → length (items_from place hart es) ≡ length es
length-items_from place hart [] = refl
length-items_from place hart (e ∷ es) = ap suc (length-items_from (place + 1) (after hart e) es)

items_from-push : (place : ℕ) (hart : Hart) (es : List Retired) (e : Retired) → items_from place hart (es ++ e ∷ []) ≡ items_from place hart es ++ item_of (place + length es) (reached hart es) e ∷ []
items_from-push place hart [] e = ap (λ n. item_of n hart e ∷ []) (omega arith)
items_from-push place hart (x ∷ es) e =
    ap (λ ms. item_of place hart x ∷ ms) (items_from-push (place + 1) (after hart x) es e ∙ ap (λ n. items_from (place + 1) (after hart x) es ++ item_of n (reached (after hart x) es) e ∷ []) (omega arith))

items_of-harts : (image : Initial) (harts id : ℕ) (lists : List (List Retired)) (k : ℕ) → items_of (items_of_harts image harts id lists) k ≡ items_from 0 (at_reset image (id + k) harts) (slice_index_or lists k [])
items_of-harts image harts id [] k = refl
items_of-harts image harts id (es ∷ rest) zero = ap (λ n. items_from 0 (at_reset image n harts) es) (omega arith)
items_of-harts image harts id (es ∷ rest) (suc k) = items_of-harts image harts (id + 1) rest k ∙ ap (λ n. items_from 0 (at_reset image n harts) (slice_index_or rest k [])) (omega arith)

pub items_of-at : (t : History) (h : ℕ) → items_of (instructions t) h ≡ items_at t h
items_of-at t h = items_of-harts t.image (length t.entries) 0 t.entries h ∙ ap (λ n. items_from 0 (at_reset t.image n (length t.entries)) (entries_of t h)) (omega arith)

pub id-reached : (hart : Hart) (es : List Retired) → (reached hart es).id ≡ hart.id
id-reached hart [] = refl
id-reached hart (e ∷ es) = id-reached (after hart e) es ∙ id-after hart e

-- ---- operations by name

operation_in : (harts : List (List Item)) (k place : ℕ) → option_and_then (λ (m : Item). m.operation) (option_and_then (λ (items : List Item). slice_get items place) (slice_get harts k)) ≡ gave_at (items_of harts k) place
operation_in [] k place = refl
operation_in (items ∷ rest) zero place = refl
operation_in (items ∷ rest) (suc k) place = operation_in rest k place

pub operation_is : (t : History) (n : OpId) → operation_at (instructions t) n ≡ gave_at (items_at t n.hart) n.place
operation_is t n = operation_in (instructions t) n.hart n.place ∙ ap (λ items. gave_at items n.place) (items_of-at t n.hart)

-- the name is an operation's
abbrev pub IsResolved : History → OpId → Type 0
IsResolved t n = (a : Operation) × (operation_at (instructions t) n ≡ Some a)

-- the performed operations
abbrev pub done : History → List Operation
done t = operations_at (instructions t) t.performed

-- every operation of the old trace is the same in the new one
abbrev pub Extends : History → History → Type 0
Extends old new = (h k : ℕ) (a : Operation) → gave_at (items_at old h) k ≡ Some a → gave_at (items_at new h) k ≡ Some a

pub resolved_on : (old new : History) → Extends old new → (ns : List OpId) → Each (IsResolved old) ns → Each (IsResolved new) ns
resolved_on old new x ns r = Each-weaker (IsResolved old) (IsResolved new) (λ n q. (q.0, operation_is new n ∙ x n.hart n.place q.0 (sym (operation_is old n) ∙ q.1))) ns r

pub operations_on : (old new : History) → Extends old new → (ns : List OpId) → Each (IsResolved old) ns → operations_at (instructions new) ns ≡ operations_at (instructions old) ns
operations_on old new x [] r = refl
operations_on old new x (n ∷ ns) r =
    let e : operation_at (instructions new) n ≡ operation_at (instructions old) n = operation_is new n ∙ (x n.hart n.place r.0.0 (sym (operation_is old n) ∙ r.0.1) ∙ sym r.0.1) in
    ap (λ o. cons_option o (operations_at (instructions new) ns)) e ∙ ap (cons_option (operation_at (instructions old) n)) (operations_on old new x ns r.1)

-- these operations stand in the trace under their names
abbrev pub Stands : History → Operation → Type 0
Stands t a = gave_at (items_at t a.hart) a.place ≡ Some a

pub operations_named : (t : History) (out : List Operation) → Each (Stands t) out → operations_at (instructions t) (map name_of out) ≡ out
operations_named t [] s = refl
operations_named t (a ∷ out) s = ap (λ o. cons_option o (operations_at (instructions t) (map name_of out))) (operation_is t (name_of a) ∙ s.0) ∙ ap (λ v. a ∷ v) (operations_named t out s.1)

pub resolved_named : (t : History) (out : List Operation) → Each (Stands t) out → Each (IsResolved t) (map name_of out)
resolved_named t [] s = tt
resolved_named t (a ∷ out) s = ((a, operation_is t (name_of a) ∙ s.0), resolved_named t out s.1)

-- ---- traces that differ by little

pub items_same : (old new : History) → new.image ≡ old.image → new.entries ≡ old.entries → (h : ℕ) → items_at new h ≡ items_at old h
items_same old new i e h = rw (i, e) refl

pub extends_same : (old new : History) → new.image ≡ old.image → new.entries ≡ old.entries → Extends old new
extends_same old new i e h k a f = ap (λ items. gave_at items k) (items_same old new i e h) ∙ f

-- one more entry of the hart h
pub record IsLonger (h : ℕ) (entry : Retired) (old new : History) : Type 0 where
  pub image : new.image ≡ old.image
  pub entries : new.entries ≡ slice_set old.entries h (entries_of old h ++ entry ∷ [])

abbrev pub new_item : ℕ → Retired → History → Item
new_item h entry old = item_of (length (entries_of old h)) (reached (at_reset old.image h (length old.entries)) (entries_of old h)) entry

pub count_same : (h : ℕ) (entry : Retired) (old new : History) → IsLonger h entry old new → length new.entries ≡ length old.entries
count_same h entry old new x = ap length x.entries ∙ length-set old.entries h (entries_of old h ++ entry ∷ [])

pub items_here : (h : ℕ) (entry : Retired) (old new : History) → IsLonger h entry old new → h < length old.entries → items_at new h ≡ items_at old h ++ new_item h entry old ∷ []
items_here h entry old new x l =
    rw (x.image, count_same h entry old new x, ap (λ es. slice_index_or es h []) x.entries ∙ get_or-set_same old.entries h (entries_of old h ++ entry ∷ []) [] l)
    (items_from-push 0 (at_reset old.image h (length old.entries)) (entries_of old h) entry ∙ ap (λ n. items_at old h ++ item_of n (reached (at_reset old.image h (length old.entries)) (entries_of old h)) entry ∷ []) (omega arith))

pub items_there : (h : ℕ) (entry : Retired) (old new : History) → IsLonger h entry old new → (k : ℕ) → k ≢ h → items_at new k ≡ items_at old k
items_there h entry old new x k d =
    rw (x.image, count_same h entry old new x, ap (λ es. slice_index_or es k []) x.entries ∙ get_or-set_other old.entries h k (entries_of old h ++ entry ∷ []) [] d) refl

gave_left : (items : List Item) (m : Item) (k : ℕ) (a : Operation) → gave_at items k ≡ Some a → gave_at (items ++ m ∷ []) k ≡ Some a
gave_left [] m k a e = absurd (none_not e)
  where
    none_not : None ≡ Some a → ⊥
    none_not e = cc
gave_left (x ∷ items) m zero a e = e
gave_left (x ∷ items) m (suc k) a e = gave_left items m k a e

pub extends_longer : (h : ℕ) (entry : Retired) (old new : History) → IsLonger h entry old new → h < length old.entries → Extends old new
extends_longer h entry old new x l k p a f = go (nat_eq k h) refl
  where
    go : (b : Bool) → nat_eq k h ≡ b → gave_at (items_at new k) p ≡ Some a
    go true e =
        let s : k ≡ h = eqb-true k h e in
        subst (λ j. gave_at (items_at new j) p ≡ Some a) (sym s) (ap (λ items. gave_at items p) (items_here h entry old new x l) ∙ gave_left (items_at old h) (new_item h entry old) p a (subst (λ j. gave_at (items_at old j) p ≡ Some a) s f))
    go false e = ap (λ items. gave_at items p) (items_there h entry old new x k (λ s. true≢false (sym (eq-eqb k h s) ∙ e))) ∙ f
