-- A hart's list that is kept as words and operations: what stands at a place, a part of it, and one instruction more.
use Rattle.std.proofs.Common.{◌≡◌, ℕ, zero, suc, ◌+◌, ◌<◌, ◌≤◌, List, [], ◌∷◌, ◌++◌, Bool, Option, Some, None, refl, cond, sym, ap, ◌∙◌, ◌⊎◌, inl, inr, arith, drop, take, length, length-append, min}
use Rattle.std.specs.Prelude.{option_and_then, slice_get}
use Rattle.std.specs.Option.{option_map}
use Rattle.std.proofs.lemmas.Bool.{cases_lt, eq-eqb, ne_eqb}
use Rattle.std.proofs.lemmas.List.{drop_all}
use Rattle.std.proofs.lemmas.Option.{slice_get_past}
use Rattle.rv32_decode.specs.Rows.{decoded}
use Rattle.memory_model.specs.declared.operation.Operation.{Operation}
use Rattle.rv32_decode.specs.declared.instruction.Instr.{Instr}
use Rattle.hart.specs.declared.retired.Retired.{Retired}
use Rattle.hart.specs.declared.state.Hart.{Hart}
use Rattle.memory_model.specs.Items.{Item, item_of, operation_of_entry}
use Rattle.memory_model.proofs.Named.{listed_bears}
use Rattle.trace_operations.specs.Listed.{item_kept, listed, standing_at}
use Rattle.trace_operations.specs.Placed.{IsPlaced}
use Rattle.trace_operations.specs.declared.listed.Slot.{Slot}

pub placed_listed : (place : ℕ) (ops : List Operation) (slots : List Slot) → IsPlaced place (listed place ops slots)
placed_listed place ops [] = tt
placed_listed place ops (s ∷ rest) = (refl, placed_listed (place + 1) ops rest)

pub length-listed : (place : ℕ) (ops : List Operation) (slots : List Slot) → length (listed place ops slots) ≡ length slots
length-listed place ops [] = refl
length-listed place ops (s ∷ rest) = ap suc (length-listed (place + 1) ops rest)

pub at_listed : (place : ℕ) (ops : List Operation) (slots : List Slot) (k : ℕ) → slice_get (listed place ops slots) k ≡ option_map (item_kept ops (place + k)) (slice_get slots k)
at_listed place ops [] k = refl
at_listed place ops (s ∷ rest) zero = let e : place ≡ place + 0 = omega arith in ap (λ (n : ℕ). Some (item_kept ops n s)) e
at_listed place ops (s ∷ rest) (suc k) = let e : place + 1 + k ≡ place + suc k = omega arith in at_listed (place + 1) ops rest k ∙ ap (λ (n : ℕ). option_map (item_kept ops n) (slice_get rest k)) e

pub drop_listed : (place : ℕ) (ops : List Operation) (slots : List Slot) (k : ℕ) → drop k (listed place ops slots) ≡ listed (place + k) ops (drop k slots)
drop_listed place ops [] zero = refl
drop_listed place ops [] (suc k) = refl
drop_listed place ops (s ∷ rest) zero = let e : place ≡ place + 0 = omega arith in ap (λ (n : ℕ). listed n ops (s ∷ rest)) e
drop_listed place ops (s ∷ rest) (suc k) = let e : place + 1 + k ≡ place + suc k = omega arith in drop_listed (place + 1) ops rest k ∙ ap (λ (n : ℕ). listed n ops (drop k rest)) e

pub take_listed : (place : ℕ) (ops : List Operation) (slots : List Slot) (k : ℕ) → take k (listed place ops slots) ≡ listed place ops (take k slots)
take_listed place ops [] zero = refl
take_listed place ops [] (suc k) = refl
take_listed place ops (s ∷ rest) zero = refl
take_listed place ops (s ∷ rest) (suc k) = ap (λ (ms : List Item). item_kept ops place s ∷ ms) (take_listed (place + 1) ops rest k)

-- ---- one more

pub listed_push : (place : ℕ) (ops : List Operation) (slots : List Slot) (s : Slot) → listed place ops (slots ++ s ∷ []) ≡ listed place ops slots ++ item_kept ops (place + length slots) s ∷ []
listed_push place ops [] s = let e : place ≡ place + 0 = omega arith in ap (λ (n : ℕ). item_kept ops n s ∷ []) e
listed_push place ops (x ∷ rest) s = let e : place + 1 + length rest ≡ place + suc (length rest) = omega arith in ap (λ (ms : List Item). item_kept ops place x ∷ ms) (listed_push (place + 1) ops rest s ∙ ap (λ (n : ℕ). listed (place + 1) ops rest ++ item_kept ops n s ∷ []) e)

push_first : (ops : List Operation) (slots : List Slot) (s : Slot) → listed 0 ops (slots ++ s ∷ []) ≡ listed 0 ops slots ++ item_kept ops (length slots) s ∷ []
push_first ops slots s = let e : 0 + length slots ≡ length slots = omega arith in listed_push 0 ops slots s ∙ ap (λ (n : ℕ). listed 0 ops slots ++ item_kept ops n s ∷ []) e

-- what stands at a number below the length, at the length, and past it, where one is put behind
get_pushed : (place : ℕ) (ops : List Operation) (a : Operation) (k : ℕ) → (a.place ≡ place → ⊥) → standing_at place (slice_get (ops ++ a ∷ []) k) ≡ standing_at place (slice_get ops k)
get_pushed place [] a zero f = ap (λ (b : Bool). cond b (Some a) None) (ne_eqb a.place place f)
get_pushed place [] a (suc k) f = refl
get_pushed place (o ∷ rest) a zero f = refl
get_pushed place (o ∷ rest) a (suc k) f = get_pushed place rest a k f

pub listed_more : (place : ℕ) (ops : List Operation) (slots : List Slot) (a : Operation) → place + length slots ≤ a.place → listed place (ops ++ a ∷ []) slots ≡ listed place ops slots
listed_more place ops [] a h = refl
listed_more place ops (s ∷ rest) a h =
    let apart : a.place ≡ place → ⊥ = λ e. omega (arith, e, h) in
    let first : item_kept (ops ++ a ∷ []) place s ≡ item_kept ops place s = ap (λ (o : Option Operation). record { place = place; instr = decoded s.word; operation = o }) (get_pushed place ops a s.before apart) in
    rw first (ap (λ (ms : List Item). item_kept ops place s ∷ ms) (listed_more (place + 1) ops rest a (omega (arith, h))))

get_last : (ops : List Operation) (a : Operation) → slice_get (ops ++ a ∷ []) (length ops) ≡ Some a
get_last [] a = refl
get_last (o ∷ rest) a = get_last rest a

-- a word with no operation, and one with an operation that stands at its place
pub pushed_alone : (ops : List Operation) (old new : List Slot) (s : Slot) (now : List Item) (o : Option Operation) → s.before ≡ length ops → new ≡ old ++ s ∷ [] → listed 0 ops old ≡ now → o ≡ None
    → listed 0 ops new ≡ now ++ record { place = length now; instr = decoded s.word; operation = o } ∷ []
pushed_alone ops old new s now o e f v g =
    let none : standing_at (length old) (slice_get ops s.before) ≡ o = ap (standing_at (length old)) (ap (slice_get ops) e ∙ slice_get_past ops (length ops) (omega arith)) ∙ sym g in
    ap (listed 0 ops) f
    ∙ (push_first ops old s
    ∙ (ap (λ (p : Option Operation). listed 0 ops old ++ record { place = length old; instr = decoded s.word; operation = p } ∷ []) none
    ∙ (ap (λ (n : ℕ). listed 0 ops old ++ record { place = n; instr = decoded s.word; operation = o } ∷ []) (sym (length-listed 0 ops old) ∙ ap length v)
    ∙ ap (λ (ms : List Item). ms ++ record { place = length now; instr = decoded s.word; operation = o } ∷ []) v)))

pub pushed_both : (ops more : List Operation) (old new : List Slot) (s : Slot) (a : Operation) (now : List Item) (o : Option Operation) → s.before ≡ length ops → new ≡ old ++ s ∷ [] → more ≡ ops ++ a ∷ [] → listed 0 ops old ≡ now → o ≡ Some a → a.place ≡ length now
    → listed 0 more new ≡ now ++ record { place = length now; instr = decoded s.word; operation = o } ∷ []
pushed_both ops more old new s a now o e f g v i h =
    let long : length old ≡ length now = sym (length-listed 0 ops old) ∙ ap length v in
    let at : a.place ≡ length old = h ∙ sym long in
    let there : standing_at (length old) (slice_get more s.before) ≡ o = ap (standing_at (length old)) (ap (slice_get more) e ∙ (ap (λ (os : List Operation). slice_get os (length ops)) g ∙ get_last ops a)) ∙ (ap (λ (b : Bool). cond b (Some a) None) (eq-eqb a.place (length old) at) ∙ sym i) in
    ap (listed 0 more) f
    ∙ (push_first more old s
    ∙ (ap (λ (p : Option Operation). listed 0 more old ++ record { place = length old; instr = decoded s.word; operation = p } ∷ []) there
    ∙ (ap (λ (n : ℕ). listed 0 more old ++ record { place = n; instr = decoded s.word; operation = o } ∷ []) long
    ∙ ap (λ (ms : List Item). ms ++ record { place = length now; instr = decoded s.word; operation = o } ∷ []) (ap (λ (os : List Operation). listed 0 os old) g ∙ (listed_more 0 ops old a (omega (arith, at)) ∙ v)))))

-- ---- what stands at a place

pub kept_there : (place k : ℕ) (ops : List Operation) (slots : List Slot) (s : Slot) (now : List Item) (m : Item) → listed place ops slots ≡ now → slice_get slots k ≡ Some s → m ≡ item_kept ops (place + k) s → slice_get now k ≡ Some m
kept_there place k ops slots s now m v e f =
    ap (λ (ms : List Item). slice_get ms k) (sym v) ∙ (at_listed place ops slots k ∙ (ap (option_map (item_kept ops (place + k))) e ∙ ap Some (sym f)))

abbrev operation_of : Option Item → Option Operation
operation_of o = option_and_then (λ (m : Item). m.operation) o

pub operation_there : (k : ℕ) (ops : List Operation) (slots : List Slot) (s : Slot) (now : List Item) (o : Option Operation) → listed 0 ops slots ≡ now → slice_get slots k ≡ Some s → o ≡ standing_at k (slice_get ops s.before) → o ≡ option_and_then (λ (m : Item). m.operation) (slice_get now k)
operation_there k ops slots s now o v e f =
    let at : k ≡ 0 + k = omega arith in
    f ∙ sym (ap operation_of (kept_there 0 k ops slots s now (item_kept ops k s) v e (ap (λ (n : ℕ). item_kept ops n s) at)))

pub none_there : (k : ℕ) (ops : List Operation) (slots : List Slot) (now : List Item) → listed 0 ops slots ≡ now → length slots ≤ k → None ≡ option_and_then (λ (m : Item). m.operation) (slice_get now k)
none_there k ops slots now v h =
    let long : length now ≡ length slots = ap length (sym v) ∙ length-listed 0 ops slots in
    ap operation_of (sym (slice_get_past now k (omega (arith, long, h))))

-- ---- a part

pub part_listed : (ops : List Operation) (slots part : List Slot) (first from k : ℕ) (now : List Item) → listed 0 ops slots ≡ now → first ≡ min from (length slots) → part ≡ take k (drop from slots) → listed first ops part ≡ take k (drop from now)
part_listed ops slots part first from k now v e f =
    ap (listed first ops) f
    ∙ (sym (take_listed first ops (drop from slots) k)
    ∙ (ap (take k) (go (cases_lt from (length slots)))
    ∙ ap (λ (ms : List Item). take k (drop from ms)) v))
  where
    go : (from < length slots) ⊎ (length slots ≤ from) → listed first ops (drop from slots) ≡ drop from (listed 0 ops slots)
    go (inl l) = let same : first ≡ 0 + from = omega (arith, e, l) in ap (λ (n : ℕ). listed n ops (drop from slots)) same ∙ sym (drop_listed 0 ops slots from)
    go (inr l) =
        let long = length-listed 0 ops slots in
        ap (listed first ops) (drop_all from slots l) ∙ sym (drop_all from (listed 0 ops slots) (omega (arith, long, l)))

-- ---- where operations stand

pub at_its_place : (place : ℕ) (hart : Hart) (entry : Retired) (a : Operation) → operation_of_entry place hart entry (decoded entry.word) ≡ Some a → a.place ≡ place
at_its_place place hart entry a e = (listed_bears place hart (entry ∷ []) 0 (item_of place hart entry) a refl e).place_is ∙ omega arith

-- what is kept of an entry is its item
pub item_is : (place long word : ℕ) (hart : Hart) (entry : Retired) (i : Option Instr) (o : Option Operation) → long ≡ place → word ≡ entry.word → i ≡ decoded entry.word → o ≡ operation_of_entry place hart entry i
    → record { place = long; instr = decoded word; operation = o } ≡ item_of place hart entry
item_is place long word hart entry i o e f g h =
    let by_entry : o ≡ operation_of_entry place hart entry (decoded entry.word) = h ∙ ap (operation_of_entry place hart entry) g in
    rw (e, f, by_entry) (refl {a = item_of place hart entry})

pub pushed_long : (old new : List Item) (m : Item) (n : ℕ) → new ≡ old ++ m ∷ [] → length old ≡ n → length new ≡ n + 1
pushed_long old new m n e f = let l = length-append old (m ∷ []) in let k = ap length e in omega (arith, l, k, f)
