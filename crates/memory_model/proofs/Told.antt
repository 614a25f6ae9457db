-- Which entries have an operation, and by which names one is found.
use Rattle.std.proofs.Common.{◌≡◌, ℕ, zero, suc, ◌+◌, ◌≤◌, List, [], ◌∷◌, Bool, true, false, Option, Some, None, refl, cond, ap, ◌∙◌, ◌||◌, arith}
use Rattle.std.specs.Prelude.{nat_eq, is_some, slice_get, option_and_then}
use Rattle.std.specs.Option.{option_map_or}
use Rattle.std.proofs.lemmas.Bool.{and_from, and_left, and_right, eq-eqb, ne_eqb}
use Rattle.std.proofs.lemmas.List.Folds.{list_any-append}
use Rattle.hart.specs.Image.{Initial}
use Rattle.hart.specs.Rows.{decoded}
use Rattle.hart.specs.Instr.{Instr}
use Rattle.hart.specs.InstrVariants as instr
use Rattle.hart.specs.SystemOpVariants.{Ecall, Ebreak}
use Rattle.hart.specs.Meaning.{access_of}
use Rattle.hart.specs.declared.retired.Retired.{Retired}
use Rattle.hart.specs.declared.state.Hart.{Hart}
use Rattle.hart.specs.Run.{after, at_reset}
use Rattle.trace_recorder.specs.declared.operation.OpId.{OpId}
use Rattle.memory_model.specs.Items.{Item, annotations_of, succeeded, operation_of_access, operation_of_entry, items_from, items_of_harts, accesses_memory, has_operation}
use Rattle.memory_model.specs.Traces.{is_named, is_among, names_from, names_of_harts}
use Rattle.memory_model.specs.Laws.{EntriesTellOperations, NamesFindOperations}
use Rattle.memory_model.proofs.Lists.{Each-weaker}
use Rattle.memory_model.proofs.Named.{none_among, from_place, from_hart}

-- ---- an entry

answered : {X : Type 0} (ok : Bool) (a : X) → ok ≡ is_some (cond ok (Some a) None)
answered true a = refl
answered false a = refl

instr_tells : (place : ℕ) (hart : Hart) (entry : Retired) (i : Instr) → accesses_memory entry.sc_ok i ≡ is_some (operation_of_access hart.id place (annotations_of i) entry (access_of i hart.regs))
instr_tells place hart entry (instr.Upper op rd imm) = refl
instr_tells place hart entry (instr.Jal rd offset) = refl
instr_tells place hart entry (instr.Jalr rd rs1 offset) = refl
instr_tells place hart entry (instr.Branch op rs1 rs2 offset) = refl
instr_tells place hart entry (instr.Load op rd rs1 offset) = refl
instr_tells place hart entry (instr.Store op rs1 rs2 offset) = refl
instr_tells place hart entry (instr.Immediate op rd rs1 imm) = refl
instr_tells place hart entry (instr.Shift op rd rs1 amount) = refl
instr_tells place hart entry (instr.Register op rd rs1 rs2) = refl
instr_tells place hart entry (instr.Fence sets) = refl
instr_tells place hart entry instr.FenceTso = refl
instr_tells place hart entry (instr.System Ecall) = refl
instr_tells place hart entry (instr.System Ebreak) = refl
instr_tells place hart entry (instr.Lr rd rs1 bits) = refl
instr_tells place hart entry (instr.Sc rd rs1 rs2 bits) = answered (succeeded entry.sc_ok) _
instr_tells place hart entry (instr.Amo op rd rs1 rs2 bits) = refl

word_tells : (place : ℕ) (hart : Hart) (entry : Retired) (i : Option Instr) → option_map_or (accesses_memory entry.sc_ok) i false ≡ is_some (operation_of_entry place hart entry i)
word_tells place hart entry None = refl
word_tells place hart entry (Some i) = instr_tells place hart entry i

pub entries_tell_operations : EntriesTellOperations
entries_tell_operations place hart entry = word_tells place hart entry (decoded entry.word)

-- ---- a name of one hart's list

found : Option Item → Bool
found o = is_some (option_and_then (λ (m : Item). m.operation) o)

name_in_list : (id place k : ℕ) (hart : Hart) (entries : List Retired) (name : OpId) → name.hart ≡ id → name.place ≡ place + k → is_among (names_from id place entries) name ≡ found (slice_get (items_from place hart entries) k)
unfolding found
name_in_list id place k hart [] name h p = refl
name_in_list id place zero hart (entry ∷ rest) name h p = at_first (has_operation entry) ∙ entries_tell_operations place hart entry
  where
    same : is_named name (record { hart = id; place = place }) ≡ true
    same = and_from _ _ (eq-eqb name.hart id h) (eq-eqb name.place place (p ∙ omega arith))

    behind : is_among (names_from id (place + 1) rest) name ≡ false
    behind = none_among (is_named name) (names_from id (place + 1) rest) (Each-weaker (λ n. (n.hart ≡ id) × (place + 1 ≤ n.place)) (λ n. is_named name n ≡ false) (λ n f. and_right (nat_eq name.hart n.hart) (nat_eq name.place n.place) (ne_eqb name.place n.place (λ e. let l = f.1 in absurd (omega (arith, e, l, p))))) (names_from id (place + 1) rest) (from_place id (place + 1) rest))

    at_first : (b : Bool) → is_among (cond b (record { hart = id; place = place } ∷ names_from id (place + 1) rest) (names_from id (place + 1) rest)) name ≡ b
    at_first true = ap (λ c. c || is_among (names_from id (place + 1) rest) name) same
    at_first false = behind
name_in_list id place (suc k) hart (entry ∷ rest) name h p = later (has_operation entry) ∙ name_in_list id (place + 1) k (after hart entry) rest name h (p ∙ omega arith)
  where
    other : is_named name (record { hart = id; place = place }) ≡ false
    other = and_right (nat_eq name.hart id) (nat_eq name.place place) (ne_eqb name.place place (λ e. absurd (omega (arith, e, p))))

    later : (b : Bool) → is_among (cond b (record { hart = id; place = place } ∷ names_from id (place + 1) rest) (names_from id (place + 1) rest)) name ≡ is_among (names_from id (place + 1) rest) name
    later true = ap (λ c. c || is_among (names_from id (place + 1) rest) name) other
    later false = refl

-- ---- and of all lists

found_in : Option (List Item) → ℕ → Bool
unfolding found
found_in o place = found (option_and_then (λ (items : List Item). slice_get items place) o)

or_false : (b c : Bool) → c ≡ false → (b || c) ≡ b
or_false true c e = refl
or_false false c e = e

name_in_lists : (image : Initial) (harts id h : ℕ) (lists : List (List Retired)) (name : OpId) → name.hart ≡ id + h → is_among (names_of_harts id lists) name ≡ found_in (slice_get (items_of_harts image harts id lists) h) name.place
unfolding found found_in
name_in_lists image harts id h [] name e = refl
name_in_lists image harts id zero (entries ∷ rest) name e =
    list_any-append (is_named name) (names_from id 0 entries) (names_of_harts (id + 1) rest)
    ∙ (or_false (is_among (names_from id 0 entries) name) (is_among (names_of_harts (id + 1) rest) name) others ∙ name_in_list id 0 name.place (at_reset image id harts) entries name (e ∙ omega arith) (omega arith))
  where
    others : is_among (names_of_harts (id + 1) rest) name ≡ false
    others = none_among (is_named name) (names_of_harts (id + 1) rest) (Each-weaker (λ n. id + 1 ≤ n.hart) (λ n. is_named name n ≡ false) (λ n l. and_left (nat_eq name.hart n.hart) (nat_eq name.place n.place) (ne_eqb name.hart n.hart (λ f. absurd (omega (arith, e, f, l))))) (names_of_harts (id + 1) rest) (from_hart (id + 1) rest))
name_in_lists image harts id (suc h) (entries ∷ rest) name e =
    list_any-append (is_named name) (names_from id 0 entries) (names_of_harts (id + 1) rest) ∙ (ap (λ b. b || is_among (names_of_harts (id + 1) rest) name) first ∙ name_in_lists image harts (id + 1) h rest name (e ∙ omega arith))
  where
    first : is_among (names_from id 0 entries) name ≡ false
    first = none_among (is_named name) (names_from id 0 entries) (Each-weaker (λ n. (n.hart ≡ id) × (0 ≤ n.place)) (λ n. is_named name n ≡ false) (λ n f. let g = f.0 in and_left (nat_eq name.hart n.hart) (nat_eq name.place n.place) (ne_eqb name.hart n.hart (λ q. absurd (omega (arith, e, g, q))))) (names_from id 0 entries) (from_place id 0 entries))

pub names_find_operations : NamesFindOperations
unfolding found found_in
names_find_operations t name = name_in_lists t.image _ 0 name.hart t.entries name (omega arith)
