-- The verdict on an order of the trace's operations.
use Rattle.std.proofs.Common.{◌≡◌, List, true, ◌∙◌, refl, sym, ap, subst, ◌&&◌, ◌↔◌}
use Rattle.std.specs.List.{list_all}
use Rattle.std.proofs.lemmas.Bool.{and_parts}
use Rattle.elf_loader.specs.Image.{Initial, byte_at}
use Rattle.machine_types.specs.declared.model.MemoryModel.{MemoryModel}
use Rattle.memory_model.specs.declared.operation.Operation.{Operation}
use Rattle.memory_model.specs.Items.{Item}
use Rattle.memory_model.specs.Traces.{IsLegalOrder, image_of, instructions, is_among, is_distinct, has_each_operation_once, names_in, operations_at}
use Rattle.memory_model.proofs.Named.{EachOnce, Pairwise-from_is_distinct, operations_distinct}
use Rattle.memory_model.specs.History.{History}
use Rattle.memory_model.specs.OpId.{OpId}
use Rattle.memory_model.specs.Verdict.{fault_in}
use Rattle.rvwmo_order.specs.Answers.{IsSoundVerdict, fault_told}
use Rattle.rvwmo_order.specs.Ranks.{AreDistinctOperations}
use Rattle.rvwmo_order.specs.Scans.{judged}
use Rattle.rvwmo_order.specs.declared.verdict.Verdict.{Verdict}
use Rattle.rvwmo_order.specs.declared.verdict.Verdict.TheVariants.{Legal}
use Rattle.rvwmo_order.proofs.Clear.{distinct_once}
use Rattle.rvwmo_order.proofs.Faults.{sound}
use Rattle.rvwmo_order.proofs.First.{first_told}
use Rattle.rvwmo_order.proofs.Judged.{judged-from_legal, legal-from_judged}

distinct_in : (t : History) (order : List OpId) → has_each_operation_once t order ≡ true → EachOnce (operations_at (instructions t) order)
distinct_in t order e =
    let s = and_parts (list_all (is_among (names_in t)) order && is_distinct order) (list_all (is_among order) (names_in t)) e in
    operations_distinct t order (Pairwise-from_is_distinct order (and_parts (list_all (is_among (names_in t)) order) (is_distinct order) s.0).1)

pub distinct_operations : (t : History) (order : List OpId) → has_each_operation_once t order ≡ true → AreDistinctOperations (operations_at (instructions t) order)
distinct_operations t order e = distinct_once (operations_at (instructions t) order) (distinct_in t order e)

pub legal_verdict : (model : MemoryModel) (t : History) (order : List OpId) (v : Verdict) → v ≡ judged model (image_of t) (instructions t) (operations_at (instructions t) order) → (v ≡ Legal) ↔ IsLegalOrder model t order
legal_verdict model t order v e = (
  λ l. legal-from_judged model (image_of t) (instructions t) (operations_at (instructions t) order) (sym e ∙ l),
  λ l. e ∙ judged-from_legal model (image_of t) (instructions t) (operations_at (instructions t) order) l,
)

pub sound_verdict : (model : MemoryModel) (t : History) (order : List OpId) (v : Verdict) → has_each_operation_once t order ≡ true → v ≡ judged model (image_of t) (instructions t) (operations_at (instructions t) order) → IsSoundVerdict model t order v
sound_verdict model t order v o e = subst (λ (w : Verdict). IsSoundVerdict model t order w) (sym e) (sound model t order (distinct_in t order o))

pub first_verdict : (model : MemoryModel) (t : History) (order : List OpId) (v : Verdict) → has_each_operation_once t order ≡ true → v ≡ judged model (image_of t) (instructions t) (operations_at (instructions t) order) → fault_told v ≡ fault_in model t order
first_verdict model t order v o e = ap fault_told e ∙ first_told model (image_of t) (instructions t) (operations_at (instructions t) order) (distinct_in t order o)

-- ---- by what was computed

pub same_judged : (model : MemoryModel) (i j : Initial) (hs gs : List (List Item)) (os ps : List Operation) → i ≡ j → hs ≡ gs → os ≡ ps → judged model (byte_at i) hs os ≡ judged model (byte_at j) gs ps
same_judged model i j hs gs os ps a b c = rw (a, b, c) refl

pub tested_order : (t : History) (order names : List OpId) → names ≡ names_in t → (list_all (is_among names) order && is_distinct order && list_all (is_among order) names) ≡ has_each_operation_once t order
tested_order t order names e = rw e refl
