-- Laws of the definitions: two forms are one, and what follows from them.
use Rattle.std.specs.Prelude.{ℕ, ◌≡◌, ◌↔◌, List, IsTrue, IsFalse, Contains, All, is_some}
use Rattle.std.specs.List.{list_all}
use Rattle.hart.specs.declared.retired.Retired.{Retired}
use Rattle.hart.specs.declared.state.Hart.{Hart}
use Rattle.trace_recorder.specs.History.{History}
use Rattle.trace_recorder.specs.declared.operation.OpId.{OpId}
use Rattle.hart.specs.MemoryModel.{MemoryModel}
use Rattle.hart.specs.TheVariants.{Rvwmo, Ztso}
use Rattle.memory_model.specs.declared.operation.Operation.{Operation}
use Rattle.memory_model.specs.Operations.{precedes, reads, addresses_of, read_at, stores_to}
use Rattle.memory_model.specs.Order.{Respects, in_order, last_visible, source}
use Rattle.memory_model.specs.Items.{Item, has_operation, item_of}
use Rattle.memory_model.specs.Rules.{preserved}
use Rattle.memory_model.specs.Legal.{IsLegal, keeps_preserved_order}
use Rattle.memory_model.specs.Traces.{IsLegalOrder, IsOrder, completed, has_each_operation_once, judged_legal, instructions, is_among, is_distinct, names_in, operation_at, operations_at}

-- the tests that judge examples are the definitions
pub record JudgesAsDefined (model : MemoryModel) (t : History) (order : List OpId) : Type 0 where
  pub whole : IsTrue (has_each_operation_once t order) ↔ IsOrder t order
  pub legal : IsTrue (judged_legal model t order) ↔ IsLegalOrder model t order

abbrev pub ExamplesJudgeAsDefined : Type 0
ExamplesJudgeAsDefined = (model : MemoryModel) (t : History) (order : List OpId) → JudgesAsDefined model t order

-- in an order of the trace's operations, of no two operations the later one must come first exactly where a stands
-- before b wherever a must come before b
abbrev pub OrderFormsAgree : Type 0
OrderFormsAgree =
    (model : MemoryModel) (t : History) (order : List OpId)
    → IsOrder t order
    → IsTrue (keeps_preserved_order model (instructions t) (operations_at (instructions t) order))
    ↔ Respects (preserved model (instructions t) (operations_at (instructions t) order)) (operations_at (instructions t) order)

-- in an order of the trace's operations, the source of a byte of a load is its reader's form
abbrev pub SourceFormsAgree : Type 0
SourceFormsAgree =
    (t : History) (order : List OpId) (load : Operation) (x : ℕ)
    → IsOrder t order
    → Contains (operations_at (instructions t) order) load
    → source (operations_at (instructions t) order) load x ≡ last_visible (operations_at (instructions t) order) load x

-- what Ztso allows, RVWMO allows
abbrev pub ZtsoIsStronger : Type 0
ZtsoIsStronger = (t : History) (order : List OpId) → IsLegalOrder Ztso t order → IsLegalOrder Rvwmo t order

-- wherever its hart stands, an entry has an operation exactly where its word and its SC answer tell it
abbrev pub EntriesTellOperations : Type 0
EntriesTellOperations = (place : ℕ) (hart : Hart) (entry : Retired) → has_operation entry ≡ is_some (item_of place hart entry).operation

-- the names of a trace are exactly those by which an operation is found
abbrev pub NamesFindOperations : Type 0
NamesFindOperations = (t : History) (name : OpId) → is_among (names_in t) name ≡ is_some (operation_at (instructions t) name)

-- where the performed order names operations of the trace, each at most once, the completed order is an order
abbrev pub CompletedIsOrder : Type 0
CompletedIsOrder =
    (t : History) → IsTrue (list_all (is_among (names_in t)) t.performed) → IsTrue (is_distinct t.performed) → IsOrder t (completed t)

-- an order that keeps program order breaks none of the thirteen rules
abbrev pub ProgramOrderSuffices : Type 0
ProgramOrderSuffices =
    (model : MemoryModel) (harts : List (List Item)) (order : List Operation)
    → IsTrue (in_order precedes order)
    → IsTrue (keeps_preserved_order model harts order)

-- in a legal order, a load returns the image's byte where there is no store to it
abbrev pub UnwrittenByteIsImages : Type 0
UnwrittenByteIsImages =
    (model : MemoryModel) (image : ℕ → ℕ) (harts : List (List Item)) (order : List Operation) (load : Operation) (x : ℕ)
    → IsLegal model image harts order
    → Contains order load
    → IsTrue (reads load.kind)
    → Contains (addresses_of load) x
    → All (λ s. IsFalse (stores_to x s)) order
    → read_at load x ≡ image x
