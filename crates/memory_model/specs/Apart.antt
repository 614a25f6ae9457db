-- The atomicity axiom as a reader expects it (RISC-V Unprivileged ISA 20191213, chapter 14.1, "Memory Model Axioms").
use Rattle.std.specs.Prelude.{ℕ, ◌≡◌, ◌↔◌, List, Option, Some, None, IsTrue, Contains}
use Rattle.trace_recorder.specs.History.{History}
use Rattle.trace_recorder.specs.declared.operation.OpId.{OpId}
use Rattle.memory_model.specs.declared.operation.Operation.{Operation}
use Rattle.memory_model.specs.Legal.{is_atomic_at}
use Rattle.memory_model.specs.Operations.{stores_to}
use Rattle.memory_model.specs.Order.{before, source}
use Rattle.memory_model.specs.Traces.{IsOrder, instructions, operations_at}

-- what a byte comes from stands before t in the order; the image stands before everything
abbrev pub StandsBefore : List Operation → Option Operation → Operation → Type 0
StandsBefore order None t = Unit {0}
StandsBefore order (Some s) t = IsTrue (before order s t)

-- s, from which r has byte x, stands before w, and no store to x of another hart between s and w
pub record IsKeptFor (order : List Operation) (r w : Operation) (x : ℕ) : Type 0 where
  pub source_first : StandsBefore order (source order r x) w
  pub none_between : (t : Operation) → Contains order t → IsTrue (stores_to x t)
      → StandsBefore order (source order r x) t → IsTrue (before order t w) → t.hart ≡ w.hart

-- in an order of the trace's operations the test at a byte says so
abbrev pub AtomicityFormsAgree : Type 0
AtomicityFormsAgree =
    (t : History) (order : List OpId) (r w : Operation) (x : ℕ)
    → IsOrder t order
    → Contains (operations_at (instructions t) order) w
    → IsTrue (is_atomic_at (operations_at (instructions t) order) r w x)
    ↔ IsKeptFor (operations_at (instructions t) order) r w x
