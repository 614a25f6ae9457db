-- What is told of a whole trace.
use Rattle.std.proofs.Common.{◌≡◌, ◌∙◌, ◌++◌, [], ◌∷◌, ℕ, List, length, refl}
use Rattle.std.specs.Prelude.{option_map}
use Rattle.machine_types.specs.declared.model.MemoryModel.{MemoryModel}
use Rattle.memory_model.specs.Traces.{completed, instructions, operations_at}
use Rattle.memory_model.specs.Verdict.{fault_in}
use Rattle.rvwmo_order.specs.Answers.{fault_told}
use Rattle.rvwmo_order.specs.declared.verdict.Verdict.{Verdict}
use Rattle.trace_recorder.specs.History.{History}
use Rattle.trace_recorder.specs.declared.operation.OpId.{OpId}
use Rattle.order_text.specs.Telling.{body_lines, broken_of, order_lines}
use Rattle.order_text.specs.declared.line.Line.{Line}
use Rattle.order_text.specs.declared.line.Line.TheVariants.{Judged, Performed}

pub told_whole : (model : MemoryModel) (t : History) (order : List OpId) (v : Verdict) (start head whole : List Line) (count : ℕ)
    → order ≡ completed t → fault_told v ≡ fault_in model t order → count ≡ length order → start ≡ []
    → head ≡ start ++ Judged model (option_map broken_of (fault_told v)) ∷ Performed (length t.performed) count ∷ []
    → whole ≡ head ++ body_lines model t (operations_at (instructions t) order)
    → whole ≡ order_lines model t
told_whole model t order v start head whole count is first many none h w =
    w ∙ rw (h, none, first, many, is) refl
