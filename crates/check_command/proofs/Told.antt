-- Which faults a check hands up.
use Rattle.std.proofs.Common.{Bool, ◌≡◌, ◌≢◌, ◌∙◌, ◌⊎◌, ◌↔◌, ℕ, List, Some, inl, inr, refl, subst, sym}
use Rattle.command_files.specs.Contents.{Contents, HoldsBytes}
use Rattle.command_files.specs.Faults.{IsTextFault, Name}
use Rattle.check_command.specs.Checking.{IsCheckFault}
use Rattle.check_command.specs.Messages.{IsLogFault}
use Rattle.command_files.specs.Files.{HoldsTrace}
use Rattle.memory_model.specs.Traces.{completed}
use Rattle.rvwmo_order.specs.Answers.{refusal}
use Rattle.rvwmo_order.specs.declared.error.CheckError.{CheckError}
use Rattle.rvwmo_order.specs.declared.error.CheckError.TheVariants.{NoMemory}
use Rattle.trace_recorder.specs.History.{History}
use Rattle.trace_text.specs.TraceLimits.{IsTrace}
use Rattle.trace_text.specs.Traces.{text}
use Rattle.command_files.specs.declared.fault.Fault.{Fault}
use Rattle.command_files.specs.declared.fault.Fault.TheVariants.{BadAddress, BadEvent, BytesAfterTrace, CannotMake, CannotRead, CannotShow, CannotWrite, Check, Configuration, Event, Image, Mismatch, NoThread, NothingHappens, OtherImage, OutOfMemory, Text, TooManyRows}

pub of_trace : (held : Contents) (name : Name) (fault : Fault) → IsTextFault held name fault → IsCheckFault held name fault
of_trace held name (CannotRead file) is = is
of_trace held name OutOfMemory is = tt
of_trace held name (Image file error) is = absurd is
of_trace held name (Text file error) is = (is.0, inl is.1)
of_trace held name (CannotMake file) is = absurd is
of_trace held name CannotWrite is = absurd is
of_trace held name (Event file line error) is = absurd is
of_trace held name (BytesAfterTrace file) is = absurd is
of_trace held name (NothingHappens file line outcome) is = absurd is
of_trace held name (Check file error) is = absurd is
of_trace held name (OtherImage file address) is = absurd is
of_trace held name (TooManyRows file) is = absurd is
of_trace held name (BadAddress word) is = absurd is
of_trace held name (CannotShow word cause) is = absurd is
of_trace held name NoThread is = absurd is
of_trace held name Mismatch is = absurd is
of_trace held name BadEvent is = absurd is
of_trace held name Configuration is = absurd is

pub of_log : (held : Contents) (skip : Bool) (name : Name) (fault : Fault) → IsTextFault held name fault → IsLogFault held skip name fault
of_log held skip name (CannotRead file) is = is
of_log held skip name OutOfMemory is = tt
of_log held skip name (Image file error) is = absurd is
of_log held skip name (Text file error) is = (is.0, inl is.1)
of_log held skip name (CannotMake file) is = absurd is
of_log held skip name CannotWrite is = absurd is
of_log held skip name (Event file line error) is = absurd is
of_log held skip name (BytesAfterTrace file) is = absurd is
of_log held skip name (NothingHappens file line outcome) is = absurd is
of_log held skip name (Check file error) is = absurd is
of_log held skip name (OtherImage file address) is = absurd is
of_log held skip name (TooManyRows file) is = absurd is
of_log held skip name (BadAddress word) is = absurd is
of_log held skip name (CannotShow word cause) is = absurd is
of_log held skip name NoThread is = absurd is
of_log held skip name Mismatch is = absurd is
of_log held skip name BadEvent is = absurd is
of_log held skip name Configuration is = absurd is

-- all of the file is the text of the trace that was read
pub trace_held : (held : Contents) (name bytes read : List ℕ) (t : History) → HoldsBytes held name bytes → read ≡ bytes → IsTrace t × (read ≡ text t) → HoldsTrace held name t
trace_held held name bytes read t same is found = record {
  is_trace = found.0;
  bytes = subst (HoldsBytes held name) (sym is ∙ found.1) same;
}

-- an order that isn't judged is refused for a cause that the check tells, or memory ran out
pub of_refusal : (held : Contents) (name : Name) (trace : History) (error : CheckError) (fault : Fault) → HoldsTrace held name.now trace
    → (error ≢ NoMemory → refusal trace (completed trace) ≡ Some error) → (fault ≡ Check name error) ⊎ (fault ≡ OutOfMemory) → (fault ≡ OutOfMemory) ↔ (error ≡ NoMemory)
    → IsCheckFault held name fault
of_refusal held name trace error fault file refused told memory = elim told [
  | inl check ↦ subst (IsCheckFault held name) (sym check)
      (refl, record { trace = trace; file = file; refused = refused (λ none. let bad : Check name error ≡ OutOfMemory = sym check ∙ memory.1 none in cc) })
  | inr none ↦ subst (IsCheckFault held name) (sym none) tt
]

pub text_is_not_write : (held : Contents) (name : Name) (fault : Fault) → IsTextFault held name fault → fault ≡ CannotWrite → ⊥
text_is_not_write held name fault is at = subst (IsTextFault held name) at is
