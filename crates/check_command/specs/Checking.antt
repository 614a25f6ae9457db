-- What a check has done, and which faults it tells.
use Rattle.command_files.specs.Files.{HoldsTrace}
use Rattle.command_files.specs.Contents.{Contents}
use Rattle.command_files.specs.declared.fault.Fault.TheVariants.{BytesAfterTrace, CannotRead, CannotWrite, Check, OutOfMemory, Text}
use Rattle.command_files.specs.declared.fault.Fault.{Fault}
use Rattle.command_files.specs.Faults.{IsLongFirst, Name}
use Rattle.memory_model.specs.Traces.{IsLegalOrder, completed}
use Rattle.memory_model.specs.Verdict.{fault_in}
use Rattle.machine_types.specs.declared.model.MemoryModel.{MemoryModel}
use Rattle.rvwmo_order.specs.Answers.{fault_told, refusal}
use Rattle.rvwmo_order.specs.Codes.{code_number}
use Rattle.rvwmo_order.specs.declared.error.CheckError.{CheckError}
use Rattle.rvwmo_order.specs.declared.verdict.Verdict.TheVariants.{Legal, Fault as AtFault}
use Rattle.rvwmo_order.specs.declared.verdict.Verdict.{Verdict}
use Rattle.std.specs.Fmt.{decimal}
use Rattle.std.specs.Io.KnownBytes.{Appends}
use Rattle.std.specs.Prelude.{◌≡◌, ◌≢◌, ◌↔◌, ◌⊎◌, ℕ, IfSome, List, [], ◌++◌, None, Option, Some, codes}
use Rattle.text_fields.specs.Writing.{Begins}
use Rattle.trace_recorder.specs.History.{History}
use Rattle.trace_recorder.specs.declared.operation.OpId.{OpId}
use Rattle.trace_text.specs.TraceLimits.{IsTrace}
use Rattle.trace_text.specs.Traces.{text}
use Rattle.trace_text.specs.TraceRefusals.{IsTraceRefusal}
use Rattle.trace_text.specs.declared.fault.TextError.{TextError}

-- an operation as HART:PLACE
abbrev pub operation_text : OpId → List ℕ
operation_text o = decimal o.hart ++ (codes ":" ++ decimal o.place)

abbrev pub verdict_text : Verdict → List ℕ
verdict_text Legal = codes "legal\n"
verdict_text (AtFault code a b) =
    codes "fault " ++ (decimal (code_number code) ++ (codes " " ++ (operation_text a ++ (codes " " ++ (operation_text b ++ codes "\n")))))

-- the verdict on a trace's completed order, where the checker doesn't refuse it: legal, or the first fault that the order has
pub record IsVerdict (model : MemoryModel) (trace : History) (verdict : Verdict) : Type 0 where
  pub judged : refusal trace (completed trace) ≡ None
  pub legal : (verdict ≡ Legal) ↔ IsLegalOrder model trace (completed trace)
  pub first : fault_told verdict ≡ fault_in model trace (completed trace)

-- what was appended is the verdict on the trace in the file
pub record IsVerdictTold (held : Contents) (name : List ℕ) (model : MemoryModel) (verdict : Verdict) (old new : Option (List ℕ)) : Type 0 where
  pub trace : History
  pub file : HoldsTrace held name trace
  pub judged : IsVerdict model trace verdict
  pub printed : Appends old new (verdict_text verdict)

-- it took no more than a beginning of the verdict on the trace in the file
pub record IsVerdictCutOff (held : Contents) (name : List ℕ) (model : MemoryModel) (old new : Option (List ℕ)) : Type 0 where
  pub trace : History
  pub verdict : Verdict
  pub file : HoldsTrace held name trace
  pub judged : IsVerdict model trace verdict
  pub begun : Begins old new (verdict_text verdict)

-- the order of the trace in the file is refused for this cause
pub record IsUnjudged (held : Contents) (name : List ℕ) (error : CheckError) : Type 0 where
  pub trace : History
  pub file : HoldsTrace held name trace
  pub refused : refusal trace (completed trace) ≡ Some error

-- the bytes begin with no trace's text
abbrev pub BeginWithNoTrace : List ℕ → Type 0
BeginWithNoTrace bytes = (trace : History) (more : List ℕ) → IsTrace trace → bytes ≢ text trace ++ more

-- these bytes begin with no trace's text, and this is the line at which they can't be read as one, and why
pub record IsNoTraceText (bytes : List ℕ) (error : TextError) : Type 0 where
  pub none : BeginWithNoTrace bytes
  pub refused : IsTraceRefusal bytes error

-- bytes follow a trace's text
pub record GoOnBehindATrace (bytes : List ℕ) : Type 0 where
  pub trace : History
  pub more : List ℕ
  pub is_trace : IsTrace trace
  pub whole : bytes ≡ text trace ++ more
  pub longer : more ≢ []

-- the bytes of the file aren't a trace's text: they begin with none, or go on behind it; or memory ran out
abbrev pub IsTraceFault : List ℕ → Name → Fault → Type 0
IsTraceFault bytes name fault =
    ((error : TextError) × (fault ≡ Text name error) × IsNoTraceText bytes error) ⊎ ((fault ≡ BytesAfterTrace name) × GoOnBehindATrace bytes) ⊎ (fault ≡ OutOfMemory)

-- the file begins with no trace's text, or already its first line is longer than that of any text
abbrev pub IsNoTrace : Contents → List ℕ → TextError → Type 0
IsNoTrace held name error = IsLongFirst held name error ⊎ IfSome (held name) (λ known. IsNoTraceText known error)

-- the trace is read first, then its end, then its order is judged
abbrev pub IsCheckFault : Contents → Name → Fault → Type 0
IsCheckFault held name (CannotRead file) = file ≡ name
IsCheckFault held name (Text file error) = (file ≡ name) × IsNoTrace held name.now error
IsCheckFault held name (BytesAfterTrace file) = (file ≡ name) × IfSome (held name.now) GoOnBehindATrace
IsCheckFault held name (Check file error) = (file ≡ name) × IsUnjudged held name.now error
IsCheckFault held name CannotWrite = Unit {0}
IsCheckFault held name OutOfMemory = Unit {0}
IsCheckFault held name _ = ⊥
