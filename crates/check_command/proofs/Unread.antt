-- Bytes that aren't read as a trace begin with none, and bytes behind one are told of.
use Rattle.std.proofs.Common.{◌≡◌, Bool, ◌∙◌, ◌<◌, ◌≤◌, ◌-◌, ◌⊎◌, ◌↔◌, ◌++◌, ℕ, IfSome, List, None, Option, Some, ap, arith, drop, inl, inr, length, refl, subst, sym, take}
use Rattle.std.proofs.lemmas.List.{length-drop, take-append-drop, take_all}
use Rattle.check_command.specs.Checking.{GoOnBehindATrace, IsCheckFault, IsNoTraceText, IsTraceFault}
use Rattle.check_command.specs.Logs.{IsNoText, IsTextFaultOf}
use Rattle.check_command.specs.Messages.{IsLogFault, IsMeantFault, at_source, sourced, text_meant}
use Rattle.command_files.specs.Faults.{Name}
use Rattle.command_files.specs.Contents.{Contents, HoldsBytes}
use Rattle.command_files.specs.declared.fault.Fault.{Fault}
use Rattle.command_files.specs.declared.fault.Fault.TheVariants.{BytesAfterTrace, CannotWrite, OutOfMemory, Text}
use Rattle.trace_recorder.specs.History.{History}
use Rattle.trace_text.specs.TraceLimits.{IsTrace}
use Rattle.trace_text.specs.Traces.{text}
use Rattle.trace_text.specs.declared.fault.TextCode.TheVariants.{NoMemory}
use Rattle.trace_text.specs.declared.fault.TextError.{TextError}

pub goes_on : (whole : List ℕ) (t : History) (n : ℕ) → IsTrace t × (take n whole ≡ text t) → n < length whole → GoOnBehindATrace whole
goes_on whole t n found less = record {
  trace = t;
  more = drop n whole;
  is_trace = found.0;
  whole = sym (take-append-drop n whole) ∙ ap (λ part. part ++ drop n whole) found.1;
  longer = λ none. let gone : length whole - n ≡ 0 = sym (length-drop n whole) ∙ ap length none in let bad : ⊥ = omega (arith, less, gone) in bad;
}

-- what holds of the bytes that were read holds of the file, where its bytes are known
pub of_file : (known : Option (List ℕ)) (bytes : List ℕ) (P : List ℕ → Type 0) → IfSome known (λ of_file. of_file ≡ bytes) → P bytes → IfSome known P
of_file None bytes P same so = tt
of_file (Some file) bytes P same so = subst P (sym same) so

-- what can't be read begins with no trace
pub no_trace_told : (bytes : List ℕ) (name : Name) (error : TextError) (fault : Fault) → (fault ≡ Text name error) ⊎ (fault ≡ OutOfMemory) → (fault ≡ OutOfMemory) ↔ (error.code ≡ NoMemory)
    → ((error.code ≡ NoMemory → ⊥) → IsNoTraceText bytes error) → IsTraceFault bytes name fault
no_trace_told bytes name error fault told memory none = elim told [
  | inl at ↦ inl (error, at, none (λ wanting. let bad : Text name error ≡ OutOfMemory = sym at ∙ memory.1 wanting in cc))
  | inr at ↦ inr (inr at)
]

-- all of the bytes are the text that was read
pub whole : (bytes : List ℕ) (t : History) (n : ℕ) → IsTrace t × (take n bytes ≡ text t) → length bytes ≤ n → IsTrace t × (bytes ≡ text t)
whole bytes t n found past = (found.0, sym (take_all n bytes past) ∙ found.1)

module _ (held : Contents) (name : Name) (bytes : List ℕ) (holds : HoldsBytes held name.now bytes) where
  -- such a fault is one of a check
  pub check_told : (read : List ℕ) (fault : Fault) → read ≡ bytes → IsTraceFault read name fault → IsCheckFault held name fault
  check_told read fault same (inl (error, at, none)) = subst (IsCheckFault held name) (sym at) (refl, inr (of_file (held name.now) bytes (λ known. IsNoTraceText known error) holds (subst (λ known. IsNoTraceText known error) same none)))
  check_told read fault same (inr (inl (at, more))) = subst (IsCheckFault held name) (sym at) (refl, of_file (held name.now) bytes GoOnBehindATrace holds (subst GoOnBehindATrace same more))
  check_told read fault same (inr (inr at)) = subst (IsCheckFault held name) (sym at) tt

  -- and of a check of messages
  pub log_told : (skip : Bool) (source : List ℕ) (fault : Fault) → source ≡ bytes → IsMeantFault skip source name fault → IsLogFault held skip name fault
  log_told skip source fault same (inl (error, at, none)) =
      subst (IsLogFault held skip name) (sym at) (refl, inr (of_file (held name.now) bytes NoLogAt holds (subst NoLogAt same (error, refl, none))))
    where
      NoLogAt : List ℕ → Type 0
      NoLogAt known = (there : TextError) × (at_source skip source error ≡ at_source skip known there) × IsNoText (text_meant skip known) there
  log_told skip source fault same (inr (inl (at, more))) =
      subst (IsLogFault held skip name) (sym at) (refl, of_file (held name.now) bytes (λ known. GoOnBehindATrace (text_meant skip known)) holds (subst (λ known. GoOnBehindATrace (text_meant skip known)) same more))
  log_told skip source fault same (inr (inr at)) = subst (IsLogFault held skip name) (sym at) tt

-- a fault of what is meant is told at its line of the file
pub meant_told : (skip : Bool) (source text : List ℕ) (name : Name) (fault told : Fault) → text ≡ text_meant skip source → told ≡ sourced skip source fault → IsTextFaultOf text name fault → IsMeantFault skip source name told
meant_told skip source text name fault told is same (inl (error, at, none)) = inl (error, same ∙ ap (sourced skip source) at, subst (λ t. IsNoText t error) is none)
meant_told skip source text name fault told is same (inr (inl (at, more))) = inr (inl (same ∙ ap (sourced skip source) at, subst GoOnBehindATrace is more))
meant_told skip source text name fault told is same (inr (inr at)) = inr (inr (same ∙ ap (sourced skip source) at))

pub meant_is_not_write : (skip : Bool) (source : List ℕ) (name : Name) (fault : Fault) → IsMeantFault skip source name fault → fault ≡ CannotWrite → ⊥
meant_is_not_write skip source name fault (inl (error, at, none)) write = let bad : Text name (at_source skip source error) ≡ CannotWrite = sym at ∙ write in cc
meant_is_not_write skip source name fault (inr (inl (at, more))) write = let bad : BytesAfterTrace name ≡ CannotWrite = sym at ∙ write in cc
meant_is_not_write skip source name fault (inr (inr at)) write = let bad : OutOfMemory ≡ CannotWrite = sym at ∙ write in cc

pub trace_is_not_write : (bytes : List ℕ) (name : Name) (fault : Fault) → IsTraceFault bytes name fault → fault ≡ CannotWrite → ⊥
trace_is_not_write bytes name fault (inl (error, at, none)) write = let bad : Text name error ≡ CannotWrite = sym at ∙ write in cc
trace_is_not_write bytes name fault (inr (inl (at, more))) write = let bad : BytesAfterTrace name ≡ CannotWrite = sym at ∙ write in cc
trace_is_not_write bytes name fault (inr (inr at)) write = let bad : OutOfMemory ≡ CannotWrite = sym at ∙ write in cc
