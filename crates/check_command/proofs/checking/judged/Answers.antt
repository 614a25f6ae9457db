use Rattle.std.proofs.Common.{◌≡◌, ◌∙◌, ◌↔◌, ◌≢◌, Bool, Err, IfErr, IfOk, List, None, Ok, Option, Result, Some, [], ap, false, if◌then◌else◌, length, nat_lt, refl, subst, sym, true}
use Rattle.std.specs.Prelude.{IsErrOf}
use Rattle.check_command.specs.Checking.{IsVerdict}
use Rattle.memory_model.specs.Traces.{IsLegalOrder, are_runs, completed, names_in}
use Rattle.memory_model.specs.Verdict.{fault_in}
use Rattle.machine_types.specs.declared.model.MemoryModel.{MemoryModel}
use Rattle.rvwmo_order.specs.Answers.{fault_told, refusal, refusal_of}
use Rattle.rvwmo_order.specs.declared.error.CheckError.{CheckError}
use Rattle.rvwmo_order.specs.declared.error.CheckError.TheVariants.{NoMemory, NotARun, TooLong}
use Rattle.rvwmo_order.specs.declared.verdict.Verdict.{Verdict}
use Rattle.rvwmo_order.specs.declared.verdict.Verdict.TheVariants.{Legal}
use Rattle.trace_recorder.specs.History.{History}
use Rattle.trace_recorder.specs.declared.operation.OpId.{OpId}
use Rattle.check_command.proofs.checking.judged.Goals as goal

some_refusal : (runs many : Bool) (rest : Option CheckError) → many ≡ true → None ≡ (if runs then (if many then Some TooLong else rest) else Some NotARun) → ⊥
some_refusal true many rest is none =
    let told : None ≡ Some TooLong = none ∙ ap (λ (b : Bool). if b then Some TooLong else rest) is in cc
some_refusal false many rest is none = cc

too_long : (r : Result Verdict CheckError) (model : MemoryModel) (t : History) (order : List OpId) → nat_lt 4096 (length (names_in t)) ≡ true
    → (¬ IsErrOf r NoMemory → refusal_of r ≡ refusal t order) → IfOk r (IsVerdict model t)
too_long (Ok v) model t order many refused =
    absurd (some_refusal (are_runs t) (nat_lt 4096 (length (names_in t))) _ many (refused (λ h. cc)))
too_long (Err e) model t order many refused = tt

verdict_on : (r : Result Verdict CheckError) (model : MemoryModel) (t : History) (order : List OpId) → order ≡ completed t
    → (¬ IsErrOf r NoMemory → refusal_of r ≡ refusal t order) → IfOk r (λ v. (v ≡ Legal) ↔ IsLegalOrder model t order) → IfOk r (λ v. fault_told v ≡ fault_in model t order) → IfOk r (IsVerdict model t)
verdict_on (Ok v) model t order is refused legal first = record {
  judged = subst (λ (o : List OpId). refusal t o ≡ None) is (sym (refused (λ h. cc)));
  legal = subst (λ (o : List OpId). (v ≡ Legal) ↔ IsLegalOrder model t o) is legal;
  first = subst (λ (o : List OpId). fault_told v ≡ fault_in model t o) is first;
}
verdict_on (Err e) model t order is refused legal first = tt

-- an order of so many is refused whatever stands in it
alike : (t : History) (order other : List OpId) → nat_lt 4096 (length (names_in t)) ≡ true → refusal t order ≡ refusal t other
alike t order other many = go (are_runs t) (nat_lt 4096 (length (names_in t))) _ _ many
  where
    go : (runs long : Bool) (rest more : Option CheckError) → long ≡ true
        → (if runs then (if long then Some TooLong else rest) else Some NotARun) ≡ (if runs then (if long then Some TooLong else more) else Some NotARun)
    go false long rest more is = refl
    go true true rest more is = refl
    go true false rest more is = cc

refused_on : (r : Result Verdict CheckError) (t : History) (order : List OpId) → refusal t order ≡ refusal t (completed t)
    → (¬ IsErrOf r NoMemory → refusal_of r ≡ refusal t order) → IfErr r (λ error. error ≢ NoMemory → refusal t (completed t) ≡ Some error)
refused_on (Ok v) t order same refused = tt
refused_on (Err e) t order same refused = λ other. sym (refused (λ is. other (cc)) ∙ same)

pub returns-then-has_too_many-clause-judged : goal.returns-then-has_too_many-clause-judged
returns-then-has_too_many-clause-judged c =
    too_long c.check_model.result c.args.model c.args.trace.now.history [] (sym c.has_too_many.ensures ∙ c.if-has_too_many.true) c.check_model.ensures.refused

pub returns-then-has_too_many-clause-refused : goal.returns-then-has_too_many-clause-refused
returns-then-has_too_many-clause-refused c =
    refused_on c.check_model.result c.args.trace.now.history [] (alike c.args.trace.now.history [] _ (sym c.has_too_many.ensures ∙ c.if-has_too_many.true)) c.check_model.ensures.refused

pub returns-clause-judged : goal.returns-clause-judged
returns-clause-judged c =
    verdict_on c.check_model-2.result c.args.model c.args.trace.now.history c.as_slice.result.now
    (c.as_slice.ensures.value ∙ c.in_ok-order.ensures) c.check_model-2.ensures.refused c.check_model-2.ensures.legal c.check_model-2.ensures.first

pub returns-clause-refused : goal.returns-clause-refused
returns-clause-refused c =
    refused_on c.check_model-2.result c.args.trace.now.history c.as_slice.result.now
    (ap (refusal c.args.trace.now.history) (c.as_slice.ensures.value ∙ c.in_ok-order.ensures)) c.check_model-2.ensures.refused
