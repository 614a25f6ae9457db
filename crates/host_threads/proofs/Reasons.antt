-- Why no turn follows, by what came of the last one.
use Rattle.std.proofs.Common.{◌≡◌, ◌≢◌, ◌∙◌, ⊎_elim, ap, arith, inl, inr, refl, subst, sym, ℕ, Bool, true, false, length, IfSome, Option, None, Some, Ok, Err}
use Rattle.std.proofs.lemmas.Bool.Decides.{nat_tests}
use Rattle.std.specs.Prelude.{◌==◌, OnErr}
use Rattle.std.specs.declared.result.Result.{Result}
use Rattle.host_threads.specs.Endings.{HasRunOut, IsReason, WasBad, WasSpent, ending_of, fault_of, is_spent}
use Rattle.host_threads.specs.declared.common.Common.{Common}
use Rattle.host_threads.specs.declared.ending.Ending.{Ending}
use Rattle.host_threads.specs.declared.ending.Ending.TheVariants.{Halted, Tries, Changes, Stopped, Failed}
use Rattle.host_threads.specs.declared.report.Fault.{Fault}
use Rattle.host_threads.specs.declared.report.Fault.TheVariants as fault
use Rattle.locked_fabric.specs.FabricState.{Answered, Does, FabricState, IsKept}
use Rattle.locked_fabric.specs.Turns.{DrewInVain}
use Rattle.machine_types.specs.declared.event.Event.{Event}
use Rattle.machine_types.specs.declared.outcome.Outcome.{Outcome}
use Rattle.machine_model.specs.Events.{Verdict, verdict}
use Rattle.machine_model.specs.Events.Verdict.{IsBad, Keeps, IsLimited, Moves}
use Rattle.locked_fabric.specs.ApplyError.{ApplyError}
use Rattle.locked_fabric.specs.TheVariants as apply
use Rattle.progress_board.specs.declared.view.View.{View}

-- ---- another turn follows

pub fine : (fault : Option Fault) (kept spent : Bool) (ending : Option Ending) → ending ≡ ending_of fault kept spent → ending ≡ None → fault ≡ None
fine None kept spent ending is on = refl
fine (Some fault) kept spent ending is on = absurd (cc (sym is ∙ on))

-- ---- no turn follows: nothing counted

only_kept : (kept spent : Bool) → ending_of None kept spent ≢ None → kept ≡ true
only_kept true spent off = refl
only_kept false spent off = absurd (off refl)

same_of_test : (counted count : ℕ) → (counted == count) ≡ true → counted ≡ count
same_of_test counted count test = grind (arith, nat_tests)

unmoved : (came : Result Outcome ApplyError) (count counted : ℕ) (spent : Bool) → ending_of (fault_of came) (counted == count) spent ≢ None → OnErr came (counted ≡ count) → counted ≡ count
unmoved (Ok outcome) count counted spent off same = same_of_test counted count (only_kept (counted == count) spent off)
unmoved (Err error) count counted spent off same = same

pub uncounted : (came : Result Outcome ApplyError) (count counted : ℕ) (spent : Bool) (ending : Option Ending) → ending ≡ ending_of (fault_of came) (counted == count) spent → ending ≢ None
    → OnErr came (counted ≡ count) → counted ≡ count
uncounted came count counted spent ending is off same = unmoved came count counted spent (subst (λ (e : Option Ending). e ≢ None) is off) same

-- ---- the reason

module _ (common : Common) (seat : View) where
  spent_reason : (kept spent : Bool) → (spent ≡ true → WasSpent) → IfSome (ending_of None kept spent) (IsReason common seat)
  spent_reason true true was = was refl
  spent_reason true false was = tt
  spent_reason false true was = tt
  spent_reason false false was = tt

  by_answer : (came : Result Outcome ApplyError) (kept spent : Bool) → (fault_of came ≡ None → spent ≡ true → WasSpent) → (came ≡ Err apply.BadEvent → WasBad) → IfSome (ending_of (fault_of came) kept spent) (IsReason common seat)
  by_answer (Ok outcome) kept spent was bad = spent_reason kept spent (was refl)
  by_answer (Err apply.Limit) kept spent was bad = spent_reason kept spent (was refl)
  by_answer (Err apply.NoMemory) kept spent was bad = tt
  by_answer (Err apply.BadEvent) kept spent was bad = bad refl

  pub reason_of : (came : Result Outcome ApplyError) (kept spent : Bool) (ending : Option Ending) → ending ≡ ending_of (fault_of came) kept spent → (fault_of came ≡ None → spent ≡ true → WasSpent)
      → (came ≡ Err apply.BadEvent → WasBad) → IfSome ending (IsReason common seat)
  reason_of came kept spent ending is was bad = subst (λ (e : Option Ending). IfSome e (IsReason common seat)) (sym is) (by_answer came kept spent was bad)

  pub idle_reason : (spent : Bool) (ending : Option Ending) → ending ≡ ending_of None true spent → (spent ≡ true → WasSpent) → IfSome ending (IsReason common seat)
  idle_reason spent ending is was = subst (λ (e : Option Ending). IfSome e (IsReason common seat)) (sym is) (spent_reason true spent was)

-- a machine that was seen to be spent
pub was_spent : (left : FabricState) (spent : Bool) → IsKept left → spent ≡ is_spent left.machine → spent ≡ true → WasSpent
was_spent left spent kept saw is = (left, kept, sym saw ∙ is)

bad_by : (v : Verdict) (event : Event) (old new : FabricState) (result : Result Outcome ApplyError) → Does v event old result new → result ≡ Err apply.BadEvent → v ≡ IsBad
bad_by IsBad event old new result does is = refl
bad_by (Keeps o) event old new result does is = absurd (cc (sym does.0 ∙ is))
bad_by IsLimited event old new result does is = absurd (cc (sym does.0 ∙ is))
bad_by (Moves o moved) event old new result does is = absurd (cc (sym does.0 ∙ is))

pub was_bad : (event : Event) (came : Result Outcome ApplyError) (found left : FabricState) → IsKept found → Answered found event came left → came ≡ Err apply.BadEvent → WasBad
was_bad event came found left kept answered is = (
  found,
  kept,
  (
    event,
    ⊎_elim
        (λ refused. absurd (cc (sym refused.0 ∙ is)))
        (λ does. bad_by (verdict found.machine event) event found left came does is)
        answered,
  ),
)

-- a number was drawn in vain
pub run_out : (limit : ℕ) (old new : View) → DrewInVain limit old new → HasRunOut limit new.drawn
run_out limit old new =
    ⊎_elim
    (λ drew. inl (old.drawn, drew.0, drew.1, ap (λ (v : View). v.drawn) drew.2))
    (λ spent. inr (ap (λ (v : View). length v.drawn) spent.1 ∙ spent.0))

-- a reason stands while the seat sees and draws no more
pub reason_then : (common : Common) (old new : View) (ending : Ending) → new.bits_seen ≡ old.bits_seen → new.drawn ≡ old.drawn → IsReason common old ending → IsReason common new ending
reason_then common old new Halted seen drawn reason = seen ∙ reason
reason_then common old new Tries seen drawn reason = subst (HasRunOut common.limit) (sym drawn) reason
reason_then common old new Changes seen drawn reason = reason
reason_then common old new Stopped seen drawn reason = reason
reason_then common old new (Failed fault.NoMemory) seen drawn reason = reason
reason_then common old new (Failed fault.BadEvent) seen drawn reason = reason
