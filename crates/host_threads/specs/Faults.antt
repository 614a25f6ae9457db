-- The fault of a run's threads.
use Rattle.std.specs.Prelude.{◌≡◌, ◌||◌, Bool, true, false, List, [], ◌∷◌, Option, Some, None}
use Rattle.std.specs.Option.{option_or}
use Rattle.host_threads.specs.Errors.{of_fault}
use Rattle.host_threads.specs.declared.ending.Ending.{Ending}
use Rattle.host_threads.specs.declared.ending.Ending.TheVariants.{Failed, Stopped}
use Rattle.host_threads.specs.declared.report.Fault.{Fault}
use Rattle.host_threads.specs.declared.report.RunError.{RunError}
use Rattle.host_threads.specs.declared.worker.Done.{Done}

-- the fault at which a thread ended
abbrev pub fault_in : Ending → Option Fault
fault_in (Failed fault) = Some fault
fault_in _ = None

-- the fault of the first of these threads that ended at one
abbrev pub first_fault : {L : Type 0} → List (Done L) → Option Fault
first_fault [] = None
first_fault (one ∷ done) = option_or (fault_in one.ending) (first_fault done)

-- a thread was stopped before it had ended
abbrev pub is_stopped : Ending → Bool
is_stopped Stopped = true
is_stopped _ = false

-- one of these threads was
abbrev pub was_stopped : {L : Type 0} → List (Done L) → Bool
was_stopped [] = false
was_stopped (one ∷ done) = is_stopped one.ending || was_stopped done

-- the error is that fault
abbrev pub IsFirstFault : {L : Type 0} → List (Done L) → RunError → Type 0
IsFirstFault done error = (fault : Fault) × (first_fault done ≡ Some fault) × (error ≡ of_fault fault)
