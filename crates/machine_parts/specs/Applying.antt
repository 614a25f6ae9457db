-- What an event's verdict lets a machine answer and become.
use Rattle.std.specs.Prelude.{ℕ, ◌≡◌, ◌≢◌, ◌⊎◌, Ok, Err, if◌then◌else◌}
use Rattle.std.specs.declared.result.Result.{Result}
use Rattle.machine_model.specs.declared.act.Plan.{Plan}
use Rattle.machine_model.specs.declared.act.Plan.TheVariants.{Stays, Changes}
use Rattle.machine_types.specs.declared.event.Event.{Event}
use Rattle.machine_types.specs.declared.outcome.Outcome.{Outcome}
use Rattle.machine_types.specs.declared.outcome.Outcome.TheVariants.{Stopped}
use Rattle.machine_model.specs.Events.{Verdict, hart_of, is_good, is_limited, plan_of}
use Rattle.machine_model.specs.Events.Verdict.{IsBad, Keeps, IsLimited, Moves}
use Rattle.machine_model.specs.Views.{State}
use Rattle.machine_parts.specs.declared.errors.ApplyError.{ApplyError}
use Rattle.machine_parts.specs.declared.errors.ApplyError.TheVariants.{BadEvent, Limit, NoMemory}

-- the only answers to an event: what it comes to, or want of memory with nothing changed where it would change the machine, but a stop wants none
abbrev pub Answers : Verdict → State → Result Outcome ApplyError → State → Type 0
Answers IsBad old result new = (result ≡ Err BadEvent) × (new ≡ old)
Answers (Keeps o) old result new = (result ≡ Ok o) × (new ≡ old)
Answers IsLimited old result new = (result ≡ Err Limit) × (new ≡ old)
Answers (Moves o moved) old result new = ((result ≡ Ok o) × (new ≡ moved)) ⊎ ((result ≡ Err NoMemory) × (new ≡ old) × ((code : ℕ) → o ≢ Stopped code))

-- the answer to an event where memory is not wanting
abbrev pub answer_to : Verdict → Result Outcome ApplyError
answer_to IsBad = Err BadEvent
answer_to (Keeps o) = Ok o
answer_to IsLimited = Err Limit
answer_to (Moves o moved) = Ok o

-- what an event comes to under the limits, or the error that stands against it
abbrev pub decided_by : State → ℕ → Plan → Result Plan ApplyError
decided_by s h (Stays o) = Ok (Stays o)
decided_by s h (Changes a) = if is_limited s h a then Err Limit else Ok (Changes a)

abbrev pub decided : State → Event → Result Plan ApplyError
decided s e = if is_good s e then decided_by s (hart_of e) (plan_of s e) else Err BadEvent

-- the errors by their numbers, in the order of testing
abbrev pub apply_error_number : ApplyError → ℕ
apply_error_number BadEvent = 1
apply_error_number Limit = 2
apply_error_number NoMemory = 3
