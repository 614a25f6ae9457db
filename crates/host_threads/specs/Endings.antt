-- Why a worker takes no more turns.
use Rattle.std.specs.Prelude.{◌≡◌, ◌⊎◌, ◌≤◌, ◌^◌, ◌-◌, ◌&&◌, ℕ, Bool, true, List, [], ◌∷◌, ◌++◌, length, nat_le, Ok, Err, Option, Some, None, if◌then◌else◌}
use Rattle.std.specs.declared.result.Result.{Result}
use Rattle.host_threads.specs.declared.common.Common.{Common}
use Rattle.host_threads.specs.declared.ending.Ending.{Ending}
use Rattle.host_threads.specs.declared.ending.Ending.TheVariants.{Halted, Tries, Changes, Stopped, Failed}
use Rattle.host_threads.specs.declared.report.Fault.{Fault}
use Rattle.host_threads.specs.declared.report.Fault.TheVariants as fault
use Rattle.locked_fabric.specs.Port.{Left}
use Rattle.machine_types.specs.declared.event.Event.{Event}
use Rattle.machine_types.specs.declared.limits.TheConstants.{MAX_CHANGES}
use Rattle.machine_types.specs.declared.outcome.Outcome.{Outcome}
use Rattle.machine_model.specs.Events.{verdict}
use Rattle.machine_model.specs.Events.Verdict.{IsBad}
use Rattle.machine_model.specs.Views.{State}
use Rattle.locked_fabric.specs.ApplyError.{ApplyError}
use Rattle.locked_fabric.specs.TheVariants as apply
use Rattle.progress_board.specs.Seat.{harts_of}
use Rattle.progress_board.specs.declared.view.View.{View}

-- the machine has changed as often as it may
abbrev pub is_spent : State → Bool
is_spent s = nat_le MAX_CHANGES s.views.changes

-- the fault that an answer is: none where an outcome came, or a limit was met
abbrev pub fault_of : Result Outcome ApplyError → Option Fault
fault_of (Ok outcome) = None
fault_of (Err apply.Limit) = None
fault_of (Err apply.NoMemory) = Some fault.NoMemory
fault_of (Err apply.BadEvent) = Some fault.BadEvent

-- the outcome that came, if one did
abbrev pub outcome_of : Result Outcome ApplyError → Option Outcome
outcome_of (Ok outcome) = Some outcome
outcome_of (Err error) = None

-- why no turn follows: a fault, or a machine that changes no more where nothing changed
abbrev pub ending_of : Option Fault → (kept spent : Bool) → Option Ending
ending_of (Some fault) kept spent = Some (Failed fault)
ending_of None kept spent = if kept && spent then Some Changes else None

-- the last of the numbers that a seat drew isn't below the limit, or it draws no more
abbrev pub HasRunOut : (limit : ℕ) → (drawn : List ℕ) → Type 0
HasRunOut limit drawn =
    ((earlier : List ℕ) × (number : ℕ) × (limit ≤ number) × (drawn ≡ earlier ++ number ∷ []))
    ⊎ (length drawn ≡ 2 ^ 32)

-- a machine was found that changes no more
abbrev pub WasSpent : Type 0
WasSpent = Left (λ left. is_spent left.machine ≡ true)

-- an event was tried that the machine hasn't
abbrev pub WasBad : Type 0
WasBad = Left (λ left. (event : Event) × (verdict left.machine event ≡ IsBad))

-- the worker's reason to end so: the bits of all harts were seen, no number is left, the machine changes no more, or it hasn't the event
abbrev pub IsReason : Common → View → Ending → Type 0
IsReason common seat Halted = seat.bits_seen ≡ 2 ^ harts_of common.board - 1
IsReason common seat Tries = HasRunOut common.limit seat.drawn
IsReason common seat Changes = WasSpent
IsReason common seat (Failed fault.BadEvent) = WasBad
IsReason common seat (Failed fault.NoMemory) = Unit {0}
IsReason common seat Stopped = Unit {0}
