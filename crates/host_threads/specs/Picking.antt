-- What is left of a turn's pick, and what the turn is told of it.
use Rattle.std.specs.Prelude.{ℕ, ◌≡◌, ◌⊎◌, ◌==◌, ◌&&◌, Bool, false, true, IsTrue, Ok, Option, Some, None, if◌then◌else◌}
use Rattle.std.specs.declared.result.Result.{Result}
use Rattle.elf_loader.specs.Image.{Initial}
use Rattle.hart.specs.Local.{private_row_from}
use Rattle.hart.specs.declared.state.Hart.{Hart}
use Rattle.hart.specs.declared.status.Status.{Status}
use Rattle.host_threads.specs.Endings.{outcome_of}
use Rattle.host_threads.specs.Telling.{is_full}
use Rattle.locked_fabric.specs.Adopting.{local_of}
use Rattle.locked_fabric.specs.ApplyError.{ApplyError}
use Rattle.locked_fabric.specs.FabricState.{Answered, FabricState, IsKept}
use Rattle.locked_fabric.specs.Port.{IsLast, Left}
use Rattle.machine_model.specs.Views.{State, node_at}
use Rattle.machine_types.specs.declared.event.Event.{Event}
use Rattle.machine_types.specs.declared.event.Event.TheVariants.{Step, Local}
use Rattle.machine_types.specs.declared.limits.TheConstants.{MAX_ROW}
use Rattle.machine_types.specs.declared.outcome.Outcome.{Outcome}
use Rattle.machine_types.specs.declared.outcome.Outcome.TheVariants.{Retired}
use Rattle.rv32_exec.specs.declared.actions.Action.{Action}
use Rattle.rv32_exec.specs.declared.actions.Action.TheVariants as action

-- the event is of the hart's instructions, by which its list grows
abbrev pub is_instruction_of : (hart : ℕ) → Event → Bool
is_instruction_of hart (Step h) = h == hart
is_instruction_of hart (Local h count) = h == hart
is_instruction_of hart _ = false

-- the hart was seen, and its list was full
abbrev pub was_full : Option (ℕ × Status) → Bool
was_full None = false
was_full (Some seen) = is_full seen.0

-- no instruction of the hart, once its list is full, and else what was picked
abbrev pub left_of : (seen : Option (ℕ × Status)) → (hart : ℕ) → (picked : Option Event) → Option Event
left_of seen hart None = None
left_of seen hart (Some event) = if was_full seen && is_instruction_of hart event then None else Some event

-- an instruction that is to touch no memory, fence nothing and call nothing, and doesn't stop
abbrev pub is_private : Option Action → Bool
is_private (Some action.Private) = true
is_private _ = false

-- ---- what is picked

-- the hart's next step was picked, from where the hart stands
abbrev pub IsStep : (hart : ℕ) → State → Option Event → (stood : Hart) → Type 0
IsStep hart machine left stood = (left ≡ Some (Step hart)) × (stood ≡ (node_at machine hart).hart)

-- what a turn of a hart picks, by the machine and what came of its last event, of which this is left; a step from where the hart stands, where it is to go on alone
pub record IsLeftOfPick {T : Type 0} (Picks : T → State → Option Outcome → Option Event → T → Type 0) (hart : ℕ) (seen : Option (ℕ × Status)) (old : T) (machine : State) (last : Option Outcome) (left : Option Event) (new : T) (alone : Bool) (stood : Hart) : Type 0 where
  pub asked : Option Event
  pub picks : Picks old machine last asked new
  pub left_is : left ≡ left_of seen hart asked
  pub step : IsTrue alone → IsStep hart machine left stood

-- ---- what comes of it

-- a fabric answered so to the event
abbrev pub WasAnswered : Event → Result Outcome ApplyError → Type 0
WasAnswered event came = (old : FabricState) × IsKept old × (new : FabricState) × Answered old event came new

-- the private row from where the hart stood retired, and stands last in the journal
abbrev pub WentAlone : Initial → (stood : Hart) → Result Outcome ApplyError → Type 0
WentAlone image stood came =
    let row = private_row_from image stood MAX_ROW in
    (came ≡ Ok Retired) × Left (IsLast (local_of row.first.id row))

-- it came of the event, or, of the hart's step, of a private row in its place
abbrev pub CameOf : Initial → (hart : ℕ) → State → Event → Result Outcome ApplyError → Type 0
CameOf image hart machine event came = WasAnswered event came ⊎ ((event ≡ Step hart) × WentAlone image (node_at machine hart).hart came)

-- the turn is told what came of what was left of its pick, and nothing where nothing was
abbrev pub IsTold : Initial → (hart : ℕ) → State → (left : Option Event) → (told : Option Outcome) → Type 0
IsTold image hart machine None told = told ≡ None
IsTold image hart machine (Some event) told = (came : Result Outcome ApplyError) × CameOf image hart machine event came × (told ≡ outcome_of came)

-- the turn picked by some machine and by what came of its last event, what was left of that was tried, and it is told what came of it
pub record IsTurn {T : Type 0} (Picks : T → State → Option Outcome → Option Event → T → Type 0) (image : Initial) (hart : ℕ) (seen : Option (ℕ × Status)) (old : T) (last : Option Outcome) (new : T) (told : Option Outcome) : Type 0 where
  pub machine : State
  pub asked : Option Event
  pub picks : Picks old machine last asked new
  pub told_is : IsTold image hart machine (left_of seen hart asked) told
