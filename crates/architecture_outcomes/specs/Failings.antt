-- What shows that a hart stops, whatever the other harts do then, and when none that the machine stops is missing.
use Rattle.std.specs.Prelude.{ℕ, ◌≡◌, ◌⊎◌, ◌<◌, Bool, List, Option, None, Some, Contains, if◌then◌else◌, length, map}
use Rattle.std.specs.Global.{Vec}
use Rattle.architecture_outcomes.specs.declared.failing.Failing.{Failing}
use Rattle.architecture_outcomes.specs.declared.outcome.Way.{Way}
use Rattle.architecture_outcomes.specs.declared.outcome.Way.TheVariants.{Machine, Model, ModelAlone}
use Rattle.architecture_outcomes.specs.Outcomes.{IsDecided}
use Rattle.elf_loader.specs.Image.{Initial}
use Rattle.exploration_text.specs.ExplorerFailures.{IsRealFailure}
pub use Rattle.exploration_text.specs.ExplorerFailures.{HasEachFailure}
use Rattle.exploration_text.specs.FoundFailure.{FoundFailure}
use Rattle.exploration_text.specs.Realisation.{Realisation}
use Rattle.exploration_text.specs.Schedules.{led}
use Rattle.machine_types.specs.declared.config.Config.{Config}
use Rattle.machine_types.specs.declared.event.Event.{Event}
use Rattle.performed_words.specs.Outcomes.{Outcome as End}
use Rattle.window_search.specs.Failure.{Failure}
use Rattle.window_search.specs.HartStops.{HasStopped, machine_stops}
use Rattle.window_search.specs.Stops.{IsFailedRun}
use Rattle.window_search.specs.declared.failing.FailedRun.{FailedRun}

abbrev pub failures_in : List Failing → List Failure
failures_in = map (λ (f : Failing). f.failure)

-- ---- what shows a hart that stops

-- some flat events stop it so, and the machine's script, where there is one, leads the machine to where it has stopped so
abbrev pub IsScriptedStop : Initial → Config → (addresses : List ℕ) → Failure → Realisation → Type 0
IsScriptedStop image config addresses x script = (f : FoundFailure) × IsRealFailure image config addresses f × (f.failure ≡ x) × (f.script ≡ script)

-- no list of events leads the machine to where the hart has stopped so
abbrev pub NeverStops : Initial → Config → Failure → Type 0
NeverStops image config x = (events : List Event) → HasStopped (machine_stops (led image config events)) x → ⊥

-- where it is the model's alone, the machine never stops it so
abbrev pub IsShownBy : Initial → Config → (addresses : List ℕ) → Failure → Way → Type 0
IsShownBy image config addresses x (Machine script) = IsScriptedStop image config addresses x script
IsShownBy image config addresses x (ModelAlone trace) = IsFailedRun image config (record { failure = x; trace = trace }) × NeverStops image config x
IsShownBy image config addresses x (Model trace) = IsFailedRun image config (record { failure = x; trace = trace })

abbrev pub IsShown : Initial → Config → (addresses : List ℕ) → Failing → Type 0
IsShown image config addresses f = IsShownBy image config addresses f.failure f.way

-- it is told as the machine's, or as the model's alone
abbrev pub IsDecidedStop : Failing → Type 0
IsDecidedStop f = IsDecided f.way

-- ---- where they come from

abbrev pub of_failure : FoundFailure → Failing
of_failure f = record { failure = f.failure; way = Machine f.script }

abbrev pub of_run : (is_complete : Bool) → FailedRun → Failing
of_run is_complete r = record { failure = r.failure; way = if is_complete then ModelAlone r.trace else Model r.trace }

-- ---- which are told

-- the failure, where it is told as the machine's
abbrev pub stop_by : Failure → Way → Option Failure
stop_by x (Machine script) = Some x
stop_by x (ModelAlone trace) = None
stop_by x (Model trace) = None

abbrev pub machine_stop : Failing → Option Failure
machine_stop f = stop_by f.failure f.way

-- whatever events come in whatever order, where they stop a hart, it is told as one that the machine stops
abbrev pub TellsEachStop : Initial → Config → List Failing → Type 0
TellsEachStop image config failings = (events : List Event) (x : Failure) → HasStopped (machine_stops (led image config events)) x → Contains (map machine_stop failings) (Some x)

-- ---- what ends a search

-- a hart that stops is told, where that is sought, or one of these ends is sought
abbrev pub HasSought : (SeeksStops : Type 0) → (IsSought : End → Type 0) → List Failing → List End → Type 0
HasSought SeeksStops IsSought failings ends = (SeeksStops × (0 < length failings)) ⊎ ((end : End) × Contains ends end × IsSought end)
