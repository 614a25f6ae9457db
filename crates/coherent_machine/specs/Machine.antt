-- What a machine is by its history, and what a list of events comes to from reset.
use Rattle.std.specs.Prelude.{ℕ, ◌≡◌, ◌≢◌, ◌+◌, List, [], ◌∷◌, ◌++◌, length}
use Rattle.elf_loader.specs.Image.{IsImage}
use Rattle.machine_types.specs.declared.event.Event.{Event as AnEvent}
use Rattle.machine_types.specs.declared.outcome.Outcome.TheVariants.{Stopped}
use Rattle.machine_model.specs.Events.{Verdict, after_events, happens, verdict}
use Rattle.machine_model.specs.Events.Verdict.{IsBad, Keeps, IsLimited, Moves}
use Rattle.machine_model.specs.Laws.{IsHeadline}
use Rattle.machine_model.specs.Views.{State, opening}
use Rattle.machine_parts.specs.declared.errors.ApplyError.{ApplyError}
use Rattle.machine_parts.specs.declared.errors.ApplyError.TheVariants.{BadEvent, Limit, NoMemory}
use Rattle.coherent_machine.specs.declared.errors.ReplayError.{ReplayError}
use Rattle.coherent_machine.specs.declared.errors.ReplayError.TheVariants as replay

-- some list of events leads here from reset of the state's own image and configuration
pub record IsReached (s : State) : Type 0 where
  pub events : List AnEvent
  pub loaded : IsImage s.trace.image
  pub leads : after_events (opening s.trace.image s.views.config) events ≡ s

-- the headline, by the machine's own image and configuration
abbrev pub KeepsHeadline : State → Type 0
KeepsHeadline s = IsHeadline s.trace.image s.views.config s

-- ---- lists of events

-- what a list of events comes to: a state, or the first event that is refused
pub data Replayed : Type 0 where
  Reached : (state : State) → Replayed
  Refused : (index : ℕ) (error : ApplyError) → Replayed

abbrev pub unless_refused : Verdict → ℕ → Replayed → Replayed
unless_refused IsBad i rest = Replayed.Refused i BadEvent
unless_refused IsLimited i rest = Replayed.Refused i Limit
unless_refused (Keeps o) i rest = rest
unless_refused (Moves o new) i rest = rest

abbrev pub replayed_from : ℕ → State → List AnEvent → Replayed
replayed_from i s [] = Replayed.Reached s
replayed_from i s (e ∷ events) = unless_refused (verdict s e) i (replayed_from (i + 1) (happens s e) events)

-- the verdict of an event that is refused with this error; only an event that would change the machine by more than a stop wants memory
abbrev pub Refuses : ApplyError → Verdict → Type 0
Refuses BadEvent v = v ≡ IsBad
Refuses Limit v = v ≡ IsLimited
Refuses NoMemory (Moves o new) = (code : ℕ) → o ≢ Stopped code
Refuses NoMemory _ = ⊥

-- the events before this index are all accepted, and where they lead the event of this index is refused with this error
pub record IsRefusedAt (s : State) (events : List AnEvent) (index : ℕ) (error : ApplyError) : Type 0 where
  pub before : List AnEvent
  pub event : AnEvent
  pub later : List AnEvent
  pub state : State
  pub whole : before ++ event ∷ later ≡ events
  pub place : length before ≡ index
  pub leads : replayed_from 0 s before ≡ Replayed.Reached state
  pub refused : Refuses error (verdict state event)

-- why a list of events isn't replayed from here: one is refused, or memory for a machine was
abbrev pub IsFirstRefusal : State → List AnEvent → ReplayError → Type 0
IsFirstRefusal s events (replay.Event index error) = IsRefusedAt s events index error
IsFirstRefusal s events replay.NoMemory = Unit {0}
