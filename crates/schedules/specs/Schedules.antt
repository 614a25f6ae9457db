-- What lists of events lead to, and what is told of it.
use Rattle.std.specs.Prelude.{◌≡◌, ◌⊎◌, List, [], ◌∷◌, ◌++◌, Option, Some, None, Ok, Err}
use Rattle.std.specs.declared.result.Result.{Result}
use Rattle.elf_loader.specs.Image.{Initial}
use Rattle.coherent_machine.specs.Machine.{Replayed, replayed_from}
use Rattle.coherent_machine.specs.Moves.{AreMoves}
use Rattle.flat_model.specs.Shown.{HartEnd, results}
use Rattle.machine_types.specs.declared.config.Config.{Config}
use Rattle.machine_types.specs.declared.event.Event.{Event}
use Rattle.machine_types.specs.declared.outcome.Outcome.{Outcome}
use Rattle.machine_model.specs.Events.{Verdict, after_events}
use Rattle.machine_model.specs.Views.{State, opening}
use Rattle.coherent_machine.specs.Applying.{Answers}
use Rattle.coherent_machine.specs.TheVariants.{BadEvent, Limit}
use Rattle.schedules.specs.declared.errors.Fault.{Fault}
use Rattle.schedules.specs.declared.errors.Fault.TheVariants as fault

-- where events lead from reset
abbrev pub led : Initial → Config → List Event → State
led image config events = after_events (opening image config) events

-- no event is refused on the way there
abbrev pub Replays : Initial → Config → List Event → Type 0
Replays image config events = replayed_from 0 (opening image config) events ≡ Replayed.Reached (led image config events)

-- each of the events changes the machine on the way there
abbrev pub EachMoves : Initial → Config → List Event → Type 0
EachMoves image config events = AreMoves (opening image config) events

-- none of the events is refused, each changes the machine, and they lead it from reset to where this holds
pub record LeadsThere (image : Initial) (config : Config) (Holds : State → Type 0) (events : List Event) : Type 0 where
  pub replays : Replays image config events
  pub moves : EachMoves image config events
  pub there : Holds (led image config events)

-- the machine's harts stand so, and put out the same
abbrev pub HasResults : List HartEnd → State → Type 0
HasResults outcome s = results s ≡ outcome

-- some events lead from one state to another
pub record Leads (s t : State) : Type 0 where
  pub events : List Event
  pub there : after_events s events ≡ t

-- ---- a machine with the events that changed it

pub record Played : Type 0 where
  pub machine : State
  pub events : List Event

-- the machine's own reset
abbrev pub start_of : Played → State
start_of p = opening p.machine.trace.image p.machine.views.config

-- the events lead to the machine, none is refused, and each changes it
pub record IsPlayed (p : Played) : Type 0 where
  pub leads : after_events (start_of p) p.events ≡ p.machine
  pub replays : replayed_from 0 (start_of p) p.events ≡ Replayed.Reached p.machine
  pub moves : AreMoves (start_of p) p.events

-- the event is kept behind the others, or left out
abbrev pub MayAdd : List Event → Event → List Event → Type 0
MayAdd old event new = (new ≡ old) ⊎ (new ≡ old ++ event ∷ [])

-- an event is answered as the machine does, but for want of memory, of which the list of events may have too little
abbrev pub AnswersAs : Verdict → State → Result (Option Outcome) Fault → State → Type 0
AnswersAs v old (Ok (Some o)) new = Answers v old (Ok o) new
AnswersAs v old (Ok None) new = Answers v old (Err BadEvent) new
AnswersAs v old (Err fault.Limit) new = Answers v old (Err Limit) new
AnswersAs v old (Err fault.NoMemory) new = Unit {0}
