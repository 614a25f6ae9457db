-- What a call that writes a stream answers.
use Rattle.std.specs.Prelude.{ℕ, ◌≡◌, List, ◌∷◌, ◌++◌, length, Option}
use Rattle.std.specs.Io.KnownBytes.{Appends}
use Rattle.coherent_machine.specs.Machine.{Refuses}
use Rattle.elf_loader.specs.Image.{Initial}
use Rattle.elf_symbols.specs.Named.{Named}
use Rattle.machine_types.specs.declared.config.Config.{Config}
use Rattle.machine_types.specs.declared.event.Event.{Event}
use Rattle.machine_model.specs.Events.{Verdict, verdict}
use Rattle.machine_model.specs.Events.Verdict.{Keeps}
use Rattle.machine_model.specs.Views.{State, opening}
use Rattle.text_fields.specs.Writing.{Begins}
use Rattle.event_stream.specs.declared.errors.StreamError.{StreamError}
use Rattle.event_stream.specs.declared.errors.StreamError.TheVariants as errors
use Rattle.event_stream.specs.declared.strictness.Strictness.{Strictness}
use Rattle.event_stream.specs.declared.strictness.Strictness.TheVariants.{Strict}
use Rattle.event_stream.specs.Reports.{StreamEnding, ending}
use Rattle.event_stream.specs.Streams.{stream_of, stream_up_to}

-- the events before this index are all told, and lead to a state in which the event of this index has such a verdict; what the told events come to as a text was appended
pub record IsCut (strictness : Strictness) (s : State) (events : List Event) (index : ℕ) (IsSuch : Verdict → Type 0) (text : List Event → List ℕ) (old new : Option (List ℕ)) : Type 0 where
  pub before : List Event
  pub event : Event
  pub later : List Event
  pub state : State
  pub whole : before ++ event ∷ later ≡ events
  pub place : length before ≡ index
  pub leads : ending strictness 0 s before ≡ StreamEnding.Reached state
  pub such : IsSuch (verdict state event)
  pub sent : Appends old new (text before)

-- all events are told, and lead to this state; the stream was appended
pub record IsWholeStream (names : List Named) (strictness : Strictness) (image : Initial) (config : Config) (events : List Event) (old new : Option (List ℕ)) (s : State) : Type 0 where
  pub leads : ending strictness 0 (opening image config) events ≡ StreamEnding.Reached s
  pub sent : Appends old new (stream_of names strictness image config events)

-- why a stream isn't whole: no machine was made, and nothing went out; an event is refused, or a strict stream met one that changes nothing, and the stream up to there went out; or the writer had a fault, and a beginning of the stream did
abbrev pub IsStreamUnfinished : List Named → Strictness → Initial → Config → List Event → Option (List ℕ) → Option (List ℕ) → StreamError → Type 0
IsStreamUnfinished names strictness image config events old new errors.NoMemory = new ≡ old
IsStreamUnfinished names strictness image config events old new (errors.Refused index error) =
    IsCut strictness (opening image config) events index (Refuses error) (stream_up_to names strictness image config) old new
IsStreamUnfinished names strictness image config events old new (errors.Idle index outcome) =
    (strictness ≡ Strict) × IsCut strictness (opening image config) events index (λ v. v ≡ Keeps outcome) (stream_up_to names strictness image config) old new
IsStreamUnfinished names strictness image config events old new (errors.Writing fault) = Begins old new (stream_of names strictness image config events)
