-- What an explanation has done, and which faults it tells.
use Rattle.event_stream.specs.Machine.{Refuses}
use Rattle.command_files.specs.Sizes.{config_of}
use Rattle.command_files.specs.Files.{HoldsScript, IsTheScriptIn}
use Rattle.command_files.specs.Contents.{Contents}
use Rattle.event_stream.specs.Lines.{script_line_of}
use Rattle.command_files.specs.declared.fault.Fault.TheVariants.{Event as Refused, NothingHappens}
use Rattle.command_files.specs.declared.fault.Fault.{Fault}
use Rattle.command_settings.specs.declared.wanted.Replay.{Replay}
use Rattle.elf_loader.specs.Image.{Initial}
use Rattle.elf_symbols.specs.Named.{Named}
use Rattle.command_files.specs.Named.{HoldsNamedImage}
use Rattle.event_stream.specs.Reports.{StreamEnding, ending}
use Rattle.event_stream.specs.Reports.StreamEnding.{Reached, Idle}
use Rattle.event_stream.specs.States.{state_lines}
use Rattle.event_stream.specs.Streams.{stream_of, stream_up_to}
use Rattle.event_stream.specs.Writing.{IsCut}
use Rattle.event_stream.specs.declared.errors.StreamError.TheVariants as stream
use Rattle.event_stream.specs.declared.errors.StreamError.{StreamError}
use Rattle.event_stream.specs.declared.strictness.Strictness.TheVariants.{Strict}
use Rattle.event_stream.specs.declared.strictness.Strictness.{Strictness}
use Rattle.event_stream.specs.Events.Verdict.{Keeps}
use Rattle.event_stream.specs.Events.{Verdict}
use Rattle.event_stream.specs.Views.{State, opening}
use Rattle.machine_types.specs.declared.config.Config.{Config}
use Rattle.machine_types.specs.declared.event.Event.{Event}
use Rattle.command_files.specs.Faults.{IsReplayFault, LeavesAtFault}
use Rattle.std.specs.Io.KnownBytes.{Appends}
use Rattle.std.specs.Prelude.{◌≡◌, ℕ, Bool, true, false, List, [], ◌++◌, Option}
use Rattle.text_fields.specs.Writing.{Begins}
use Rattle.trace_text.specs.declared.script.Script.{Script}

-- what a machine holds, where it is to be told
abbrev pub state_if : Bool → State → List ℕ
state_if false s = []
state_if true s = state_lines s

-- and so at the end of a stream that tells all events
abbrev pub state_behind : Bool → StreamEnding → List ℕ
state_behind with_state (Reached s) = state_if with_state s
state_behind with_state (StreamEnding.Refused index error) = []
state_behind with_state (Idle index outcome) = []

-- the stream, and behind it what the machine holds at its end
abbrev pub explanation : List Named → Strictness → Bool → Initial → Config → List Event → List ℕ
explanation names strictness with_state image config events = stream_of names strictness image config events ++ state_behind with_state (ending strictness 0 (opening image config) events)

-- all events are told, and lead to this state; the explanation was appended
pub record IsWholeExplanation (names : List Named) (strictness : Strictness) (with_state : Bool) (image : Initial) (config : Config) (events : List Event) (old new : Option (List ℕ)) : Type 0 where
  pub reached : State
  pub leads : ending strictness 0 (opening image config) events ≡ Reached reached
  pub sent : Appends old new (explanation names strictness with_state image config events)

-- what was appended is the explanation that the script in the one file means for the image in the other: of each event what it did, all of them, by the names in the image's file, and what the machine holds at the end, where it is to be told
pub record IsExplained (held : Contents) (replay : Replay) (strictness : Strictness) (with_state : Bool) (old new : Option (List ℕ)) : Type 0 where
  pub script : Script
  pub image : Initial
  pub names : List Named
  pub script_file : HoldsScript held replay.script.now script
  pub image_file : HoldsNamedImage held replay.raw replay.image.now script.kib image names
  pub only : IsTheScriptIn held replay.script.now script
  pub whole : IsWholeExplanation names strictness with_state image (config_of script replay.model) script.events old new

-- what of it went out where it is not whole: nothing, where no machine was made; all before the event that is refused, or that changes nothing and so ends a strict stream; or a beginning, where the output took no more
abbrev pub IsPartOfStream : List Named → Strictness → Bool → Initial → Config → List Event → Option (List ℕ) → Option (List ℕ) → StreamError → Type 0
IsPartOfStream names strictness with_state image config events old new stream.NoMemory = Appends old new []
IsPartOfStream names strictness with_state image config events old new (stream.Refused index error) =
    IsCut strictness (opening image config) events index (Refuses error) (stream_up_to names strictness image config) old new
IsPartOfStream names strictness with_state image config events old new (stream.Idle index outcome) =
    (strictness ≡ Strict) × IsCut strictness (opening image config) events index (λ v. v ≡ Keeps outcome) (stream_up_to names strictness image config) old new
IsPartOfStream names strictness with_state image config events old new (stream.Writing error) = Begins old new (explanation names strictness with_state image config events)

-- such a part went out of the explanation that the script in the one file means for the image in the other
pub record IsStreamCutOff (held : Contents) (replay : Replay) (strictness : Strictness) (with_state : Bool) (old new : Option (List ℕ)) : Type 0 where
  pub script : Script
  pub image : Initial
  pub names : List Named
  pub error : StreamError
  pub script_file : HoldsScript held replay.script.now script
  pub image_file : HoldsNamedImage held replay.raw replay.image.now script.kib image names
  pub part : IsPartOfStream names strictness with_state image (config_of script replay.model) script.events old new error

-- the event of this line of the script comes to such a verdict, and the stream up to there went out
pub record IsToldUpTo (held : Contents) (replay : Replay) (strictness : Strictness) (line : ℕ) (IsSuch : Verdict → Type 0) (old new : Option (List ℕ)) : Type 0 where
  pub script : Script
  pub image : Initial
  pub names : List Named
  pub script_file : HoldsScript held replay.script.now script
  pub image_file : HoldsNamedImage held replay.raw replay.image.now script.kib image names
  pub index : ℕ
  pub place : line ≡ script_line_of index
  pub cut : IsCut strictness (opening image (config_of script replay.model)) script.events index IsSuch (stream_up_to names strictness image (config_of script replay.model)) old new

-- as in a replay, but an event that is refused comes behind what the events before it did, and so does one that changes nothing, where the stream is strict
abbrev pub IsExplainFault : Contents → Replay → Strictness → Option (List ℕ) → Option (List ℕ) → Fault → Type 0
IsExplainFault held replay strictness old new (Refused file line error) = (file ≡ replay.script) × IsToldUpTo held replay strictness line (Refuses error) old new
IsExplainFault held replay strictness old new (NothingHappens file line outcome) =
    (file ≡ replay.script) × ((strictness ≡ Strict) × IsToldUpTo held replay strictness line (λ v. v ≡ Keeps outcome) old new)
IsExplainFault held replay strictness old new fault = IsReplayFault held replay fault

-- what a fault leaves on the output: the explanation cut off, where an event ends the stream or the output itself had the fault; else nothing, but where memory ran out
abbrev pub LeavesOfStream : Fault → Option (List ℕ) → Option (List ℕ) → Type 0 → Type 0
LeavesOfStream (Refused file line error) old new cut = cut
LeavesOfStream (NothingHappens file line outcome) old new cut = cut
LeavesOfStream fault old new cut = LeavesAtFault fault old new cut
