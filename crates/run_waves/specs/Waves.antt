-- The waves of a run: the machine at reset, and behind each event what it changed.
use Rattle.std.specs.Prelude.{ℕ, ◌≡◌, ◌+◌, List, [], ◌∷◌, ◌++◌, codes, Option}
use Rattle.std.specs.Io.KnownBytes.{Appends}
use Rattle.std.specs.List.{flat_map}
use Rattle.coherent_machine.specs.Machine.{IsFirstRefusal, Replayed, replayed_from}
use Rattle.elf_loader.specs.Image.{Initial}
use Rattle.machine_model.specs.Events.{happens}
use Rattle.machine_model.specs.Views.{State, opening}
use Rattle.machine_types.specs.declared.config.Config.{Config}
use Rattle.machine_types.specs.declared.event.Event.{Event}
use Rattle.text_fields.specs.Writing.{Begins}
use Rattle.run_waves.specs.declared.errors.WavesError.{WavesError}
use Rattle.run_waves.specs.declared.errors.WavesError.TheVariants.{Replay, NoMemory, Writing}
use Rattle.run_waves.specs.declared.groups.Group.{Group}
use Rattle.run_waves.specs.Naming.{declared}
use Rattle.run_waves.specs.Telling.{dumped, event_lines}
use Rattle.run_waves.specs.Touched.{parts_of}

-- ---- the text

-- the time is a line of the script: its first line stands for the machine at reset
abbrev pub head : List ℕ
head = codes "$version rvtl $end\n$comment time N is behind the event on line N of the script, 1 is reset $end\n$timescale 1 ns $end\n"

abbrev pub declared_end : List ℕ
declared_end = codes "$enddefinitions $end\n#1\n$dumpvars\n"

abbrev pub dumped_end : List ℕ
dumped_end = codes "$end\n"

-- the parts with their values in a state
abbrev pub opening_lines : List Group → State → List ℕ
opening_lines parts s = head ++ (flat_map declared parts ++ (declared_end ++ (flat_map (dumped s) parts ++ dumped_end)))

-- what each event changes, the first of which has this index
abbrev pub lines_from : ℕ → State → List Event → List ℕ
lines_from index s [] = []
lines_from index s (e ∷ events) = event_lines index s e ++ lines_from (index + 1) (happens s e) events

-- of these parts of a machine, from this state on
abbrev pub waves_from : List Group → State → List Event → List ℕ
waves_from parts s events = opening_lines parts s ++ lines_from 0 s events

-- ---- what a call answers

-- the events lead from reset to a state, and the text is the waves of the parts that it tells of
pub record AreWaves (image : Initial) (config : Config) (events : List Event) (text : List ℕ) : Type 0 where
  pub reached : State
  pub leads : replayed_from 0 (opening image config) events ≡ Replayed.Reached reached
  pub text_is : text ≡ waves_from (parts_of reached) (opening image config) events

-- the waves were appended
pub record AreWritten (image : Initial) (config : Config) (events : List Event) (old new : Option (List ℕ)) : Type 0 where
  pub text : List ℕ
  pub waves : AreWaves image config events text
  pub sent : Appends old new text

-- a beginning of them was appended
pub record AreBegun (image : Initial) (config : Config) (events : List Event) (old new : Option (List ℕ)) : Type 0 where
  pub text : List ℕ
  pub waves : AreWaves image config events text
  pub begun : Begins old new text

-- why waves aren't whole: nothing was written where no machine was made or an event is refused, and a beginning, perhaps nothing, where memory was refused later or the writer had a fault
abbrev pub AreUnfinished : Initial → Config → List Event → Option (List ℕ) → Option (List ℕ) → WavesError → Type 0
AreUnfinished image config events old new (Replay error) = (new ≡ old) × IsFirstRefusal (opening image config) events error
AreUnfinished image config events old new NoMemory = AreBegun image config events old new
AreUnfinished image config events old new (Writing fault) = AreBegun image config events old new
