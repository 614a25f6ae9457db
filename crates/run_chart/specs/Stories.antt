-- What a chart tells of a run.
use Rattle.std.specs.Prelude.{ℕ, ◌≡◌, ◌⊎◌, ◌+◌, ◌<◌, ◌++◌, List, Option, Some, None, length, map}
use Rattle.event_stream.specs.Machine.{IsFirstRefusal, Replayed, replayed_from}
use Rattle.elf_loader.specs.Image.{Initial}
use Rattle.machine_model.specs.Events.{happens}
use Rattle.machine_model.specs.Views.{State, opening}
use Rattle.machine_types.specs.declared.config.Config.{Config}
use Rattle.machine_types.specs.declared.event.Event.{Event}
use Rattle.run_chart.specs.declared.rows.Story.{Story}
use Rattle.tl_types.specs.Line.{line_of}
use Rattle.tl_types.specs.declared.line.LineSize.{LineSize}
use Rattle.run_chart.specs.declared.errors.ChartError.{ChartError}
use Rattle.run_chart.specs.declared.errors.ChartError.TheVariants.{Replay, TooManyRows, NoMemory, Writing}
use Rattle.run_chart.specs.declared.gathering.Gathered.{Gathered}
use Rattle.run_chart.specs.Copies.{lines_of}
use Rattle.run_chart.specs.Rows.{Told, line_behind, rows_at, rows_of, told}

-- an event of this index is told: by its row, if it has one
pub record IsRowTold (size : LineSize) (only : Option ℕ) (columns : List ℕ) (index : ℕ) (s : State) (e : Event) (new : State) (before after : Gathered) : Type 0 where
  pub rows_are : map told after.rows.items ≡ map told before.rows.items ++ rows_at size only columns before.line index s e
  pub line_is : after.line ≡ line_behind before.line (rows_at size only columns before.line index s e)
  pub leads : new ≡ happens s e

-- more rows, behind so many that end on this line of text, are more than 400 with them, or their text is of more than 65,535 lines
abbrev pub AreTooMany : ℕ → ℕ → List Told → Type 0
AreTooMany count line more = (400 < count + length more) ⊎ (65535 < line_behind line more)

-- the line of memory around an address
abbrev pub only_of : LineSize → Option ℕ → Option ℕ
only_of size None = None
only_of size (Some address) = Some (line_of size address)

-- the bars of a run that ended in a state: the lines of memory that messages are about
abbrev pub bars_in : LineSize → Option ℕ → State → List ℕ
bars_in size address reached = lines_of (only_of size address) reached.trace.log

-- its rows
abbrev pub rows_to : Initial → Config → List Event → Option ℕ → State → List Told
rows_to image config events address reached =
    rows_of config.line (only_of config.line address) (bars_in config.line address reached) 0 0 (opening image config) events

-- a picture has at most 400 rows, in at most 65,535 lines of text, and at most 400 bars
abbrev pub IsTooLarge : Initial → Config → List Event → Option ℕ → State → Type 0
IsTooLarge image config events address reached = AreTooMany 0 0 (rows_to image config events address reached) ⊎ (400 < length (bars_in config.line address reached))

-- the events lead from reset to a state; the rows are theirs, in their order, and the bars are of the lines of memory that messages are about
pub record IsStory (image : Initial) (config : Config) (events : List Event) (address : Option ℕ) (story : Story) : Type 0 where
  pub reached : State
  pub leads : replayed_from 0 (opening image config) events ≡ Replayed.Reached reached
  pub harts_are : story.harts ≡ length reached.trace.statuses
  pub size_is : story.size ≡ config.line
  pub columns_are : story.columns.items ≡ bars_in config.line address reached
  pub rows_are : map told story.rows.items ≡ rows_to image config events address reached
  pub fits : IsTooLarge image config events address reached → ⊥

-- the first of the events, or all, lead to a state, and the picture of that would be too large
pub record IsOverfull (image : Initial) (config : Config) (events : List Event) (address : Option ℕ) : Type 0 where
  pub first : List Event
  pub later : List Event
  pub whole : first ++ later ≡ events
  pub reached : State
  pub leads : replayed_from 0 (opening image config) first ≡ Replayed.Reached reached
  pub large : IsTooLarge image config first address reached

-- why nothing is told: no machine was made or an event is refused, or the picture would be too large, or memory was refused
abbrev pub IsUntold : Initial → Config → List Event → Option ℕ → ChartError → Type 0
IsUntold image config events address (Replay error) = IsFirstRefusal (opening image config) events error
IsUntold image config events address TooManyRows = IsOverfull image config events address
IsUntold image config events address NoMemory = Unit {0}
IsUntold image config events address (Writing fault) = ⊥
