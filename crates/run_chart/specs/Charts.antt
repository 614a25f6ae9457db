-- What a call that writes a chart has put out.
use Rattle.std.specs.Prelude.{ℕ, ◌≡◌, List, Option}
use Rattle.std.specs.Io.KnownBytes.{Appends}
use Rattle.run_chart.specs.Picture.{IsPicture}
use Rattle.run_chart.specs.declared.rows.Story.{Story}
use Rattle.event_stream.specs.Machine.{IsFirstRefusal}
use Rattle.elf_loader.specs.Image.{Initial}
use Rattle.elf_symbols.specs.Named.{Named}
use Rattle.machine_model.specs.Views.{opening}
use Rattle.machine_types.specs.declared.config.Config.{Config}
use Rattle.machine_types.specs.declared.event.Event.{Event}
use Rattle.text_fields.specs.Writing.{Begins}
use Rattle.run_chart.specs.declared.errors.ChartError.{ChartError}
use Rattle.run_chart.specs.declared.errors.ChartError.TheVariants.{Replay, TooManyRows, NoMemory, Writing}
use Rattle.run_chart.specs.Stories.{IsOverfull, IsStory}

-- the text is the picture of what the events do from reset, with these names for addresses
pub record IsChart (names : List Named) (image : Initial) (config : Config) (events : List Event) (address : Option ℕ) (style text : List ℕ) : Type 0 where
  pub story : Story
  pub told : IsStory image config events address story
  pub picture : IsPicture names story style text

-- it was appended
pub record IsDrawn (names : List Named) (image : Initial) (config : Config) (events : List Event) (address : Option ℕ) (style : List ℕ) (old new : Option (List ℕ)) : Type 0 where
  pub text : List ℕ
  pub chart : IsChart names image config events address style text
  pub sent : Appends old new text

-- a beginning of it was appended
pub record IsBegun (names : List Named) (image : Initial) (config : Config) (events : List Event) (address : Option ℕ) (style : List ℕ) (old new : Option (List ℕ)) : Type 0 where
  pub text : List ℕ
  pub chart : IsChart names image config events address style text
  pub begun : Begins old new text

-- why a chart isn't there: nothing was written where no machine was made, an event is refused, the picture would be too large or memory was refused, and a beginning where the writer had a fault
abbrev pub IsUndrawn : List Named → Initial → Config → List Event → Option ℕ → List ℕ → Option (List ℕ) → Option (List ℕ) → ChartError → Type 0
IsUndrawn names image config events address style old new (Replay error) = (new ≡ old) × IsFirstRefusal (opening image config) events error
IsUndrawn names image config events address style old new TooManyRows = (new ≡ old) × IsOverfull image config events address
IsUndrawn names image config events address style old new NoMemory = new ≡ old
IsUndrawn names image config events address style old new (Writing fault) = IsBegun names image config events address style old new
