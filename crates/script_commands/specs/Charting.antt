-- What drawing a script has done, and which faults it tells.
use Rattle.command_files.specs.Addresses.{address}
use Rattle.run_chart.specs.declared.sheet.TheConstants.{STYLE}
use Rattle.event_stream.specs.TheVariants as refusals
use Rattle.command_files.specs.Faults.{IsReplayFault, Name}
use Rattle.command_files.specs.Files.{HoldsImage, HoldsScript, IsTheScriptIn}
use Rattle.command_files.specs.Contents.{Contents}
use Rattle.command_files.specs.Named.{HoldsNamedImage}
use Rattle.command_files.specs.Sizes.{config_of}
use Rattle.command_files.specs.Status.{IsOutOfMemory}
use Rattle.event_stream.specs.Lines.{script_line_of}
use Rattle.command_files.specs.declared.fault.Fault.{Fault}
use Rattle.command_files.specs.declared.fault.Fault.TheVariants.{BadAddress, CannotWrite, Event, OutOfMemory, TooManyRows}
use Rattle.command_settings.specs.declared.wanted.Replay.{Replay}
use Rattle.elf_loader.specs.Image.{Initial}
use Rattle.elf_symbols.specs.Named.{Named}
use Rattle.event_stream.specs.ApplyError.{ApplyError}
use Rattle.run_chart.specs.Charts.{IsBegun, IsDrawn}
use Rattle.run_chart.specs.Stories.{IsOverfull}
use Rattle.run_chart.specs.declared.errors.ChartError.{ChartError}
use Rattle.run_chart.specs.declared.errors.ChartError.TheVariants as chart
use Rattle.std.specs.IoError.{error_kind}
use Rattle.std.specs.declared.io.ErrorKind.TheVariants as io
use Rattle.std.specs.Prelude.{◌≡◌, ◌⊎◌, ◌↔◌, ℕ, List, Option, Some, None}
use Rattle.trace_text.specs.declared.script.Script.{Script}

-- the address that the word names, where there is a word
abbrev pub IsAddress : Option Name → Option ℕ → Type 0
IsAddress None answer = answer ≡ None
IsAddress (Some word) answer = (n : ℕ) × ((address word.now ≡ Some n) × (answer ≡ Some n))

-- the word names no address
abbrev pub IsNoAddress : Option Name → Fault → Type 0
IsNoAddress None fault = ⊥
IsNoAddress (Some word) fault = (address word.now ≡ None) × (fault ≡ BadAddress word)

-- what was appended is the picture, in the colours and patterns of `STYLE`, of what the script in the one file does with the image in the other, with the names in that file
pub record IsCharted (held : Contents) (replay : Replay) (line : Option Name) (old new : Option (List ℕ)) : Type 0 where
  pub script : Script
  pub image : Initial
  pub names : List Named
  pub address : Option ℕ
  pub script_file : HoldsScript held replay.script.now script
  pub image_file : HoldsNamedImage held replay.raw replay.image.now script.kib image names
  pub only : IsTheScriptIn held replay.script.now script
  pub named : IsAddress line address
  pub drawn : IsDrawn names image (config_of script replay.model) script.events address STYLE.now old new

-- a beginning of that picture was appended, where the output took no more
pub record IsPictureCutOff (held : Contents) (replay : Replay) (line : Option Name) (old new : Option (List ℕ)) : Type 0 where
  pub script : Script
  pub image : Initial
  pub names : List Named
  pub address : Option ℕ
  pub script_file : HoldsScript held replay.script.now script
  pub image_file : HoldsNamedImage held replay.raw replay.image.now script.kib image names
  pub named : IsAddress line address
  pub begun : IsBegun names image (config_of script replay.model) script.events address STYLE.now old new

-- the picture of what the script in the one file does with the image in the other would be too large
pub record IsNotDrawable (held : Contents) (replay : Replay) (line : Option Name) : Type 0 where
  pub script : Script
  pub image : Initial
  pub address : Option ℕ
  pub script_file : HoldsScript held replay.script.now script
  pub image_file : HoldsImage held replay.raw replay.image.now script.kib image
  pub named : IsAddress line address
  pub large : IsOverfull image (config_of script replay.model) script.events address

-- which fault tells why a script's run is not drawn
abbrev pub IsDrawingFault : Name → ChartError → Fault → Type 0
IsDrawingFault script (chart.Replay refusal) told =
    ((told ≡ OutOfMemory) ⊎ ((index : ℕ) × (error : ApplyError) × (refusal ≡ refusals.Event index error) × (told ≡ Event script (script_line_of index) error)))
    × ((told ≡ OutOfMemory) ↔ IsOutOfMemory refusal)
IsDrawingFault script chart.TooManyRows told = told ≡ TooManyRows script
IsDrawingFault script chart.NoMemory told = told ≡ OutOfMemory
IsDrawingFault script (chart.Writing error) told = ((told ≡ CannotWrite) ⊎ (told ≡ OutOfMemory)) × ((told ≡ OutOfMemory) ↔ (error_kind error ≡ io.OutOfMemory))

-- as in a replay, but a word may name no address, and a picture may be too large
abbrev pub IsChartFault : Contents → Replay → Option Name → Fault → Type 0
IsChartFault held replay line (BadAddress word) = (line ≡ Some word) × (address word.now ≡ None)
IsChartFault held replay line (TooManyRows file) = (file ≡ replay.script) × IsNotDrawable held replay line
IsChartFault held replay line fault = IsReplayFault held replay fault
