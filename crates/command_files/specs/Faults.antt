-- Which faults tell of a file and of a replay, and what a fault leaves on standard output.
use Rattle.event_stream.specs.Machine.{IsRefusedAt}
use Rattle.command_files.specs.Files.{HoldsImage, HoldsScript, image_answer}
use Rattle.command_files.specs.Contents.{HasLongFirstLine, Contents, HoldsBytes}
use Rattle.command_files.specs.declared.fault.Fault.TheVariants.{CannotRead, CannotWrite, Event, Image, OutOfMemory, Text}
use Rattle.command_files.specs.declared.fault.Fault.{Fault}
use Rattle.command_files.specs.Sizes.{config_of}
use Rattle.event_stream.specs.Lines.{script_line_of}
use Rattle.command_settings.specs.declared.wanted.Replay.{Replay}
use Rattle.elf_loader.specs.Image.{Initial}
use Rattle.elf_loader.specs.declared.error.LoadError.{LoadError}
use Rattle.machine_model.specs.Views.{opening}
use Rattle.event_stream.specs.ApplyError.{ApplyError}
use Rattle.std.specs.Borrow.{Bor}
use Rattle.std.specs.Prelude.{◌≡◌, ◌≢◌, ◌⊎◌, ◌*◌, ℕ, Bool, Err, List, Option}
use Rattle.trace_text.specs.Refusals.{IsScriptRefusal}
use Rattle.trace_text.specs.Scripts as scripts
use Rattle.trace_text.specs.Scripts.{IsScript}
use Rattle.trace_text.specs.declared.fault.TextCode.TheVariants.{Header}
use Rattle.trace_text.specs.declared.fault.TextError.{TextError}
use Rattle.trace_text.specs.declared.script.Script.{Script}

abbrev pub Name : Type 0
Name = Bor (List ℕ)

abbrev pub HasScript : Contents → List ℕ → Type 0
HasScript held name = (script : Script) × HoldsScript held name script

-- the file's first line is longer than that of any text, which is told of line 1
abbrev pub IsLongFirst : Contents → List ℕ → TextError → Type 0
IsLongFirst held name error = HasLongFirstLine held name × (error.line ≡ 1) × (error.code ≡ Header)

-- no script has the bytes of the file as its text, and this is the line at which they are none, and why
pub record IsOtherText (held : Contents) (name : List ℕ) (error : TextError) : Type 0 where
  pub file : List ℕ
  pub bytes : HoldsBytes held name file
  pub none : (script : Script) → IsScript script → file ≢ scripts.text script
  pub refused : IsScriptRefusal file error

-- what the file holds is no script, for this cause
abbrev pub IsNoScript : Contents → List ℕ → TextError → Type 0
IsNoScript held name error = IsLongFirst held name error ⊎ IsOtherText held name error

-- the file, of bare words or an ELF file, is refused by the loader of so many KiB for this cause
pub record IsNoImage (held : Contents) (is_raw : Bool) (name : List ℕ) (kib : ℕ) (error : LoadError) : Type 0 where
  pub file : List ℕ
  pub bytes : HoldsBytes held name file
  pub refused : image_answer is_raw file (1024 * kib) ≡ Err error

-- the file can't be read, or memory ran out
abbrev pub IsReadFault : Name → Fault → Type 0
IsReadFault name (CannotRead file) = file ≡ name
IsReadFault name OutOfMemory = Unit {0}
IsReadFault name _ = ⊥

-- or its first line is longer than that of any text
abbrev pub IsTextFault : Contents → Name → Fault → Type 0
IsTextFault held name (Text file error) = (file ≡ name) × IsLongFirst held name.now error
IsTextFault held name fault = IsReadFault name fault

-- or what it holds is no script, for the cause that is told
abbrev pub IsScriptFault : Contents → Name → Fault → Type 0
IsScriptFault held name (Text file error) = (file ≡ name) × IsNoScript held name.now error
IsScriptFault held name fault = IsReadFault name fault

-- the loader of so many KiB refuses the bytes for the cause that is told, or memory ran out
abbrev pub IsLoadFault : Bool → List ℕ → Name → ℕ → Fault → Type 0
IsLoadFault is_raw bytes name kib (Image file error) = (file ≡ name) × (image_answer is_raw bytes (1024 * kib) ≡ Err error)
IsLoadFault is_raw bytes name kib OutOfMemory = Unit {0}
IsLoadFault is_raw bytes name kib _ = ⊥

-- the file can't be read, memory ran out, or what it holds is no image, for the cause that is told
abbrev pub IsImageFault : Contents → Bool → Name → ℕ → Fault → Type 0
IsImageFault held is_raw name kib (Image file error) = (file ≡ name) × IsNoImage held is_raw name.now kib error
IsImageFault held is_raw name kib fault = IsReadFault name fault

-- the script in the one file gives its image so much memory that the other is refused for this cause
abbrev pub IsNoImageOf : Contents → Replay → LoadError → Type 0
IsNoImageOf held replay error =
    (script : Script) × HoldsScript held replay.script.now script × IsNoImage held replay.raw replay.image.now script.kib error

-- the event of this line of the script, the first of which stands on line 2, is refused
pub record IsEventFault (held : Contents) (replay : Replay) (line : ℕ) (error : ApplyError) : Type 0 where
  pub script : Script
  pub image : Initial
  pub script_file : HoldsScript held replay.script.now script
  pub image_file : HoldsImage held replay.raw replay.image.now script.kib image
  pub index : ℕ
  pub place : line ≡ script_line_of index
  pub refused : IsRefusedAt (opening image (config_of script replay.model)) script.events index error

-- the script is judged first, then the image, then the events
abbrev pub IsReplayFault : Contents → Replay → Fault → Type 0
IsReplayFault held replay (CannotRead file) = (file ≡ replay.script) ⊎ ((file ≡ replay.image) × HasScript held replay.script.now)
IsReplayFault held replay (Text file error) = (file ≡ replay.script) × IsNoScript held replay.script.now error
IsReplayFault held replay (Image file error) = (file ≡ replay.image) × IsNoImageOf held replay error
IsReplayFault held replay (Event file line error) = (file ≡ replay.script) × IsEventFault held replay line error
IsReplayFault held replay CannotWrite = Unit {0}
IsReplayFault held replay OutOfMemory = Unit {0}
IsReplayFault held replay _ = ⊥

-- nothing, but where the output itself had the fault or memory ran out
abbrev pub LeavesAtFault : Fault → Option (List ℕ) → Option (List ℕ) → Type 0 → Type 0
LeavesAtFault CannotWrite old new broken = broken
LeavesAtFault OutOfMemory old new broken = (new ≡ old) ⊎ broken
LeavesAtFault _ old new broken = new ≡ old
