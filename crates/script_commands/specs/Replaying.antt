-- What a replay has done.
use Rattle.command_files.specs.Composition.{IsComposition, Leads}
use Rattle.command_files.specs.Ends.{ends_of}
use Rattle.command_files.specs.Files.{HoldsImage, HoldsScript, IsTheScriptIn}
use Rattle.command_files.specs.Contents.{Contents}
use Rattle.command_settings.specs.declared.wanted.Replay.{Replay}
use Rattle.elf_loader.specs.Image.{Initial}
use Rattle.event_stream.specs.Views.{State}
use Rattle.std.specs.Prelude.{ℕ, List, Option}
use Rattle.text_fields.specs.Writing.{Begins}
use Rattle.trace_text.specs.Traces.{text}
use Rattle.trace_text.specs.declared.script.Script.{Script}

-- what was appended is the text of the trace that the script in the one file means for the image in the other; no other script has that file's text
pub record IsReplayed (held : Contents) (replay : Replay) (old new : Option (List ℕ)) : Type 0 where
  pub script : Script
  pub image : Initial
  pub reached : State
  pub script_file : HoldsScript held replay.script.now script
  pub image_file : HoldsImage held replay.raw replay.image.now script.kib image
  pub only : IsTheScriptIn held replay.script.now script
  pub composed : IsComposition image script replay.model old new reached

-- it took no more than a beginning of the text of the trace that the script in the one file means for the image in the other
pub record IsCutOff (held : Contents) (replay : Replay) (old new : Option (List ℕ)) : Type 0 where
  pub script : Script
  pub image : Initial
  pub reached : State
  pub script_file : HoldsScript held replay.script.now script
  pub image_file : HoldsImage held replay.raw replay.image.now script.kib image
  pub replayed : Leads image script replay.model reached
  pub begun : Begins old new (text reached.trace)

-- a beginning of the lines that tell how the harts ended went out, be it all of them or nothing
pub record IsReplayEndTold (held : Contents) (replay : Replay) (old new : Option (List ℕ)) : Type 0 where
  pub script : Script
  pub image : Initial
  pub reached : State
  pub script_file : HoldsScript held replay.script.now script
  pub image_file : HoldsImage held replay.raw replay.image.now script.kib image
  pub replayed : Leads image script replay.model reached
  pub begun : Begins old new (ends_of reached)
