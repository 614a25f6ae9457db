-- What telling a script's waves has done, and which faults it tells.
use Rattle.command_files.specs.Contents.{Contents}
use Rattle.command_files.specs.Faults.{Name}
use Rattle.command_files.specs.Files.{HoldsImage, HoldsScript, IsTheScriptIn}
use Rattle.command_files.specs.Sizes.{config_of}
use Rattle.command_files.specs.Status.{IsOutOfMemory}
use Rattle.command_files.specs.declared.fault.Fault.{Fault}
use Rattle.command_files.specs.declared.fault.Fault.TheVariants.{CannotWrite, Event, OutOfMemory}
use Rattle.command_settings.specs.declared.wanted.Replay.{Replay}
use Rattle.elf_loader.specs.Image.{Initial}
use Rattle.event_stream.specs.ApplyError.{ApplyError}
use Rattle.event_stream.specs.Lines.{script_line_of}
use Rattle.event_stream.specs.TheVariants as refusals
use Rattle.run_waves.specs.Waves.{AreBegun, AreWritten}
use Rattle.run_waves.specs.declared.errors.WavesError.{WavesError}
use Rattle.run_waves.specs.declared.errors.WavesError.TheVariants as waves
use Rattle.std.specs.IoError.{error_kind}
use Rattle.std.specs.declared.io.ErrorKind.TheVariants as io
use Rattle.std.specs.Prelude.{◌≡◌, ◌⊎◌, ◌↔◌, ℕ, List, Option}
use Rattle.trace_text.specs.declared.script.Script.{Script}

-- what was appended are the waves of what the script in the one file does with the image in the other
pub record AreTold (held : Contents) (replay : Replay) (old new : Option (List ℕ)) : Type 0 where
  pub script : Script
  pub image : Initial
  pub script_file : HoldsScript held replay.script.now script
  pub image_file : HoldsImage held replay.raw replay.image.now script.kib image
  pub only : IsTheScriptIn held replay.script.now script
  pub written : AreWritten image (config_of script replay.model) script.events old new

-- a beginning of them was appended, where the output took no more or memory was refused
pub record AreWavesCutOff (held : Contents) (replay : Replay) (old new : Option (List ℕ)) : Type 0 where
  pub script : Script
  pub image : Initial
  pub script_file : HoldsScript held replay.script.now script
  pub image_file : HoldsImage held replay.raw replay.image.now script.kib image
  pub begun : AreBegun image (config_of script replay.model) script.events old new

-- which fault tells why a script's waves aren't whole
abbrev pub IsWavesFault : Name → WavesError → Fault → Type 0
IsWavesFault script (waves.Replay refusal) told =
    ((told ≡ OutOfMemory) ⊎ ((index : ℕ) × (error : ApplyError) × (refusal ≡ refusals.Event index error) × (told ≡ Event script (script_line_of index) error)))
    × ((told ≡ OutOfMemory) ↔ IsOutOfMemory refusal)
IsWavesFault script waves.NoMemory told = told ≡ OutOfMemory
IsWavesFault script (waves.Writing error) told = ((told ≡ CannotWrite) ⊎ (told ≡ OutOfMemory)) × ((told ≡ OutOfMemory) ↔ (error_kind error ≡ io.OutOfMemory))
