-- What a run by threads has done, and which faults it tells.
use Rattle.host_threads.specs.Moves.{AreMoves}
use Rattle.command_files.specs.Composition.{IsComposition, Leads}
use Rattle.command_files.specs.Ends.{ends_of}
use Rattle.command_files.specs.Sizes.{config_of, IsInside, IsOutside, config_named}
use Rattle.command_files.specs.Files.{HoldsImage, HoldsScript}
use Rattle.command_files.specs.Faults.{IsNoImage}
use Rattle.command_files.specs.Contents.{Contents}
use Rattle.command_files.specs.declared.fault.Fault.TheVariants.{BadEvent, CannotMake, CannotRead, CannotWrite, Configuration, Image, Mismatch, NoThread, OutOfMemory}
use Rattle.command_files.specs.declared.allowing.Judgement.{Judgement}
use Rattle.command_files.specs.declared.allowing.Judgement.TheVariants.{Allowed, NotAllowed}
use Rattle.command_files.specs.declared.fault.Fault.{Fault}
use Rattle.command_settings.specs.Settings.{fails_on_stop}
use Rattle.command_settings.specs.declared.wanted.Run.{Run}
use Rattle.elf_loader.specs.Image.{Initial}
use Rattle.hart.specs.declared.status.Status.{Status}
use Rattle.hart.specs.declared.status.Status.TheVariants.{Running, Stopped, Exited}
use Rattle.host_threads.specs.declared.report.RunError.{RunError}
use Rattle.host_threads.specs.declared.report.RunError.TheVariants as threads
use Rattle.machine_model.specs.Views.{State, opening}
use Rattle.std.specs.Prelude.{◌≡◌, ◌≤◌, ◌++◌, ◌&&◌, [], ℕ, Bool, false, true, List, Option, codes, if◌then◌else◌, length}
use Rattle.std.specs.List.{list_any}
use Rattle.text_fields.specs.Writing.{Begins}
use Rattle.trace_text.specs.Traces.{text}
use Rattle.trace_text.specs.declared.script.Script.{Script}

-- the run of the image in the one file has left this script in the other: it is for the machine that was named, each of its events changes that machine, and they are no more than were asked for
pub record IsJournalled (held left : Contents) (run : Run) (image : Initial) (script : Script) : Type 0 where
  pub image_file : HoldsImage held run.raw run.image.now run.machine.memory image
  pub inside : IsInside run.machine
  pub config : config_of script run.machine.model ≡ config_named run.machine inside
  pub memory : script.kib ≡ run.machine.memory
  pub journal_file : HoldsScript left run.journal.now script
  pub moves : AreMoves (opening image (config_named run.machine inside)) script.events
  pub limit : length script.events ≤ run.limit

abbrev pub is_stopped : Status → Bool
is_stopped Running = false
is_stopped (Stopped code) = true
is_stopped (Exited code) = false

-- a run that may not come to a hart that stops did, or didn't
abbrev pub judgement_of : (fails_on_stop : Bool) → List Status → Judgement
judgement_of fails statuses = if fails && list_any is_stopped statuses then NotAllowed else Allowed

-- and what was appended is the text of the trace that this script means for that image, whose harts ended as was judged
pub record IsRun (held left : Contents) (run : Run) (judgement : Judgement) (old new : Option (List ℕ)) : Type 0 where
  pub script : Script
  pub image : Initial
  pub reached : State
  pub kept : IsJournalled held left run image script
  pub composed : IsComposition image script run.machine.model old new reached
  pub judged : judgement ≡ judgement_of (fails_on_stop run.fail_on) reached.trace.statuses

-- the run's script is kept, and the output took no more than a beginning of the text of the trace that it means
pub record IsRunCutOff (held left : Contents) (run : Run) (old new : Option (List ℕ)) : Type 0 where
  pub script : Script
  pub image : Initial
  pub reached : State
  pub kept : IsJournalled held left run image script
  pub replayed : Leads image script run.machine.model reached
  pub begun : Begins old new (text reached.trace)

-- where the run came to what it may not come to, that is told
abbrev pub judgement_line : Judgement → List ℕ
judgement_line Allowed = []
judgement_line NotAllowed = codes "a hart stopped (--fail-on stop)\n"

-- the run's script is kept, and a beginning of the lines that tell how its harts ended, and what was judged of that, went out
pub record IsRunEndTold (held left : Contents) (run : Run) (judgement : Judgement) (old new : Option (List ℕ)) : Type 0 where
  pub script : Script
  pub image : Initial
  pub reached : State
  pub kept : IsJournalled held left run image script
  pub replayed : Leads image script run.machine.model reached
  pub begun : Begins old new (ends_of reached ++ judgement_line judgement)

-- the machine's size is judged first, then the image, then the run, then the journal is written
abbrev pub IsRunFault : Contents → Run → Fault → Type 0
IsRunFault held run Configuration = IsOutside run.machine
IsRunFault held run (CannotRead file) = file ≡ run.image
IsRunFault held run (Image file error) = (file ≡ run.image) × IsNoImage held run.raw run.image.now run.machine.memory error
IsRunFault held run NoThread = (image : Initial) × HoldsImage held run.raw run.image.now run.machine.memory image
IsRunFault held run Mismatch = (image : Initial) × HoldsImage held run.raw run.image.now run.machine.memory image
IsRunFault held run BadEvent = (image : Initial) × HoldsImage held run.raw run.image.now run.machine.memory image
IsRunFault held run (CannotMake file) = (file ≡ run.journal) × ((image : Initial) × HoldsImage held run.raw run.image.now run.machine.memory image)
IsRunFault held run CannotWrite = Unit {0}
IsRunFault held run OutOfMemory = Unit {0}
IsRunFault held run _ = ⊥

-- what is told before the journal's file is opened
abbrev pub ComesBeforeJournal : Fault → Type 0
ComesBeforeJournal (CannotMake file) = ⊥
ComesBeforeJournal CannotWrite = ⊥
ComesBeforeJournal OutOfMemory = ⊥
ComesBeforeJournal _ = Unit {0}

-- which fault an error of the threads is
abbrev pub run_fault : RunError → Fault
run_fault threads.Config = Configuration
run_fault threads.NoMemory = OutOfMemory
run_fault threads.Thread = NoThread
run_fault threads.Mismatch = Mismatch
run_fault threads.BadEvent = BadEvent
