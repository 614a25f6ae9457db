-- What a replay prints: the text of the trace that the script's events lead to.
use Rattle.std.specs.Prelude.{ℕ, ◌≡◌, List, Option}
use Rattle.command_files.specs.Sizes.{config_of}
use Rattle.elf_loader.specs.Image.{Initial}
use Rattle.machine_model.specs.LawfulLog.{IsLawfulLog}
use Rattle.machine_model.specs.Laws.{IsHeadline}
use Rattle.machine_model.specs.Views.{State, opening}
use Rattle.machine_types.specs.declared.model.MemoryModel.{MemoryModel}
use Rattle.event_stream.specs.Machine.{Replayed, replayed_from}
use Rattle.std.specs.Io.KnownBytes.{Appends}
use Rattle.trace_text.specs.TraceLimits.{IsTrace}
use Rattle.trace_text.specs.Traces.{text}
use Rattle.trace_text.specs.declared.script.Script.{Script}

-- the script's events lead from reset to this state
abbrev pub Leads : Initial → Script → MemoryModel → State → Type 0
Leads image script model s = replayed_from 0 (opening image (config_of script model)) script.events ≡ Replayed.Reached s

-- there the script leads, and the text of the trace was appended, which is read back as this trace; each hart's list is a run of the image, all lists have one legal global order, the caches are coherent, and the log is lawful
pub record IsComposition (image : Initial) (script : Script) (model : MemoryModel) (old new : Option (List ℕ)) (s : State) : Type 0 where
  pub replayed : Leads image script model s
  pub printed : Appends old new (text s.trace)
  pub readable : IsTrace s.trace
  pub headline : IsHeadline image (config_of script model) s
  pub log : IsLawfulLog s.trace.log
