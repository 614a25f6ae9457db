-- What went out of a replay that is not whole.
use Rattle.std.specs.Prelude.{ℕ, ◌≡◌, List, Option}
use Rattle.event_stream.specs.Machine.{IsFirstRefusal}
use Rattle.command_files.specs.Composition.{Leads}
use Rattle.command_files.specs.Sizes.{config_of}
use Rattle.elf_loader.specs.Image.{Initial}
use Rattle.event_stream.specs.Views.{State, opening}
use Rattle.machine_types.specs.declared.model.MemoryModel.{MemoryModel}
use Rattle.script_commands.specs.declared.replay.composing.CompositionError.{CompositionError}
use Rattle.script_commands.specs.declared.replay.composing.CompositionError.TheVariants as errors
use Rattle.text_fields.specs.Writing.{Begins}
use Rattle.trace_text.specs.Traces.{text}
use Rattle.trace_text.specs.declared.script.Script.{Script}

-- why the text isn't there: an event is refused or no machine was made, and nothing went out; or the writer had a fault, and a beginning of the text did
abbrev pub IsTraceUnfinished : Initial → Script → MemoryModel → Option (List ℕ) → Option (List ℕ) → CompositionError → Type 0
IsTraceUnfinished image script model old new (errors.Replay error) = (new ≡ old) × IsFirstRefusal (opening image (config_of script model)) script.events error
IsTraceUnfinished image script model old new (errors.Writing fault) = (s : State) × Leads image script model s × Begins old new (text s.trace)
