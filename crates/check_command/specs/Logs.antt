-- The log of messages that a text tells: a trace's, or one of other clients and lines.
use Rattle.std.specs.Prelude.{ℕ, ◌≡◌, ◌⊎◌, ◌==◌, Bool, true, false, List, [], None, Option, Some, codes, if◌then◌else◌, is_some, length, not}
use Rattle.std.specs.List.{list_any}
use Rattle.check_command.specs.Checking.{GoOnBehindATrace, IsNoTraceText}
use Rattle.check_command.specs.declared.log.Log.{Log}
use Rattle.check_command.specs.declared.log.Log.TheVariants.{Trace, Wide}
use Rattle.command_files.specs.Faults.{Name}
use Rattle.command_files.specs.declared.fault.Fault.{Fault}
use Rattle.command_files.specs.declared.fault.Fault.TheVariants.{BytesAfterTrace, OutOfMemory, Text}
use Rattle.elf_loader.specs.Image.{Initial}
use Rattle.log_text.specs.Breaches.{AreCounted}
use Rattle.log_text.specs.FoundBreaches.{Breaches}
use Rattle.log_text.specs.Laws.{IsVerdict}
use Rattle.log_text.specs.MessageVerdict.{MessageVerdict}
use Rattle.log_text.specs.Profile.{Profile}
use Rattle.parted_judge.specs.Laws.{IsVerdictOnWide}
use Rattle.parted_judge.specs.Parts.{AreCountedParts}
use Rattle.text_fields.specs.Reading.{after}
use Rattle.trace_recorder.specs.declared.logged.Logged.{Logged}
use Rattle.trace_text.specs.TraceLimits.{IsTrace}
use Rattle.trace_text.specs.Traces.{text}
use Rattle.trace_text.specs.declared.fault.TextError.{TextError}
use Rattle.wide_logs.specs.Logs as wide
use Rattle.written_lines.specs.Written as written
use Rattle.written_lines.specs.declared.checking.Unwritten.{Unwritten as FoundByte}

-- memory at the start, if the trace tells of it: it has an I line for each line that isn't all zero
abbrev pub memory_told : Initial → Option Initial
memory_told image = if list_any (λ byte. not (byte == 0)) image.bytes then Some image else None

-- ---- its parts

abbrev pub messages_in : Log → List Logged
messages_in (Trace t) = t.history.log
messages_in (Wide w) = w.first.items

abbrev pub second_in : Log → List Logged
second_in (Trace t) = []
second_in (Wide w) = w.second.items

abbrev pub clients_in : Log → ℕ
clients_in (Trace t) = length t.history.statuses
clients_in (Wide w) = w.shape.clients

-- a log that is no trace's tells nothing of memory
abbrev pub memory_in : Log → Option Initial
memory_in (Trace t) = memory_told t.history.image
memory_in (Wide w) = None

-- and of no operations
abbrev pub unwritten_in : Log → Option FoundByte
unwritten_in (Trace t) = written.unwritten_in t.history
unwritten_in (Wide w) = None

-- ---- its verdict and its breaches

-- of a log that is no trace's, by the rules of whole lines
abbrev pub IsVerdictOn : (ended : Bool) → Profile → Log → MessageVerdict → Type 0
IsVerdictOn ended profile (Trace t) v = IsVerdict ended profile (memory_told t.history.image) t.history.log v
IsVerdictOn ended profile (Wide w) v = (log : wide.Log) → wide.IsLog log → wide.IsReadAs w log → IsVerdictOnWide ended profile log.entries v

abbrev pub AreBreachesIn : Profile → Log → Breaches → Type 0
AreBreachesIn profile (Trace t) breaches = AreCounted profile (memory_told t.history.image) t.history.log breaches
AreBreachesIn profile (Wide w) breaches = AreCountedParts profile w.first.items w.second.items breaches

-- ---- its text

-- these bytes are its text, all of it
abbrev pub IsText : List ℕ → Log → Type 0
IsText bytes (Trace t) = IsTrace t.history × (bytes ≡ text t.history)
IsText bytes (Wide w) = (log : wide.Log) × wide.IsLog log × (bytes ≡ wide.text log) × wide.IsReadAs w log

-- the text begins as one that isn't a trace's
abbrev pub is_wide : List ℕ → Bool
is_wide bytes = is_some (after (codes "rvtl-log ") bytes)

-- these bytes are no such text, and this is the line at which they can't be read as one, and why
abbrev pub IsNoTextBy : (is_wide : Bool) → List ℕ → TextError → Type 0
IsNoTextBy true bytes error = wide.IsRefusal bytes error
IsNoTextBy false bytes error = IsNoTraceText bytes error

abbrev pub IsNoText : List ℕ → TextError → Type 0
IsNoText bytes error = IsNoTextBy (is_wide bytes) bytes error

-- they are none, or go on behind a trace; or memory ran out
abbrev pub IsTextFaultOf : List ℕ → Name → Fault → Type 0
IsTextFaultOf bytes name fault =
    ((error : TextError) × (fault ≡ Text name error) × IsNoText bytes error) ⊎ ((fault ≡ BytesAfterTrace name) × GoOnBehindATrace bytes) ⊎ (fault ≡ OutOfMemory)
