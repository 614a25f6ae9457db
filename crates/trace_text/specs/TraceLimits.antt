-- The values that a trace may have in its text.
use Rattle.std.specs.Prelude.{◌≡◌, ℕ, ◌+◌, ◌*◌, ◌/◌, ◌%◌, ◌^◌, ◌<◌, ◌≤◌, List, Option, Some, None, Result, Ok, Err, length, ◌++◌}
use Rattle.std.specs.List.{AllByRecursion}
use Rattle.machine_types.specs.declared.limits.TheConstants.{MAX_ENTRIES}
use Rattle.text_fields.specs.Fields.{IsBytes}
use Rattle.elf_loader.specs.Size.{base}
use Rattle.hart.specs.declared.retired.Retired.{Retired}
use Rattle.hart.specs.declared.status.Status.{Status}
use Rattle.hart.specs.declared.status.Status.TheVariants.{Running, Stopped, Exited}
use Rattle.tl_types.specs.Line.{length_of}
use Rattle.tl_types.specs.declared.line.LineSize.{LineSize}
use Rattle.tl_types.specs.declared.line.LineSize.TheVariants as sizes
use Rattle.tl_types.specs.declared.line.LineData.{LineData}
use Rattle.tl_types.specs.declared.line.LineData.TheVariants as lines
use Rattle.tl_types.specs.declared.message.Body.{Body}
use Rattle.tl_types.specs.declared.message.Body.TheVariants.{AcquireBlock, ProbeBlock, ProbeAck, ProbeAckData, Release, ReleaseData, Grant, GrantData, ReleaseAck, GrantAck}
use Rattle.trace_recorder.specs.declared.operation.OpId.{OpId}
use Rattle.trace_recorder.specs.declared.logged.Logged.{Logged}
use Rattle.trace_recorder.specs.History.{History, Recorded}
use Rattle.trace_text.specs.declared.fault.TextError.{TextError}
use Rattle.trace_text.specs.declared.head.TraceHead.{TraceHead}
use Rattle.trace_text.specs.TraceHeads.{IsTraceHead}
use Rattle.trace_text.specs.Traces.{head_of, text}

abbrev pub IsLoaded : Option ℕ → Type 0
IsLoaded None = Unit {0}
IsLoaded (Some n) = n < 2 ^ 32

pub record IsRetired (r : Retired) : Type 0 where
  pub pc : r.pc < 2 ^ 32
  pub word : r.word < 2 ^ 32
  pub loaded : IsLoaded r.loaded

-- what one hart has retired: places are below its length
abbrev pub IsHart : List Retired → Type 0
IsHart rs = AllByRecursion IsRetired rs × (length rs ≤ MAX_ENTRIES)

-- a place of one of so many harts
abbrev pub IsOperation : ℕ → OpId → Type 0
IsOperation harts o = (o.hart < harts) × (o.place < MAX_ENTRIES)

-- a whole line of this size
abbrev pub IsData : LineSize → LineData → Type 0
IsData sizes.Bytes16 (lines.Bytes16 d) = IsBytes 16 d
IsData sizes.Bytes16 (lines.Bytes64 d) = ⊥
IsData sizes.Bytes64 (lines.Bytes16 d) = ⊥
IsData sizes.Bytes64 (lines.Bytes64 d) = IsBytes 64 d

-- the data that a message carries is a whole line's
abbrev pub IsBody : LineSize → Body → Type 0
IsBody size (AcquireBlock g) = Unit {0}
IsBody size (ProbeBlock c) = Unit {0}
IsBody size (ProbeAck c) = Unit {0}
IsBody size (ProbeAckData c d) = IsData size d
IsBody size (Release c) = Unit {0}
IsBody size (ReleaseData c d) = IsData size d
IsBody size (Grant c) = Unit {0}
IsBody size (GrantData c d) = IsData size d
IsBody size ReleaseAck = Unit {0}
IsBody size GrantAck = Unit {0}

-- one of the harts sent or took it, and it is of a line of memory
pub record IsLogged (h : TraceHead) (l : Logged) : Type 0 where
  pub hart : l.hart < h.harts
  pub whole : l.message.line % length_of h.line ≡ 0
  pub from : base ≤ l.message.line
  pub inside : l.message.line < base + h.kib * 1024
  pub body : IsBody h.line l.message.body

abbrev pub IsStatus : Status → Type 0
IsStatus Running = Unit {0}
IsStatus (Stopped c) = c ≤ 8
IsStatus (Exited c) = c ≤ 255

-- a trace within the limits of its text
pub record IsTrace (t : History) : Type 0 where
  pub head : IsTraceHead (head_of t)
  pub memory : IsBytes (length t.image.bytes / 1024 * 1024) t.image.bytes
  pub lists : length t.entries ≡ length t.statuses
  pub entries : AllByRecursion IsHart t.entries
  pub performed : AllByRecursion (IsOperation (length t.statuses)) t.performed
  pub log : AllByRecursion (IsLogged (head_of t)) t.log
  pub statuses : AllByRecursion IsStatus t.statuses

-- two texts that begin the same bytes are one trace's
abbrev pub NoTextBeginsAnother : Type 0
NoTextBeginsAnother = (a b : History) (x y : List ℕ) → IsTrace a → IsTrace b → text a ++ x ≡ text b ++ y → (a ≡ b) × (x ≡ y)

-- this trace is read, and the length of its text counted
abbrev pub IsReadAs : History → Result (Recorded × ℕ) TextError → Type 0
IsReadAs t (Ok x) = (x.0.history ≡ t) × (x.1 ≡ length (text t))
IsReadAs t (Err e) = ⊥
