-- In which ranges everything is that a machine's trace records.
use Rattle.std.specs.Prelude.{ℕ, ◌≡◌, ◌^◌, ◌<◌, ◌≤◌, Some, IsTrue, length}
use Rattle.std.specs.List.{AllByRecursion}
use Rattle.hart.specs.declared.retired.Retired.{Retired}
use Rattle.hart.specs.declared.status.Status.{Status}
use Rattle.hart.specs.declared.status.Status.TheVariants.{Stopped, Exited}
use Rattle.machine_model.specs.Events.{is_piece}
use Rattle.machine_model.specs.Laws.{Always}
use Rattle.machine_model.specs.Views.{State, line_size}
use Rattle.tl_types.specs.Line.{bytes_of, length_of, size_of}
use Rattle.tl_types.specs.declared.line.LineData.{LineData}
use Rattle.tl_types.specs.declared.line.LineSize.{LineSize}
use Rattle.tl_types.specs.declared.message.Body.{Body}
use Rattle.tl_types.specs.declared.message.Body.TheVariants.{ProbeAckData, ReleaseData, GrantData}
use Rattle.trace_recorder.specs.History.{History, entries_of}
use Rattle.trace_recorder.specs.declared.logged.Logged.{Logged}
use Rattle.trace_recorder.specs.declared.operation.OpId.{OpId}

-- an entry's numbers are of 32 bits
pub record HasWords (entry : Retired) : Type 0 where
  pub pc : entry.pc < 2 ^ 32
  pub word : entry.word < 2 ^ 32
  pub loaded : (n : ℕ) → entry.loaded ≡ Some n → n < 2 ^ 32

-- a hart stops with one of nine codes, and exits with a byte
pub record HasCode (status : Status) : Type 0 where
  pub stopped : (code : ℕ) → status ≡ Stopped code → code ≤ 8
  pub exited : (code : ℕ) → status ≡ Exited code → code ≤ 255

-- the name is a place's in a hart's list
abbrev pub NamesPlace : History → OpId → Type 0
NamesPlace t name = (name.hart < length t.entries) × (name.place < length (entries_of t name.hart))

-- a line of this size, all of its bytes
pub record IsWhole (size : LineSize) (line : LineData) : Type 0 where
  pub sized : size_of line ≡ size
  pub count : length (bytes_of line) ≡ length_of size
  pub bytes : AllByRecursion (λ b. b < 256) (bytes_of line)

-- the data that a message carries is a whole line
abbrev pub CarriesWhole : LineSize → Body → Type 0
CarriesWhole size (ProbeAckData change bytes) = IsWhole size bytes
CarriesWhole size (ReleaseData change bytes) = IsWhole size bytes
CarriesWhole size (GrantData cap bytes) = IsWhole size bytes
CarriesWhole size _ = Unit {0}

-- a message of one of the harts, and of a line of memory
pub record IsOfMachine (s : State) (e : Logged) : Type 0 where
  pub hart : e.hart < s.views.config.harts
  pub line : IsTrue (is_piece s.trace.image e.message.line (length_of (line_size s)))
  pub body : CarriesWhole (line_size s) e.message.body

pub record IsInRange (s : State) : Type 0 where
  pub entries : AllByRecursion (AllByRecursion HasWords) s.trace.entries
  pub statuses : AllByRecursion HasCode s.trace.statuses
  pub performed : AllByRecursion (NamesPlace s.trace) s.trace.performed
  pub log : AllByRecursion (IsOfMachine s) s.trace.log

abbrev pub InRangeAlways : Type 0
InRangeAlways = Always (λ image config s. IsInRange s)
