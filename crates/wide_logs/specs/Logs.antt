-- A log of messages of 1 to 64 clients, about lines of 16, 32, 64 or 128 bytes at any address, and its one spelling.
use Rattle.std.specs.Prelude.{ℕ, ◌≡◌, ◌≢◌, ◌⊎◌, ◌+◌, ◌<◌, ◌==◌, Bool, List, [], ◌++◌, codes, if◌then◌else◌, is_some, length, map, position, take}
use Rattle.std.specs.List.{AllByRecursion, flat_map, list_any}
use Rattle.std.specs.Option.{option_map_or}
use Rattle.text_fields.specs.Excerpts.{excerpt}
use Rattle.text_fields.specs.Fields.{number}
use Rattle.text_fields.specs.Reading.{after}
use Rattle.trace_recorder.specs.declared.logged.Logged.{Logged}
use Rattle.trace_text.specs.declared.cause.TextCause.TheVariants.{Trace}
use Rattle.trace_text.specs.declared.fault.TextCode.{TextCode}
use Rattle.trace_text.specs.declared.fault.TextCode.TheVariants.{End, Fields, Header, NoMemory, Word}
use Rattle.trace_text.specs.declared.fault.TextError.{TextError}
use Rattle.wide_logs.specs.Entries.{IsEntry, first_of, line, second_of}
use Rattle.wide_logs.specs.Shapes.{IsShape, bytes_of_width, has_halves}
use Rattle.wide_logs.specs.declared.entry.WideLogged.{WideLogged}
use Rattle.wide_logs.specs.declared.reading.WideLog.{WideLog}
use Rattle.wide_logs.specs.declared.shape.Shape.{Shape}

-- what the first line says, and the messages in the order of time
pub record Log : Type 0 where
  pub shape : Shape
  pub entries : List WideLogged

pub record IsLog (log : Log) : Type 0 where
  pub shape : IsShape log.shape
  pub entries : AllByRecursion (IsEntry log.shape) log.entries

-- ---- its spelling

abbrev pub head : Shape → List ℕ
head s = codes "rvtl-log 1 " ++ (number 32 s.clients ++ number 10 (bytes_of_width s.width))

abbrev pub text : Log → List ℕ
text log = head log.shape ++ flat_map line log.entries

-- ---- its parts: logs of the same messages about lines of 16 or 64 bytes

abbrev pub first_part : Log → List Logged
first_part log = map first_of log.entries

-- that of the second halves, if lines have halves
abbrev pub second_part : Log → List Logged
second_part log = if has_halves log.shape.width then map second_of log.entries else []

-- what was read is this log
pub record IsReadAs (w : WideLog) (log : Log) : Type 0 where
  pub shape : w.shape ≡ log.shape
  pub first : w.first.items ≡ first_part log
  pub second : w.second.items ≡ second_part log

-- ---- where a text is no log's

abbrev pub is_feed : ℕ → Bool
is_feed byte = byte == 10

-- the line that begins here, without its line feed
abbrev pub line_text : List ℕ → List ℕ
line_text bytes = option_map_or (λ at. take at bytes) (position is_feed bytes) bytes

-- why the line that begins here can't be read, by its number
abbrev pub code_at : (number : ℕ) → List ℕ → TextCode
code_at number rest =
    if list_any is_feed rest then (if number == 1 then Header else (if is_some (after (codes "M ") rest) then Fields else Word)) else End

-- the bytes begin with no first line of a log
abbrev pub BeginWithNoHead : List ℕ → Type 0
BeginWithNoHead bytes = (shape : Shape) (more : List ℕ) → IsShape shape → bytes ≢ head shape ++ more

-- the bytes begin with no message of a log of this shape
abbrev pub BeginWithNoMessage : Shape → List ℕ → Type 0
BeginWithNoMessage shape rest = (e : WideLogged) (more : List ℕ) → IsEntry shape e → rest ≢ line e ++ more

-- behind the lines of a log stands something that is no message of it
pub record StopsAt (bytes : List ℕ) (number : ℕ) (rest : List ℕ) : Type 0 where
  pub log : Log
  pub is_log : IsLog log
  pub parts : bytes ≡ text log ++ rest
  pub some : 0 < length rest
  pub none : BeginWithNoMessage log.shape rest
  pub number_is : number ≡ length log.entries + 2

-- the first line that isn't a log's, and what stands there
abbrev pub StopsOrNone : List ℕ → (number : ℕ) → (rest : List ℕ) → Type 0
StopsOrNone bytes number rest = ((number ≡ 1) × (rest ≡ bytes) × BeginWithNoHead bytes) ⊎ StopsAt bytes number rest

pub record IsRefusal (bytes : List ℕ) (error : TextError) : Type 0 where
  pub rest : List ℕ
  pub stops : StopsOrNone bytes error.line rest
  pub code : error.code ≡ code_at error.line rest
  pub cause : error.cause ≡ Trace (excerpt (line_text rest))

-- unless memory ran out
abbrev pub IsLogRefusal : List ℕ → TextError → Type 0
IsLogRefusal bytes error = (error.code ≡ NoMemory) ⊎ IsRefusal bytes error
