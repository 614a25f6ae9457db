-- Where a reader of messages has come to. The clauses of read_log don't rest on these words: they are what its parts answer.
use Rattle.std.specs.Prelude.{ℕ, ◌≡◌, ◌⊎◌, ◌+◌, ◌<◌, List, ◌++◌, None, length}
use Rattle.std.specs.List.{AllByRecursion, flat_map}
use Rattle.text_fields.specs.Excerpts.{excerpt}
use Rattle.trace_text.specs.declared.cause.TextCause.TheVariants.{Trace}
use Rattle.trace_text.specs.declared.fault.TextCode.TheVariants.{NoMemory}
use Rattle.trace_text.specs.declared.fault.TextError.{TextError}
use Rattle.wide_logs.specs.Entries.{IsEntry, line}
use Rattle.wide_logs.specs.Logs.{code_at, line_text}
use Rattle.wide_logs.specs.Reading.{line_at}
use Rattle.wide_logs.specs.declared.entry.WideLogged.{WideLogged}
use Rattle.wide_logs.specs.declared.shape.Shape.{Shape}

-- the lines of these messages are the bytes
pub record IsRead (shape : Shape) (bytes : List ℕ) (entries : List WideLogged) : Type 0 where
  pub each : AllByRecursion (IsEntry shape) entries
  pub parts : bytes ≡ flat_map line entries

-- these were read, and the rest is left
pub record Passed (shape : Shape) (bytes : List ℕ) (entries : List WideLogged) (rest : List ℕ) : Type 0 where
  pub each : AllByRecursion (IsEntry shape) entries
  pub parts : bytes ≡ flat_map line entries ++ rest

-- what is left begins with no message
pub record IsStopped (shape : Shape) (bytes : List ℕ) (error : TextError) : Type 0 where
  pub entries : List WideLogged
  pub rest : List ℕ
  pub passed : Passed shape bytes entries rest
  pub some : 0 < length rest
  pub none : line_at shape rest ≡ None
  pub number : error.line ≡ length entries + 2
  pub code : error.code ≡ code_at error.line rest
  pub cause : error.cause ≡ Trace (excerpt (line_text rest))

abbrev pub IsEntriesStop : Shape → List ℕ → TextError → Type 0
IsEntriesStop shape bytes error = (error.code ≡ NoMemory) ⊎ IsStopped shape bytes error
