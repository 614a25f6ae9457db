-- What is found where the reader of traces stopped. The clauses of read_trace don't rest on these words: they are what its parts answer.
use Rattle.std.specs.Prelude.{◌≡◌, ℕ, ◌/◌, true, false, List, ◌++◌, ◌⊎◌, Option, None, length, Contains, codes}
use Rattle.std.specs.List.{flat_map, AllByRecursion}
use Rattle.text_fields.specs.Fields.{numbered, IsBytes}
use Rattle.text_fields.specs.Reading.{after, numbered_at}
use Rattle.elf_loader.specs.Size.{base}
use Rattle.trace_text.specs.declared.head.TraceHead.{TraceHead}
use Rattle.trace_text.specs.declared.fault.Stop.{Stop}
use Rattle.trace_text.specs.declared.fault.Stop.TheVariants as stops
use Rattle.trace_text.specs.declared.fault.TextCode.{TextCode}
use Rattle.trace_text.specs.declared.fault.TextCode.TheVariants.{Header, Word, Fields, Order, End, NoMemory}
use Rattle.trace_text.specs.AnyLines.{IsVersion, IsTraceLine}
use Rattle.trace_text.specs.Refusals.{has_line_feed, first_word}
use Rattle.trace_text.specs.TraceLimits.{IsHart, IsOperation, IsLogged, IsStatus, IsTrace}
use Rattle.trace_text.specs.TraceLines.{head_at}
use Rattle.trace_text.specs.TraceRefusals.{AreLines, first_line, line_words, HasHead}
use Rattle.trace_text.specs.TraceSections.{image_lines_at, entries_at, performed_at, log_at, status_line_at, trace_at}
use Rattle.trace_text.specs.Traces.{image_lines, entries, operation, logged, status, text}

-- the same whole line stands first in both
abbrev pub AreAlike : List ℕ → List ℕ → Type 0
AreAlike rest other = (has_line_feed rest ≡ true) × (first_line other ≡ first_line rest)

-- The lines before are such as some value's spelling begins with; and where the same line follows them, nothing is read.
pub record StopsIn {A B : Type 0} (spell : A → List ℕ) (fits : A → Type 0) (at : List ℕ → Option B) (bytes : List ℕ) (left : ℕ) : Type 0 where
  pub before : List ℕ
  pub rest : List ℕ
  pub parts : bytes ≡ before ++ rest
  pub lines : AreLines before
  pub starts : (x : A) × (more : List ℕ) × fits x × (before ++ more ≡ spell x)
  pub never : (other : List ℕ) → AreAlike rest other → at (before ++ other) ≡ None
  pub long : left ≡ length rest

-- so many, and each fits
abbrev pub AreAll : {A : Type 0} → (A → Type 0) → ℕ → List A → Type 0
AreAll fits n xs = (length xs ≡ n) × AllByRecursion fits xs

abbrev pub IsStop : {A B : Type 0} → (A → List ℕ) → (A → Type 0) → (List ℕ → Option B) → List ℕ → Stop → Type 0
IsStop spell fits at bytes (stops.Memory left) = Unit {0}
IsStop spell fits at bytes (stops.Bytes left) = StopsIn spell fits at bytes left

-- ---- where the parts of a trace stop

abbrev pub IsMemoryStop : ℕ → ℕ → List ℕ → Stop → Type 0
IsMemoryStop width size = IsStop (image_lines width (size / width) base) (IsBytes size) (image_lines_at width (size / width) base)

abbrev pub IsHartStop : ℕ → List ℕ → Stop → Type 0
IsHartStop hart = IsStop (entries hart) IsHart (entries_at hart)

abbrev pub IsEntriesStop : ℕ → List ℕ → Stop → Type 0
IsEntriesStop harts = IsStop (numbered entries 0) (AreAll IsHart harts) (numbered_at entries_at harts 0)

abbrev pub IsPerformedStop : ℕ → List ℕ → Stop → Type 0
IsPerformedStop harts = IsStop (flat_map operation) (AllByRecursion (IsOperation harts)) (performed_at harts)

abbrev pub IsLogStop : TraceHead → List ℕ → Stop → Type 0
IsLogStop head = IsStop (flat_map logged) (AllByRecursion (IsLogged head)) (log_at head)

abbrev pub IsStatusesStop : ℕ → List ℕ → Stop → Type 0
IsStatusesStop harts = IsStop (numbered status 0) (AreAll IsStatus harts) (numbered_at status_line_at harts 0)

-- no header stands there; or one does, and a trace stops behind it
abbrev pub IsTraceLeft : List ℕ → ℕ → Type 0
IsTraceLeft bytes left = (head_at bytes ≡ None) ⊎ ((w : StopsIn text IsTrace trace_at bytes left) × ((h : TraceHead) × HasHead h w.before))

abbrev pub IsTraceStop : List ℕ → Stop → Type 0
IsTraceStop bytes (stops.Memory left) = Unit {0}
IsTraceStop bytes (stops.Bytes left) = IsTraceLeft bytes left

-- ---- what is wrong there

-- the first line is none, or so many bytes are left behind it
abbrev pub IsHeaderLeft : List ℕ → ℕ → Type 0
IsHeaderLeft bytes left =
    ((after (codes "rvtl-trace 1\n") bytes ≡ None) × (after (codes "rvtl-trace 2\n") bytes ≡ None) × (left ≡ length bytes))
    ⊎ ((line : List ℕ) × (rest : List ℕ) × IsVersion line × (bytes ≡ line ++ rest) × (left ≡ length rest))

abbrev pub IsHeaderCode : TextCode → List ℕ → Type 0
IsHeaderCode End rest = has_line_feed rest ≡ false
IsHeaderCode Header rest = has_line_feed rest ≡ true
IsHeaderCode Word rest = ⊥
IsHeaderCode Fields rest = ⊥
IsHeaderCode Order rest = ⊥
IsHeaderCode NoMemory rest = ⊥

abbrev pub IsLineCode : TraceHead → TextCode → List ℕ → Type 0
IsLineCode h End rest = has_line_feed rest ≡ false
IsLineCode h Header rest = ⊥
IsLineCode h Word rest = (has_line_feed rest ≡ true) × ¬ Contains line_words (first_word rest)
IsLineCode h Fields rest = (has_line_feed rest ≡ true) × Contains line_words (first_word rest) × ¬ IsTraceLine h (first_line rest)
IsLineCode h Order rest = (has_line_feed rest ≡ true) × Contains line_words (first_word rest) × IsTraceLine h (first_line rest)
IsLineCode h NoMemory rest = ⊥
