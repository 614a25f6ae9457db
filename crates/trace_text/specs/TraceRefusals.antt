-- Where a trace is refused, and why.
use Rattle.std.specs.Prelude.{◌≡◌, ℕ, suc, ◌≤◌, ◌<◌, true, false, ◌==◌, if◌then◌else◌, List, [], ◌∷◌, ◌++◌, ◌⊎◌, Contains, codes}
use Rattle.trace_recorder.specs.History.{History}
use Rattle.trace_text.specs.declared.fault.TextCode.{TextCode}
use Rattle.trace_text.specs.declared.fault.TextCode.TheVariants.{Header, Word, Fields, Order, End, NoMemory}
use Rattle.trace_text.specs.declared.fault.TextError.{TextError}
use Rattle.trace_text.specs.declared.head.TraceHead.{TraceHead}
use Rattle.trace_text.specs.AnyLines.{IsTraceLine}
use Rattle.trace_text.specs.Causes.{trace_cause}
use Rattle.trace_text.specs.Refusals.{line_feeds, has_line_feed, first_word}
use Rattle.trace_text.specs.TraceLimits.{IsTrace}
use Rattle.trace_text.specs.TraceHeads.{IsTraceHead}
use Rattle.trace_text.specs.Traces.{head, text}

-- some trace's text begins so
abbrev pub IsTraceStart : List ℕ → Type 0
IsTraceStart bytes = (t : History) × (more : List ℕ) × IsTrace t × (bytes ++ more ≡ text t)

-- nothing, or what a line feed ends
abbrev pub AreLines : List ℕ → Type 0
AreLines bytes = (bytes ≡ []) ⊎ ((front : List ℕ) × (bytes ≡ front ++ 10 ∷ []))

-- the line that begins here, with its line feed
abbrev pub first_line : List ℕ → List ℕ
first_line [] = []
first_line (b ∷ bytes) = if b == 10 then b ∷ [] else b ∷ first_line bytes

-- the first words of a trace's lines
abbrev pub line_words : List (List ℕ)
line_words = codes "rvtl-trace" ∷ codes "T" ∷ codes "I" ∷ codes "R" ∷ codes "P" ∷ codes "M" ∷ codes "H" ∷ []

-- a whole line begins here, and with it the lines before are no trace's any more
abbrev pub IsBadLine : List ℕ → List ℕ → Type 0
IsBadLine before rest = (has_line_feed rest ≡ true) × ¬ IsTraceStart (before ++ first_line rest)

-- the two lines of this header stand first
abbrev pub HasHead : TraceHead → List ℕ → Type 0
HasHead h bytes = (more : List ℕ) × IsTraceHead h × (bytes ≡ head h ++ more)

-- what each code says of the line of this number, which begins between these bytes
abbrev pub IsTraceCode : TextCode → ℕ → List ℕ → List ℕ → Type 0
IsTraceCode End line before rest = has_line_feed rest ≡ false
IsTraceCode Header line before rest = IsBadLine before rest × (line ≤ 2)
IsTraceCode Word line before rest = IsBadLine before rest × (2 < line) × ¬ Contains line_words (first_word rest)
IsTraceCode Fields line before rest = IsBadLine before rest × (2 < line) × Contains line_words (first_word rest) × (h : TraceHead) × HasHead h before × ¬ IsTraceLine h (first_line rest)
IsTraceCode Order line before rest = IsBadLine before rest × (2 < line) × Contains line_words (first_word rest) × (h : TraceHead) × HasHead h before × IsTraceLine h (first_line rest)
IsTraceCode NoMemory line before rest = ⊥

-- The lines before the one that the fault names begin a trace; that one isn't there or doesn't end, or with it they begin none, for the reason that the fault gives.
pub record IsTraceRefusal (bytes : List ℕ) (fault : TextError) : Type 0 where
  pub before : List ℕ
  pub rest : List ℕ
  pub parts : bytes ≡ before ++ rest
  pub lines : AreLines before
  pub starts : IsTraceStart before
  pub line : fault.line ≡ suc (line_feeds before)
  pub code : IsTraceCode fault.code fault.line before rest
  pub cause : fault.cause ≡ trace_cause rest
