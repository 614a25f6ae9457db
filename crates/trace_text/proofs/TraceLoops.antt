-- What the loops of a trace's reader keep.
use Rattle.std.proofs.Common.{◌≡◌, ℕ, ◌+◌, ◌<◌, ◌≤◌, leb, List, [], ◌∷◌, ◌++◌, length, Option, Some, None, refl, sym, ap, ◌∙◌, arith}
use Rattle.std.specs.Prelude.{codes, decimal}
use Rattle.std.proofs.lemmas.Bool.{le-leb, lt-leb}
use Rattle.std.proofs.lemmas.Fmt.{decimal_digit}
use Rattle.std.proofs.lemmas.List.{length-append}
use Rattle.machine_types.specs.declared.limits.TheConstants.{MAX_ENTRIES, MAX_HARTS}
use Rattle.hart.specs.declared.retired.Retired.{Retired}
use Rattle.text_fields.specs.Fields.{number}
use Rattle.text_fields.specs.Reading.{◌>>=◌, after, guarded, section_at}
use Rattle.text_fields.proofs.Loops.{Sections, fronted, section_starts, section_more, section_fails, section_ends}
use Rattle.trace_recorder.specs.declared.operation.OpId.{OpId}
use Rattle.trace_recorder.specs.declared.logged.Logged.{Logged}
use Rattle.trace_text.specs.declared.head.TraceHead.{TraceHead}
use Rattle.trace_text.specs.declared.fault.Stop.{Stop}
use Rattle.trace_text.specs.declared.fault.Stop.TheVariants as stops
use Rattle.trace_text.specs.Reading.{Fails}
use Rattle.trace_text.specs.TraceHeads.{IsTraceHead}
use Rattle.trace_text.specs.Traces.{retired_lead, retired_text}
use Rattle.trace_text.specs.TraceLines.{retired_at, operation_at, logged_at}
use Rattle.trace_text.specs.TraceSections.{entries_at, performed_at, log_at}
use Rattle.tl_types.specs.Message.{channel_of}
use Rattle.trace_text.specs.Words as words
use Rattle.trace_text.proofs.TraceLaws.{op, operation_reads, retired_reads, logged_fields, logged_reads}

pub digit_is : (first h : ℕ) → h < 8 → first ∷ 32 ∷ (48 + h) ∷ 32 ∷ [] ≡ first ∷ 32 ∷ number 32 h
digit_is first h lt = rw (decimal_digit h (omega arith)) refl

pub fails_passed : {Y W : Type 0} (stop : Stop) (a : Option Y) (b : Option W) → Fails stop a → (a ≡ None → b ≡ None) → Fails stop b
fails_passed (stops.Memory left) a b h f = tt
fails_passed (stops.Bytes left) a b h f = f h

-- ---- each line takes something

op_long : (o : OpId) → 0 < length (op o)
op_long o = omega (arith, length-append (number 32 o.hart) (number 10 o.place), length-append (decimal o.hart) (32 ∷ []))

pub operation_shortens : (harts : ℕ) → 0 < harts → harts ≤ MAX_HARTS → (bytes : List ℕ) (x : OpId) (rest : List ℕ) → operation_at harts bytes ≡ Some (x, rest) → length rest < length bytes
operation_shortens harts some le bytes x rest e = omega (arith, ap length ((operation_reads harts some le).takes bytes x rest e).0, length-append (op x) rest, op_long x)

pub retired_shortens : (bytes : List ℕ) (x : Retired) (rest : List ℕ) → retired_at bytes ≡ Some (x, rest) → length rest < length bytes
retired_shortens bytes x rest e = let long : 0 < length (retired_text x) = omega arith in omega (arith, ap length (retired_reads.takes bytes x rest e).0, length-append (retired_text x) rest, long)

logged_long : (l : Logged) → 0 < length (logged_fields l)
logged_long l =
    let hart : List ℕ = number 32 l.hart ++ (words.message l.message ++ 10 ∷ []) in
    omega (arith, length-append (words.direction l.direction) (words.channel (channel_of l.message) ++ hart), length-append (words.channel (channel_of l.message)) hart, length-append (number 32 l.hart) (words.message l.message ++ 10 ∷ []), length-append (words.message l.message) (10 ∷ []))

pub logged_shortens : (h : TraceHead) → IsTraceHead h → (bytes : List ℕ) (x : Logged) (rest : List ℕ) → logged_at h.harts h.kib h.line bytes ≡ Some (x, rest) → length rest < length bytes
logged_shortens h t bytes x rest e = omega (arith, ap length ((logged_reads h t.some_hart t.few_harts t.memory.at_most).takes bytes x rest e).0, length-append (logged_fields x) rest, logged_long x)

-- ---- sections

pub performed_starts : (harts : ℕ) (bytes : List ℕ) → Sections (codes "P ") (operation_at harts) [] bytes (performed_at harts bytes)
unfolding performed_at
performed_starts harts bytes = section_starts (codes "P ") (operation_at harts) bytes

pub log_starts : (h : TraceHead) (bytes : List ℕ) → Sections (codes "M ") (logged_at h.harts h.kib h.line) [] bytes (log_at h bytes)
unfolding log_at
log_starts h bytes = section_starts (codes "M ") (logged_at h.harts h.kib h.line) bytes

-- a hart's entries so far, and those still to be read, are all that stand there
pub record Entries (hart : ℕ) (front : List Retired) (rest bytes : List ℕ) : Type 0 where
  pub lines : Sections (retired_lead hart) retired_at front rest (section_at (retired_lead hart) retired_at (length bytes) bytes)
  pub few : length front ≤ MAX_ENTRIES

pub entries_start : (hart : ℕ) (bytes : List ℕ) → Entries hart [] bytes bytes
entries_start hart bytes = record { lines = section_starts (retired_lead hart) retired_at bytes; few = omega arith }

pub entries_more : (hart : ℕ) (front : List Retired) (rest fields later bytes : List ℕ) (x : Retired) → length front < MAX_ENTRIES → Some fields ≡ after (retired_lead hart) rest → Some (x, later) ≡ retired_at fields → Entries hart front rest bytes → Entries hart (front ++ x ∷ []) later bytes
entries_more hart front rest fields later bytes x room led read h =
    record { lines = section_more (retired_lead hart) retired_at retired_shortens front rest fields later x _ led read h.lines; few = omega (arith, length-append front (x ∷ [])) }

abbrev pub tested : Option (List Retired × List ℕ) → Option (List Retired × List ℕ)
tested r = r >>= λ x. guarded (leb (length x.0) MAX_ENTRIES) x

pub entries_are : (hart : ℕ) (bytes : List ℕ) → entries_at hart bytes ≡ tested (section_at (retired_lead hart) retired_at (length bytes) bytes)
unfolding entries_at
entries_are hart bytes = refl

pub entries_fail : (hart : ℕ) (front : List Retired) (rest fields bytes : List ℕ) → Some fields ≡ after (retired_lead hart) rest → None ≡ retired_at fields → Entries hart front rest bytes → entries_at hart bytes ≡ None
entries_fail hart front rest fields bytes led read h =
    entries_are hart bytes ∙ ap tested (section_fails (retired_lead hart) retired_at front rest fields _ (omega arith) led read h.lines)

pub entries_end : (hart : ℕ) (front : List Retired) (rest bytes : List ℕ) → None ≡ after (retired_lead hart) rest → Entries hart front rest bytes → entries_at hart bytes ≡ Some (front, rest)
entries_end hart front rest bytes led h =
    entries_are hart bytes ∙ ap tested (section_ends (retired_lead hart) retired_at front rest _ led h.lines) ∙ rw (le-leb _ _ h.few) refl

too_long : (front : List Retired) (r total : Option (List Retired × List ℕ)) → MAX_ENTRIES < length front → fronted front r ≡ total → tested total ≡ None
too_long front None total long e = ap tested (sym e)
too_long front (Some x) total long e = let more : MAX_ENTRIES < length (front ++ x.0) = omega (arith, length-append front x.0) in ap tested (sym e) ∙ rw (lt-leb _ _ more) refl

-- a line more than a hart may have
pub entries_full : (hart : ℕ) (front : List Retired) (rest fields later bytes : List ℕ) (x : Retired) → length front ≡ MAX_ENTRIES → Some fields ≡ after (retired_lead hart) rest → Some (x, later) ≡ retired_at fields → Entries hart front rest bytes → entries_at hart bytes ≡ None
entries_full hart front rest fields later bytes x full led read h =
    let more = section_more (retired_lead hart) retired_at retired_shortens front rest fields later x _ led read h.lines in
    entries_are hart bytes ∙ too_long (front ++ x ∷ []) (section_at (retired_lead hart) retired_at more.fuel later) _ (omega (arith, length-append front (x ∷ []))) more.same
