-- Where the sections of a trace stop.
use Rattle.std.proofs.Common.{◌≡◌, ℕ, ◌<◌, ◌≤◌, leb, List, [], ◌++◌, length, Some, None, refl, sym, ap, ◌∙◌, arith}
use Rattle.std.specs.Prelude.{codes}
use Rattle.std.specs.List.{flat_map, AllByRecursion}
use Rattle.std.proofs.lemmas.Bool.{le-leb}
use Rattle.std.proofs.lemmas.List.{append-nil}
use Rattle.machine_types.specs.declared.limits.TheConstants.{MAX_ENTRIES, MAX_HARTS}
use Rattle.hart.specs.declared.retired.Retired.{Retired}
use Rattle.hart.specs.declared.status.Status.{Status}
use Rattle.hart.specs.declared.status.Status.TheVariants.{Running}
use Rattle.text_fields.specs.Fields.{numbered}
use Rattle.text_fields.specs.Reading.{after, section_at, numbered_at}
use Rattle.text_fields.proofs.Laws.{bind_some, guarded_takes}
use Rattle.trace_recorder.specs.declared.operation.OpId.{OpId}
use Rattle.trace_recorder.specs.declared.logged.Logged.{Logged}
use Rattle.trace_text.specs.declared.fault.Stop.{Stop}
use Rattle.trace_text.specs.declared.fault.Stop.TheVariants as stops
use Rattle.trace_text.specs.declared.head.TraceHead.{TraceHead}
use Rattle.trace_text.specs.TraceHeads.{IsTraceHead}
use Rattle.trace_text.specs.TraceLimits.{IsHart, IsRetired, IsOperation, IsLogged, IsStatus}
use Rattle.trace_text.specs.TraceLines.{retired_at, operation_at, logged_at}
use Rattle.trace_text.specs.TraceSections.{entries_at, performed_at, log_at, status_lead, status_line_at}
use Rattle.trace_text.specs.TraceStops.{AreAll, StopsIn, IsHartStop, IsEntriesStop}
use Rattle.trace_text.specs.Traces.{retired_lead, retired_text, entries, operation, logged, status}
use Rattle.trace_text.proofs.FirstLines.{IsLine, after_alike, line_alike, line_behind, line_read}
use Rattle.trace_text.proofs.LineFeeds.{plain_retired_lead, plain_status_lead, retired_line, operation_line, logged_line, status_word_line}
use Rattle.trace_text.proofs.Stopping.{Keeps, Passed, Counted, counted_stops, line_keeps, line_stops, section_keeps, section_lines, section_reached, section_stops, numbered_keeps}
use Rattle.trace_text.proofs.TraceLaws.{operation_reads, retired_reads, logged_reads}
use Rattle.trace_text.proofs.TraceLoops.{Entries, tested, entries_are, entries_fail, entries_full}
use Rattle.trace_text.proofs.WholeTraces.{entries_take, status_line_reads}

-- ---- operations and messages

abbrev pub PassedOperations : ℕ → List OpId → List ℕ → List ℕ → Type 0
PassedOperations harts = Passed operation (IsOperation harts)

pub performed_keeps : (harts : ℕ) → 0 < harts → harts ≤ MAX_HARTS → Keeps (flat_map operation) (AllByRecursion (IsOperation harts)) (performed_at harts)
unfolding performed_at
performed_keeps harts some few = section_keeps (codes "P ") refl (omega arith) (operation_reads harts some few) (operation_line harts few)

pub performed_stops : (harts : ℕ) → 0 < harts → harts ≤ MAX_HARTS → (front : List OpId) (rest fields bytes : List ℕ) → Some fields ≡ after (codes "P ") rest → None ≡ operation_at harts fields
    → PassedOperations harts front rest bytes → StopsIn (flat_map operation) (AllByRecursion (IsOperation harts)) (performed_at harts) bytes (length rest)
unfolding performed_at
performed_stops harts some few front rest fields bytes led none h = section_stops (codes "P ") refl (omega arith) (operation_reads harts some few) (operation_line harts few) front rest fields bytes led none h

abbrev pub PassedMessages : TraceHead → List Logged → List ℕ → List ℕ → Type 0
PassedMessages head = Passed logged (IsLogged head)

pub log_keeps : (h : TraceHead) → IsTraceHead h → Keeps (flat_map logged) (AllByRecursion (IsLogged h)) (log_at h)
unfolding log_at
log_keeps h t = section_keeps (codes "M ") refl (omega arith) (logged_reads h t.some_hart t.few_harts t.memory.at_most) (logged_line h t.few_harts)

pub log_stops : (h : TraceHead) → IsTraceHead h → (front : List Logged) (rest fields bytes : List ℕ) → Some fields ≡ after (codes "M ") rest → None ≡ logged_at h.harts h.kib h.line fields
    → PassedMessages h front rest bytes → StopsIn (flat_map logged) (AllByRecursion (IsLogged h)) (log_at h) bytes (length rest)
unfolding log_at
log_stops h t front rest fields bytes led none w = section_stops (codes "M ") refl (omega arith) (logged_reads h t.some_hart t.few_harts t.memory.at_most) (logged_line h t.few_harts) front rest fields bytes led none w

-- ---- what a hart has retired

abbrev pub PassedEntries : ℕ → List Retired → List ℕ → List ℕ → Type 0
PassedEntries hart = Passed (λ r. retired_lead hart ++ retired_text r) IsRetired

lead_some : (hart : ℕ) → 0 < length (retired_lead hart)
lead_some hart = omega arith

pub entries_keep : (hart : ℕ) → hart < MAX_HARTS → Keeps (entries hart) IsHart (entries_at hart)
entries_keep hart small =
    let law = section_keeps (retired_lead hart) (plain_retired_lead hart small) (lead_some hart) retired_reads retired_line in
    record {
      takes = λ bytes xs rest e. entries_take hart bytes xs rest e;
      keeps = λ bytes xs rest other e a.
          let p = bind_some (section_at (retired_lead hart) retired_at (length bytes) bytes) (λ x. tested (Some x)) (xs, rest) (sym (entries_are hart bytes) ∙ e) in
          let g = guarded_takes (leb (length p.0.0) MAX_ENTRIES) p.0 (xs, rest) p.2 in
          let read = p.1 ∙ ap (λ x. Some x) g.1 in
          let few = (entries_take hart bytes xs rest e).1.1 in
          entries_are hart (entries hart xs ++ other) ∙ ap tested (law.keeps bytes xs rest other read a) ∙ rw (le-leb _ _ few) refl;
      lines = λ xs h. section_lines (retired_lead hart) (plain_retired_lead hart small) retired_line xs h.0;
    }

reached : (hart : ℕ) (front : List Retired) (other : List ℕ) → AllByRecursion IsRetired front → length front ≤ MAX_ENTRIES → Entries hart front other (entries hart front ++ other)
reached hart front other each few = record { lines = section_reached (retired_lead hart) retired_reads (lead_some hart) front other each; few = few }

pub entries_stop : (hart : ℕ) → hart < MAX_HARTS → (front : List Retired) (rest fields bytes : List ℕ) → length front ≤ MAX_ENTRIES → Some fields ≡ after (retired_lead hart) rest → None ≡ retired_at fields
    → PassedEntries hart front rest bytes → StopsIn (entries hart) IsHart (entries_at hart) bytes (length rest)
entries_stop hart small front rest fields bytes few led none w = record {
  before = entries hart front;
  rest = rest;
  parts = w.parts;
  lines = section_lines (retired_lead hart) (plain_retired_lead hart small) retired_line front w.each;
  starts = (front, [], (w.each, few), append-nil (entries hart front));
  never = λ other a.
      let later = after_alike (retired_lead hart) rest other fields (plain_retired_lead hart small) a (sym led) in
      entries_fail hart front other later.0 (entries hart front ++ other) (sym later.1) (sym (line_alike retired_reads retired_line fields later.0 (sym none) later.2)) (reached hart front other w.each few);
  long = refl;
}

-- a line more than a hart may have
pub entries_stop_full : (hart : ℕ) → hart < MAX_HARTS → (front : List Retired) (rest fields later bytes : List ℕ) (x : Retired) → length front ≡ MAX_ENTRIES → Some fields ≡ after (retired_lead hart) rest → Some (x, later) ≡ retired_at fields
    → PassedEntries hart front rest bytes → StopsIn (entries hart) IsHart (entries_at hart) bytes (length rest)
entries_stop_full hart small front rest fields later bytes x full led read w = record {
  before = entries hart front;
  rest = rest;
  parts = w.parts;
  lines = section_lines (retired_lead hart) (plain_retired_lead hart small) retired_line front w.each;
  starts = (front, [], (w.each, omega arith), append-nil (entries hart front));
  never = λ other a.
      let on = after_alike (retired_lead hart) rest other fields (plain_retired_lead hart small) a (sym led) in
      let again = line_read retired_reads retired_line fields on.0 later x (sym read) on.2 in
      entries_full hart front other on.0 again.0 (entries hart front ++ other) x full (sym on.1) (sym again.1) (reached hart front other w.each (omega arith));
  long = refl;
}

pub lists_keep : (harts : ℕ) → harts ≤ MAX_HARTS → Keeps (numbered entries 0) (AreAll IsHart harts) (numbered_at entries_at harts 0)
lists_keep harts few = numbered_keeps entries IsHart entries_at MAX_HARTS entries_take entries_keep harts few

-- ---- statuses

status_line : (hart : ℕ) → hart < MAX_HARTS → (s : Status) → IsStatus s → IsLine (status hart s)
status_line hart small s fits = line_behind (status_lead hart) _ (plain_status_lead hart small) (status_word_line s fits)

pub status_keeps : (hart : ℕ) → hart < MAX_HARTS → Keeps (status hart) IsStatus (status_line_at hart)
status_keeps hart small = line_keeps (status_line_reads hart) (status_line hart small)

pub status_stops : (hart : ℕ) → hart < MAX_HARTS → (rest : List ℕ) → status_line_at hart rest ≡ None → StopsIn (status hart) IsStatus (status_line_at hart) rest (length rest)
status_stops hart small rest none = line_stops (status_line_reads hart) (status_line hart small) Running tt rest none

-- ---- loops over harts

abbrev pub PassedLists : ℕ → ℕ → List (List Retired) → List ℕ → List ℕ → Type 0
PassedLists harts hart = Counted entries IsHart entries_at harts hart

abbrev pub PassedStatuses : ℕ → ℕ → List Status → List ℕ → List ℕ → Type 0
PassedStatuses harts hart = Counted status IsStatus status_line_at harts hart

pub lists_stop : (harts hart : ℕ) (front : List (List Retired)) (rest bytes : List ℕ) (stop : Stop) → hart < harts → harts ≤ MAX_HARTS → IsHartStop hart rest stop → PassedLists harts hart front rest bytes → IsEntriesStop harts bytes stop
lists_stop harts hart front rest bytes (stops.Memory left) lt few w h = tt
lists_stop harts hart front rest bytes (stops.Bytes left) lt few w h =
    counted_stops entries IsHart entries_at MAX_HARTS harts hart [] front rest bytes left (λ k x small fits. (entries_keep k small).lines x fits) (tt, omega arith) lt few w h

pub statuses_stop : (harts hart : ℕ) (front : List Status) (rest bytes : List ℕ) → hart < harts → harts ≤ MAX_HARTS → status_line_at hart rest ≡ None → PassedStatuses harts hart front rest bytes → StopsIn (numbered status 0) (AreAll IsStatus harts) (numbered_at status_line_at harts 0) bytes (length rest)
statuses_stop harts hart front rest bytes lt few none h =
    counted_stops status IsStatus status_line_at MAX_HARTS harts hart Running front rest bytes (length rest) (λ k x small fits. (status_keeps k small).lines x fits) tt lt few (status_stops hart (omega arith) rest none) h
