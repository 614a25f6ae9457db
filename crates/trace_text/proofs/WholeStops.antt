-- A trace stops where one of its sections does.
use Rattle.std.proofs.Common.{◌≡◌, ℕ, ◌*◌, ◌/◌, List, [], ◌++◌, length, Some, refl, sym, ap, subst, ◌∙◌, append_assoc, arith, inr}
use Rattle.std.specs.Prelude.{replicate, Result, Ok, Err, IfErr, IsErrAnd}
use Rattle.std.specs.List.{flat_map, AllByRecursion}
use Rattle.std.proofs.lemmas.List.{length-replicate}
use Rattle.hart.specs.declared.retired.Retired.{Retired}
use Rattle.hart.specs.declared.status.Status.{Status}
use Rattle.hart.specs.declared.status.Status.TheVariants.{Running}
use Rattle.elf_loader.specs.Size.{base}
use Rattle.text_fields.specs.Fields.{numbered, IsBytes}
use Rattle.text_fields.specs.Reading.{◌>>=◌, numbered_at}
use Rattle.tl_types.specs.Line.{length_of}
use Rattle.trace_recorder.specs.declared.operation.OpId.{OpId}
use Rattle.trace_recorder.specs.declared.logged.Logged.{Logged}
use Rattle.trace_recorder.specs.History.{History}
use Rattle.trace_text.specs.declared.fault.Stop.{Stop}
use Rattle.trace_text.specs.declared.fault.Stop.TheVariants as stops
use Rattle.trace_text.specs.declared.head.TraceHead.{TraceHead}
use Rattle.trace_text.specs.TraceHeads.{IsTraceHead}
use Rattle.trace_text.specs.TraceLimits.{IsHart, IsOperation, IsLogged, IsStatus, IsTrace}
use Rattle.trace_text.specs.TraceLines.{head_at}
use Rattle.trace_text.specs.TraceRefusals.{IsTraceStart}
use Rattle.trace_text.specs.TraceSections.{entries_at, performed_at, log_at, trace_at}
use Rattle.trace_text.specs.TraceStops.{AreAll, StopsIn, IsMemoryStop, IsEntriesStop, IsPerformedStop, IsLogStop, IsStatusesStop, IsTraceLeft, IsTraceStop}
use Rattle.trace_text.specs.Traces.{head, image_lines, entries, operation, logged, status, text}
use Rattle.trace_text.proofs.FirstLines.{lines_append}
use Rattle.trace_text.proofs.HeadLaws.{head_reads}
use Rattle.trace_text.proofs.HeaderLines.{head_lines}
use Rattle.trace_text.proofs.ImageLaws.{zeros_small}
use Rattle.trace_text.proofs.ImageStops.{memory_keeps}
use Rattle.trace_text.proofs.SectionStops.{performed_keeps, log_keeps, lists_keep}
use Rattle.trace_text.proofs.Stopping.{first_stops, then_stops, last_stops, same_fits}
use Rattle.trace_text.proofs.WholeTraces.{made_of, some_of, same_head, trace_fits, memory_at, after_log, after_performed, after_entries, after_memory}

-- ---- what is still to be read, from each section on

abbrev Messages : Type 0
Messages = List Logged × List Status

abbrev messages : Messages → List ℕ
messages p = flat_map logged p.0 ++ numbered status 0 p.1

abbrev AreMessages : TraceHead → Messages → Type 0
AreMessages h p = AllByRecursion (IsLogged h) p.0 × AreAll IsStatus h.harts p.1

abbrev Operations : Type 0
Operations = List OpId × Messages

abbrev operations : Operations → List ℕ
operations p = flat_map operation p.0 ++ messages p.1

abbrev AreOperations : TraceHead → Operations → Type 0
AreOperations h p = AllByRecursion (IsOperation h.harts) p.0 × AreMessages h p.1

abbrev Lists : Type 0
Lists = List (List Retired) × Operations

abbrev lists : Lists → List ℕ
lists p = numbered entries 0 p.0 ++ operations p.1

abbrev AreLists : TraceHead → Lists → Type 0
AreLists h p = AreAll IsHart h.harts p.0 × AreOperations h p.1

abbrev Parts : Type 0
Parts = List ℕ × Lists

abbrev memory : TraceHead → List ℕ → List ℕ
memory h m = image_lines (length_of h.line) (h.kib * 1024 / length_of h.line) base m

abbrev parts_text : TraceHead → Parts → List ℕ
parts_text h p = memory h p.0 ++ lists p.1

abbrev AreParts : TraceHead → Parts → Type 0
AreParts h p = IsBytes (h.kib * 1024) p.0 × AreLists h p.1

-- ---- what fills a trace up

abbrev running : TraceHead → List Status
running h = replicate h.harts Running

running_fit : (h : TraceHead) → AreAll IsStatus h.harts (running h)
running_fit h = same_fits IsStatus h.harts Running tt

abbrev no_messages : TraceHead → Messages
no_messages h = ([], running h)

messages_fit : (h : TraceHead) → AreMessages h (no_messages h)
messages_fit h = (tt, running_fit h)

abbrev no_operations : TraceHead → Operations
no_operations h = ([], no_messages h)

operations_fit : (h : TraceHead) → AreOperations h (no_operations h)
operations_fit h = (tt, messages_fit h)

abbrev no_lists : TraceHead → Lists
no_lists h = (replicate h.harts [], no_operations h)

lists_fit : (h : TraceHead) → AreLists h (no_lists h)
lists_fit h = (same_fits IsHart h.harts [] (tt, omega arith), operations_fit h)

-- ---- a trace of these parts

abbrev trace_of : TraceHead → Parts → History
trace_of h p = made_of h p.0 p.1.0 p.1.1.0 p.1.1.1.0 p.1.1.1.1

parts_fit : (h : TraceHead) (p : Parts) → IsTraceHead h → AreParts h p → IsTrace (trace_of h p)
parts_fit h p t f = trace_fits h p.0 p.1.0 p.1.1.0 p.1.1.1.0 p.1.1.1.1 t f.0 f.1.0.0 f.1.0.1 f.1.1.0 f.1.1.1.0 f.1.1.1.1.0 f.1.1.1.1.1

parts_spelled : (h : TraceHead) (p : Parts) → AreParts h p → head h ++ parts_text h p ≡ text (trace_of h p)
parts_spelled h p f =
    let same = same_head h p.0 p.1.0 p.1.1.0 p.1.1.1.0 p.1.1.1.1 f.0.len f.1.1.1.1.0 in
    ap (λ (n : ℕ). head h ++ (image_lines (length_of h.line) (n / length_of h.line) base p.0 ++ lists p.1)) (sym f.0.len)
    ∙ ap (λ (k : TraceHead). head k ++ (image_lines (length_of h.line) (length p.0 / length_of h.line) base p.0 ++ lists p.1)) same

-- a header with nothing in its memory
pub head_starts : (h : TraceHead) → IsTraceHead h → IsTraceStart (head h)
head_starts h t =
    let p : Parts = (replicate (h.kib * 1024) 0, no_lists h) in
    let fits : AreParts h p = (record { len = length-replicate (h.kib * 1024) 0; small = zeros_small (h.kib * 1024) }, lists_fit h) in
    (trace_of h p, parts_text h p, parts_fit h p t fits, parts_spelled h p fits)

trace_stops : (bytes : List ℕ) (h : TraceHead) (rest : List ℕ) (left : ℕ) → head_at bytes ≡ Some (h, rest) → StopsIn (parts_text h) (AreParts h) (λ b. memory_at h b >>= after_memory h) rest left → IsTraceLeft bytes left
unfolding trace_at
trace_stops bytes h rest left read w =
    let t = head_reads.takes bytes h rest read in
    let x = w.starts in
    let stop : StopsIn text IsTrace trace_at bytes left = record {
      before = head h ++ w.before;
      rest = w.rest;
      parts = t.0 ∙ ap (λ u. head h ++ u) w.parts ∙ sym (append_assoc (head h) w.before w.rest);
      lines = lines_append (head h) w.before (head_lines h t.1) w.lines;
      starts = (trace_of h x.0, x.1, parts_fit h x.0 t.1 x.2, append_assoc (head h) w.before x.1 ∙ ap (λ u. head h ++ u) x.3 ∙ parts_spelled h x.0 x.2);
      never = λ other a. ap trace_at (append_assoc (head h) w.before other) ∙ rw (head_reads.again h (w.before ++ other) t.1) (w.never other a);
      long = w.long;
    } in
    inr (stop, (h, (w.before, t.1, refl)))

-- ---- each section

pub memory_stop : (bytes : List ℕ) (h : TraceHead) (rest : List ℕ) (stop : Stop) → head_at bytes ≡ Some (h, rest) → IsMemoryStop (length_of h.line) (h.kib * 1024) rest stop → IsTraceStop bytes stop
memory_stop bytes h rest (stops.Memory left) read w = tt
memory_stop bytes h rest (stops.Bytes left) read w = trace_stops bytes h rest left read (first_stops lists (AreLists h) (after_memory h) (no_lists h) (lists_fit h) rest left w)

behind_memory : (bytes : List ℕ) (h : TraceHead) (r1 m r2 : List ℕ) (left : ℕ) → head_at bytes ≡ Some (h, r1) → memory_at h r1 ≡ Some (m, r2) → StopsIn lists (AreLists h) (λ b. after_memory h (m, b)) r2 left → IsTraceLeft bytes left
behind_memory bytes h r1 m r2 left read_head read w = trace_stops bytes h r1 left read_head (then_stops (after_memory h) (memory_keeps h.line h.kib) r1 m r2 left read w)

pub entries_stop : (bytes : List ℕ) (h : TraceHead) (r1 m r2 : List ℕ) (stop : Stop) → head_at bytes ≡ Some (h, r1) → memory_at h r1 ≡ Some (m, r2) → IsEntriesStop h.harts r2 stop → IsTraceStop bytes stop
entries_stop bytes h r1 m r2 (stops.Memory left) read_head read_memory w = tt
entries_stop bytes h r1 m r2 (stops.Bytes left) read_head read_memory w =
    behind_memory bytes h r1 m r2 left read_head read_memory (first_stops operations (AreOperations h) (after_entries h m) (no_operations h) (operations_fit h) r2 left w)

behind_lists : (bytes : List ℕ) (h : TraceHead) (t : IsTraceHead h) (r1 m r2 : List ℕ) (e : List (List Retired)) (r3 : List ℕ) (left : ℕ) → head_at bytes ≡ Some (h, r1) → memory_at h r1 ≡ Some (m, r2) → numbered_at entries_at h.harts 0 r2 ≡ Some (e, r3)
    → StopsIn operations (AreOperations h) (λ b. after_entries h m (e, b)) r3 left → IsTraceLeft bytes left
behind_lists bytes h t r1 m r2 e r3 left read_head read_memory read w = behind_memory bytes h r1 m r2 left read_head read_memory (then_stops (after_entries h m) (lists_keep h.harts t.few_harts) r2 e r3 left read w)

pub performed_stop : (bytes : List ℕ) (h : TraceHead) (t : IsTraceHead h) (r1 m r2 : List ℕ) (e : List (List Retired)) (r3 : List ℕ) (stop : Stop) → head_at bytes ≡ Some (h, r1) → memory_at h r1 ≡ Some (m, r2) → numbered_at entries_at h.harts 0 r2 ≡ Some (e, r3)
    → IsPerformedStop h.harts r3 stop → IsTraceStop bytes stop
performed_stop bytes h t r1 m r2 e r3 (stops.Memory left) read_head read_memory read_lists w = tt
performed_stop bytes h t r1 m r2 e r3 (stops.Bytes left) read_head read_memory read_lists w =
    behind_lists bytes h t r1 m r2 e r3 left read_head read_memory read_lists (first_stops messages (AreMessages h) (after_performed h m e) (no_messages h) (messages_fit h) r3 left w)

behind_performed : (bytes : List ℕ) (h : TraceHead) (t : IsTraceHead h) (r1 m r2 : List ℕ) (e : List (List Retired)) (r3 : List ℕ) (p : List OpId) (r4 : List ℕ) (left : ℕ) → head_at bytes ≡ Some (h, r1) → memory_at h r1 ≡ Some (m, r2) → numbered_at entries_at h.harts 0 r2 ≡ Some (e, r3) → performed_at h.harts r3 ≡ Some (p, r4)
    → StopsIn messages (AreMessages h) (λ b. after_performed h m e (p, b)) r4 left → IsTraceLeft bytes left
behind_performed bytes h t r1 m r2 e r3 p r4 left read_head read_memory read_lists read w =
    behind_lists bytes h t r1 m r2 e r3 left read_head read_memory read_lists (then_stops (after_performed h m e) (performed_keeps h.harts t.some_hart t.few_harts) r3 p r4 left read w)

pub log_stop : (bytes : List ℕ) (h : TraceHead) (t : IsTraceHead h) (r1 m r2 : List ℕ) (e : List (List Retired)) (r3 : List ℕ) (p : List OpId) (r4 : List ℕ) (stop : Stop) → head_at bytes ≡ Some (h, r1) → memory_at h r1 ≡ Some (m, r2) → numbered_at entries_at h.harts 0 r2 ≡ Some (e, r3) → performed_at h.harts r3 ≡ Some (p, r4)
    → IsLogStop h r4 stop → IsTraceStop bytes stop
log_stop bytes h t r1 m r2 e r3 p r4 (stops.Memory left) read_head read_memory read_lists read_performed w = tt
log_stop bytes h t r1 m r2 e r3 p r4 (stops.Bytes left) read_head read_memory read_lists read_performed w =
    behind_performed bytes h t r1 m r2 e r3 p r4 left read_head read_memory read_lists read_performed (first_stops (numbered status 0) (AreAll IsStatus h.harts) (after_log h m e p) (running h) (running_fit h) r4 left w)

pub statuses_stop : (bytes : List ℕ) (h : TraceHead) (t : IsTraceHead h) (r1 m r2 : List ℕ) (e : List (List Retired)) (r3 : List ℕ) (p : List OpId) (r4 : List ℕ) (l : List Logged) (r5 : List ℕ) (stop : Stop) → head_at bytes ≡ Some (h, r1) → memory_at h r1 ≡ Some (m, r2) → numbered_at entries_at h.harts 0 r2 ≡ Some (e, r3) → performed_at h.harts r3 ≡ Some (p, r4)
    → log_at h r4 ≡ Some (l, r5) → IsStatusesStop h.harts r5 stop → IsTraceStop bytes stop
statuses_stop bytes h t r1 m r2 e r3 p r4 l r5 (stops.Memory left) read_head read_memory read_lists read_performed read w = tt
statuses_stop bytes h t r1 m r2 e r3 p r4 l r5 (stops.Bytes left) read_head read_memory read_lists read_performed read w =
    behind_performed bytes h t r1 m r2 e r3 p r4 left read_head read_memory read_lists read_performed
    (then_stops (after_log h m e p) (log_keeps h t) r4 l r5 left read (last_stops (λ s. some_of (made_of h m e p l s.0) s.1) r5 left w))

pub stops_with : {T : Type 0} (bytes : List ℕ) (r : Result T Stop) (stop : Stop) → IsErrAnd r (λ y. y ≡ stop) → IsTraceStop bytes stop → IfErr r (IsTraceStop bytes)
stops_with bytes (Ok x) stop e h = tt
stops_with bytes (Err y) stop e h = subst (IsTraceStop bytes) (sym e) h
