-- What is read as a trace is spelled so, and what is spelled so is read, whatever follows.
use Rattle.std.proofs.Common.{◌≡◌, ℕ, suc, ◌+◌, ◌-◌, ◌*◌, ◌/◌, ◌^◌, ◌<◌, ◌≤◌, false, eqb, leb, List, [], ◌∷◌, ◌++◌, length, map, take, Global, Vec, Option, Some, None, Result, Ok, Err, refl, sym, ap, subst, ◌∙◌, append_assoc, arith, inl, inr}
use Rattle.std.specs.Prelude.{codes, IfOk}
use Rattle.std.specs.List.{All, flat_map, AllByRecursion}
use Rattle.std.proofs.lemmas.Bool.{leb-true, le-leb}
use Rattle.std.proofs.lemmas.List.{length-append, length-map, take_at}
use Rattle.std.proofs.lemmas.List.Elements.{All-cons, All-nil}
use Rattle.std.proofs.lemmas.List.Concat.{flat_map-cons}
use Rattle.std.proofs.lemmas.Option.{some_pair_parts}
use Rattle.machine_types.specs.declared.limits.TheConstants.{MAX_ENTRIES, MAX_HARTS, MAX_KIB}
use Rattle.elf_loader.specs.Size.{base}
use Rattle.hart.specs.declared.retired.Retired.{Retired}
use Rattle.hart.specs.declared.status.Status.{Status}
use Rattle.tl_types.specs.Line.{length_of}
use Rattle.tl_types.specs.declared.line.LineSize.{LineSize}
use Rattle.tl_types.specs.declared.line.LineSize.TheVariants.{Bytes16, Bytes64}
use Rattle.text_fields.specs.Fields.{number, numbered, IsBytes}
use Rattle.text_fields.specs.Reading.{◌>>=◌, led_at, after, number_at, guarded, section_at, numbered_at}
use Rattle.text_fields.proofs.Laws.{Reads, bind_some, some_is, led_reads, number_reads, after_not, guarded_takes, section_takes, section_again, leads_apart, starts, starts_section}
use Rattle.text_fields.proofs.Numbered.{numbered_takes, numbered_again}
use Rattle.trace_recorder.specs.declared.operation.OpId.{OpId}
use Rattle.trace_recorder.specs.declared.logged.Logged.{Logged}
use Rattle.trace_recorder.specs.History.{History, Recorded}
use Rattle.trace_recorder.specs.Limits.{AreWithinLimits}
use Rattle.trace_text.specs.Reading.{IsReadOrRefused, IsNoMemory}
use Rattle.trace_text.specs.declared.fault.TextError.{TextError}
use Rattle.trace_text.specs.declared.head.TraceHead.{TraceHead}
use Rattle.trace_text.specs.TraceHeads.{IsTraceHead}
use Rattle.trace_text.specs.Traces.{head_of, head, image_lines, image, retired_lead, retired_text, entries, operation, logged, status, text}
use Rattle.trace_text.specs.TraceLimits.{IsHart, IsOperation, IsLogged, IsStatus, IsTrace, IsReadAs}
use Rattle.trace_text.specs.TraceLines.{head_at, retired_at}
use Rattle.trace_text.specs.TraceSections.{image_lines_at, entries_at, performed_at, log_at, status_lead, status_line_at, trace_at, counted}
use Rattle.trace_text.proofs.TraceLaws.{op, operation_reads, retired_reads, logged_fields, logged_reads, status_reads}
use Rattle.trace_text.proofs.HeadLaws.{head_reads}
use Rattle.trace_text.proofs.ImageLaws.{lines_take, lines_again}

-- ---- what harts have retired

pub entries_take : (h : ℕ) (bytes : List ℕ) (xs : List Retired) (rest : List ℕ) → entries_at h bytes ≡ Some (xs, rest) → (bytes ≡ entries h xs ++ rest) × IsHart xs
unfolding entries_at
entries_take h bytes xs rest e =
    let p = bind_some (section_at (retired_lead h) retired_at (length bytes) bytes) (λ x. guarded (leb (length x.0) MAX_ENTRIES) x) (xs, rest) e in
    let g = guarded_takes (leb (length p.0.0) MAX_ENTRIES) p.0 (xs, rest) p.2 in
    let t = section_takes (retired_lead h) retired_reads (length bytes) bytes p.0.0 p.0.1 p.1 in
    subst (λ (y : List Retired × List ℕ). (bytes ≡ entries h y.0 ++ y.1) × IsHart y.0) g.1 (t.0, (t.1, leb-true _ _ g.0))

entries_again : (h : ℕ) (xs : List Retired) (rest : List ℕ) → IsHart xs → after (retired_lead h) rest ≡ None → entries_at h (entries h xs ++ rest) ≡ Some (xs, rest)
unfolding entries_at
entries_again h xs rest fits off =
    let one = section_again (retired_lead h) retired_reads (omega arith) (length (entries h xs ++ rest)) xs rest fits.0 off (omega (arith, length-append (entries h xs) rest)) in
    rw (one, le-leb _ _ fits.1) refl

starts_entries : (c h : ℕ) (es : List (List Retired)) (rest : List ℕ) → eqb 82 c ≡ false → starts c rest ≡ false → starts c (numbered entries h es ++ rest) ≡ false
starts_entries c h [] rest e f = f
starts_entries c h (xs ∷ more) rest e f =
    ap (starts c) (append_assoc (entries h xs) (numbered entries (suc h) more) rest)
    ∙ starts_section c 82 (32 ∷ number 32 h) retired_text xs (numbered entries (suc h) more ++ rest) e (starts_entries c (suc h) more rest e f)

-- no later hart's lines are this one's
later_entries : (k h : ℕ) (es : List (List Retired)) (rest : List ℕ) → k < h → h + length es ≤ MAX_HARTS → starts 82 rest ≡ false → after (retired_lead k) (numbered entries h es ++ rest) ≡ None
later_entries k h [] rest lt le f = after_not 82 (32 ∷ number 32 k) rest f
later_entries k h ([] ∷ more) rest lt le f = later_entries k (suc h) more rest (omega arith) (omega arith) f
later_entries k h ((x ∷ xs) ∷ more) rest lt le f =
    let others : List ℕ = numbered entries (suc h) more ++ rest in
    let parts : numbered entries h ((x ∷ xs) ∷ more) ++ rest ≡ retired_lead h ++ (retired_text x ++ (entries h xs ++ others)) =
    append_assoc (entries h (x ∷ xs)) (numbered entries (suc h) more) rest
    ∙ ap (λ t. t ++ others) (flat_map-cons (λ r. retired_lead h ++ retired_text r) x xs)
    ∙ append_assoc (retired_lead h ++ retired_text x) (entries h xs) others
    ∙ append_assoc (retired_lead h) (retired_text x) (entries h xs ++ others) in
    let lead_law : Reads retired_lead (λ n. n ≤ 7) (led_at (codes "R ") (number_at 32 7)) = led_reads (codes "R ") (number_reads 32 7 (omega arith) (omega arith)) in
    ap (after (retired_lead k)) parts ∙ leads_apart lead_law k h (retired_text x ++ (entries h xs ++ others)) (omega arith) (omega arith) (λ e. omega arith)

abbrev items_of : Vec Retired Global → List Retired
items_of v = v.items

pub lists_take : (n : ℕ) (bytes : List ℕ) (es : List (List Retired)) (rest : List ℕ) → numbered_at entries_at n 0 bytes ≡ Some (es, rest) → (bytes ≡ numbered entries 0 es ++ rest) × ((length es ≡ n) × AllByRecursion IsHart es)
lists_take n bytes es rest e = numbered_takes entries IsHart entries_at entries_take n 0 bytes es rest e

lists_again : (n : ℕ) (es : List (List Retired)) (rest : List ℕ) → length es ≡ n → n ≤ MAX_HARTS → AllByRecursion IsHart es → starts 82 rest ≡ false → numbered_at entries_at n 0 (numbered entries 0 es ++ rest) ≡ Some (es, rest)
lists_again n es rest len le fits off =
    numbered_again entries IsHart entries_at 8 rest (λ h x more small f. entries_again h x (numbered entries (suc h) more ++ rest) f (later_entries h (suc h) more rest (omega arith) small off)) n 0 es len (omega arith) fits

-- ---- operations, messages

pub performed_take : (harts : ℕ) → 0 < harts → harts ≤ MAX_HARTS → (bytes : List ℕ) (xs : List OpId) (rest : List ℕ) → performed_at harts bytes ≡ Some (xs, rest) → (bytes ≡ flat_map operation xs ++ rest) × AllByRecursion (IsOperation harts) xs
unfolding performed_at
performed_take harts some le bytes xs rest e = section_takes (codes "P ") (operation_reads harts some le) (length bytes) bytes xs rest e

performed_again : (harts : ℕ) → 0 < harts → harts ≤ MAX_HARTS → (xs : List OpId) (rest : List ℕ) → AllByRecursion (IsOperation harts) xs → starts 80 rest ≡ false → performed_at harts (flat_map operation xs ++ rest) ≡ Some (xs, rest)
unfolding performed_at
performed_again harts some le xs rest fits off =
    section_again (codes "P ") (operation_reads harts some le) (omega arith) (length (flat_map operation xs ++ rest)) xs rest fits (after_not 80 (32 ∷ []) rest off) (omega (arith, length-append (flat_map operation xs) rest))

pub log_take : (h : TraceHead) → IsTraceHead h → (bytes : List ℕ) (xs : List Logged) (rest : List ℕ) → log_at h bytes ≡ Some (xs, rest) → (bytes ≡ flat_map logged xs ++ rest) × AllByRecursion (IsLogged h) xs
unfolding log_at
log_take h t bytes xs rest e = section_takes (codes "M ") (logged_reads h t.some_hart t.few_harts t.memory.at_most) (length bytes) bytes xs rest e

log_again : (h : TraceHead) → IsTraceHead h → (xs : List Logged) (rest : List ℕ) → AllByRecursion (IsLogged h) xs → starts 77 rest ≡ false → log_at h (flat_map logged xs ++ rest) ≡ Some (xs, rest)
unfolding log_at
log_again h t xs rest fits off =
    section_again (codes "M ") (logged_reads h t.some_hart t.few_harts t.memory.at_most) (omega arith) (length (flat_map logged xs ++ rest)) xs rest fits (after_not 77 (32 ∷ []) rest off) (omega (arith, length-append (flat_map logged xs) rest))

-- ---- statuses

pub status_line_reads : (h : ℕ) → Reads (status h) IsStatus (status_line_at h)
unfolding status_line_at
status_line_reads h = led_reads (status_lead h) status_reads

pub statuses_take : (n : ℕ) (bytes : List ℕ) (xs : List Status) (rest : List ℕ) → numbered_at status_line_at n 0 bytes ≡ Some (xs, rest) → (bytes ≡ numbered status 0 xs ++ rest) × ((length xs ≡ n) × AllByRecursion IsStatus xs)
statuses_take n bytes xs rest e = numbered_takes status IsStatus status_line_at (λ h bytes x rest e. (status_line_reads h).takes bytes x rest e) n 0 bytes xs rest e

statuses_again : (n : ℕ) (xs : List Status) (rest : List ℕ) → length xs ≡ n → n ≤ MAX_HARTS → AllByRecursion IsStatus xs → numbered_at status_line_at n 0 (numbered status 0 xs ++ rest) ≡ Some (xs, rest)
statuses_again n xs rest len le fits = numbered_again status IsStatus status_line_at 8 rest (λ h x more small f. (status_line_reads h).again x (numbered status (suc h) more ++ rest) f) n 0 xs len (omega arith) fits

starts_statuses : (c : ℕ) (xs : List Status) (rest : List ℕ) → 0 < length xs → eqb 72 c ≡ false → starts c (numbered status 0 xs ++ rest) ≡ false
starts_statuses c [] rest some e = absurd (omega arith)
starts_statuses c (s ∷ more) rest some e = e

-- ---- the image

pub width_some : (s : LineSize) → 0 < length_of s
width_some Bytes16 = omega arith
width_some Bytes64 = omega arith

pub lines_fill : (s : LineSize) (kib : ℕ) → kib * 1024 / length_of s * length_of s ≡ kib * 1024
lines_fill Bytes16 kib = omega arith
lines_fill Bytes64 kib = omega arith

pub image_take : (s : LineSize) (kib : ℕ) (bytes m rest : List ℕ) → image_lines_at (length_of s) (kib * 1024 / length_of s) base bytes ≡ Some (m, rest) → (bytes ≡ image s m ++ rest) × IsBytes (kib * 1024) m
image_take s kib bytes m rest e =
    let t = lines_take (length_of s) (kib * 1024 / length_of s) base bytes m rest e in
    let fits : IsBytes (kib * 1024) m = subst (λ n. IsBytes n m) (lines_fill s kib) t.1 in
    (t.0 ∙ ap (λ n. image_lines (length_of s) (n / length_of s) base m ++ rest) (sym fits.len), fits)

image_again : (s : LineSize) (kib : ℕ) (m rest : List ℕ) → kib ≤ MAX_KIB → IsBytes (kib * 1024) m → starts 73 rest ≡ false → image_lines_at (length_of s) (kib * 1024 / length_of s) base (image s m ++ rest) ≡ Some (m, rest)
image_again s kib m rest small fits off =
    let count : kib * 1024 / length_of s * length_of s ≡ kib * 1024 = lines_fill s kib in
    ap (λ n. image_lines_at (length_of s) (kib * 1024 / length_of s) base (image_lines (length_of s) (n / length_of s) base m ++ rest)) fits.len
    ∙ lines_again (length_of s) (kib * 1024 / length_of s) base m rest (subst (λ n. IsBytes n m) (sym count) fits) (subst (λ n. base + n ≤ 2 ^ 32) (sym count) (omega arith)) (width_some s) off

-- ---- how many are read

pub memory_count : (h : TraceHead) (bytes m rest : List ℕ) → image_lines_at (length_of h.line) (h.kib * 1024 / length_of h.line) base bytes ≡ Some (m, rest) → length m ≡ h.kib * 1024
memory_count h bytes m rest e = (image_take h.line h.kib bytes m rest e).1.len

pub lists_count : (n : ℕ) (bytes : List ℕ) (es : List (List Retired)) (rest : List ℕ) → numbered_at entries_at n 0 bytes ≡ Some (es, rest) → length es ≡ n
lists_count n bytes es rest e = (lists_take n bytes es rest e).1.0

-- no list is longer than a hart's can be
short_lists : (vs : List (Vec Retired Global)) → AllByRecursion IsHart (map items_of vs) → All (λ (v : Vec Retired Global). length v.items ≤ MAX_ENTRIES) vs
short_lists [] all = All-nil (λ (v : Vec Retired Global). length v.items ≤ MAX_ENTRIES)
short_lists (v ∷ vs) all = All-cons (λ (v : Vec Retired Global). length v.items ≤ MAX_ENTRIES) v vs all.0.1 (short_lists vs all.1)

pub lists_within : (n : ℕ) (bytes : List ℕ) (vs : List (Vec Retired Global)) (rest : List ℕ) → n ≤ MAX_HARTS → numbered_at entries_at n 0 bytes ≡ Some (map items_of vs, rest) → AreWithinLimits vs
lists_within n bytes vs rest few e =
    let t = lists_take n bytes (map items_of vs) rest e in
    let same : length (map items_of vs) ≡ length vs = length-map _ _ in
    record { harts = omega (arith, same, t.1.0, few); places = short_lists vs t.1.1 }

pub statuses_count : (n : ℕ) (bytes : List ℕ) (xs : List Status) (rest : List ℕ) → numbered_at status_line_at n 0 bytes ≡ Some (xs, rest) → length xs ≡ n
statuses_count n bytes xs rest e = (statuses_take n bytes xs rest e).1.0

-- ---- a trace

regroup : (a b c d e f rest : List ℕ) → (a ++ (b ++ (c ++ (d ++ (e ++ f))))) ++ rest ≡ a ++ (b ++ (c ++ (d ++ (e ++ (f ++ rest)))))
regroup a b c d e f rest = simp append_assoc

abbrev pub made_of : TraceHead → List ℕ → List (List Retired) → List OpId → List Logged → List Status → History
made_of h m e p l s = record { image = record { bytes = m; entry = h.entry }; line = h.line; entries = e; statuses = s; performed = p; log = l }

abbrev pub some_of : History → List ℕ → Option (History × List ℕ)
some_of t rest = Some (t, rest)

pub same_head : (h : TraceHead) (m : List ℕ) (e : List (List Retired)) (p : List OpId) (l : List Logged) (s : List Status) → length m ≡ h.kib * 1024 → length s ≡ h.harts → h ≡ head_of (made_of h m e p l s)
same_head h m e p l s len count = let kib : length m / 1024 ≡ h.kib = omega (arith, len) in rw (count, kib) refl

pub trace_fits : (h : TraceHead) (m : List ℕ) (e : List (List Retired)) (p : List OpId) (l : List Logged) (s : List Status) → IsTraceHead h → IsBytes (h.kib * 1024) m → length e ≡ h.harts → AllByRecursion IsHart e → AllByRecursion (IsOperation h.harts) p → AllByRecursion (IsLogged h) l → length s ≡ h.harts → AllByRecursion IsStatus s → IsTrace (made_of h m e p l s)
trace_fits h m e p l s fh fm le fe fp fl ls fs =
    let same = same_head h m e p l s fm.len ls in record {
      head = subst IsTraceHead same fh;
      memory = subst (λ n. IsBytes n m) (ap (λ (h : TraceHead). h.kib * 1024) same) fm;
      lists = le ∙ sym ls;
      entries = fe;
      performed = subst (λ n. AllByRecursion (IsOperation n) p) (sym ls) fp;
      log = subst (λ h. AllByRecursion (IsLogged h) l) same fl;
      statuses = fs;
    }

six_parts : (a b c d e f bytes r1 r2 r3 r4 r5 rest : List ℕ) → bytes ≡ a ++ r1 → r1 ≡ b ++ r2 → r2 ≡ c ++ r3 → r3 ≡ d ++ r4 → r4 ≡ e ++ r5 → r5 ≡ f ++ rest → bytes ≡ (a ++ (b ++ (c ++ (d ++ (e ++ f))))) ++ rest
six_parts a b c d e f bytes r1 r2 r3 r4 r5 rest ea eb ec ed ee ef = rw (ea, eb, ec, ed, ee, ef) (sym (regroup a b c d e f rest))

abbrev Taken : List ℕ → History → List ℕ → Type 0
Taken bytes t rest = (bytes ≡ text t ++ rest) × IsTrace t

made_takes : (h : TraceHead) (m : List ℕ) (e : List (List Retired)) (p : List OpId) (l : List Logged) (s : List Status) (bytes r1 r2 r3 r4 r5 rest : List ℕ) → head_at bytes ≡ Some (h, r1) → image_lines_at (length_of h.line) (h.kib * 1024 / length_of h.line) base r1 ≡ Some (m, r2) → numbered_at entries_at h.harts 0 r2 ≡ Some (e, r3)
    → performed_at h.harts r3 ≡ Some (p, r4) → log_at h r4 ≡ Some (l, r5) → numbered_at status_line_at h.harts 0 r5 ≡ Some (s, rest) → Taken bytes (made_of h m e p l s) rest
made_takes h m e p l s bytes r1 r2 r3 r4 r5 rest eh em ee ep el es =
    let th = head_reads.takes bytes h r1 eh in
    let tm = image_take h.line h.kib r1 m r2 em in
    let te = lists_take h.harts r2 e r3 ee in
    let tp = performed_take h.harts th.1.some_hart th.1.few_harts r3 p r4 ep in
    let tl = log_take h th.1 r4 l r5 el in
    let ts = statuses_take h.harts r5 s rest es in
    let same = same_head h m e p l s tm.1.len ts.1.0 in
    let first : bytes ≡ head (head_of (made_of h m e p l s)) ++ r1 = th.0 ∙ ap (λ (k : TraceHead). head k ++ r1) same in (
      six_parts (head (head_of (made_of h m e p l s))) (image h.line m) (numbered entries 0 e) (flat_map operation p) (flat_map logged l) (numbered status 0 s) bytes r1 r2 r3 r4 r5 rest first tm.0 te.0 tp.0 tl.0 ts.0,
      trace_fits h m e p l s th.1 tm.1 te.1.0 te.1.1 tp.1 tl.1 ts.1.0 ts.1.1,
    )

abbrev pub memory_at : TraceHead → List ℕ → Option (List ℕ × List ℕ)
memory_at h bytes = image_lines_at (length_of h.line) (h.kib * 1024 / length_of h.line) base bytes

abbrev pub after_log : TraceHead → List ℕ → List (List Retired) → List OpId → List Logged × List ℕ → Option (History × List ℕ)
after_log h m e p l = numbered_at status_line_at h.harts 0 l.1 >>= λ s. some_of (made_of h m e p l.0 s.0) s.1

abbrev pub after_performed : TraceHead → List ℕ → List (List Retired) → List OpId × List ℕ → Option (History × List ℕ)
after_performed h m e p = log_at h p.1 >>= after_log h m e p.0

abbrev pub after_entries : TraceHead → List ℕ → List (List Retired) × List ℕ → Option (History × List ℕ)
after_entries h m e = performed_at h.harts e.1 >>= after_performed h m e.0

abbrev pub after_memory : TraceHead → List ℕ × List ℕ → Option (History × List ℕ)
after_memory h m = numbered_at entries_at h.harts 0 m.1 >>= after_entries h m.0

abbrev pub after_head : TraceHead × List ℕ → Option (History × List ℕ)
after_head h = memory_at h.0 h.1 >>= after_memory h.0

pub trace_takes : (bytes : List ℕ) (t : History) (rest : List ℕ) → trace_at bytes ≡ Some (t, rest) → Taken bytes t rest
unfolding trace_at
trace_takes bytes t rest e =
    let h = bind_some (head_at bytes) after_head (t, rest) e in
    let m = bind_some (memory_at h.0.0 h.0.1) (after_memory h.0.0) (t, rest) h.2 in
    let n = bind_some (numbered_at entries_at h.0.0.harts 0 m.0.1) (after_entries h.0.0 m.0.0) (t, rest) m.2 in
    let p = bind_some (performed_at h.0.0.harts n.0.1) (after_performed h.0.0 m.0.0 n.0.0) (t, rest) n.2 in
    let l = bind_some (log_at h.0.0 p.0.1) (after_log h.0.0 m.0.0 n.0.0 p.0.0) (t, rest) p.2 in
    let s = bind_some (numbered_at status_line_at h.0.0.harts 0 l.0.1) (λ s. some_of (made_of h.0.0 m.0.0 n.0.0 p.0.0 l.0.0 s.0) s.1) (t, rest) l.2 in
    let made : History = made_of h.0.0 m.0.0 n.0.0 p.0.0 l.0.0 s.0.0 in
    subst (λ (y : History × List ℕ). Taken bytes y.0 y.1) (some_is (made, s.0.1) (t, rest) s.2)
    (made_takes h.0.0 m.0.0 n.0.0 p.0.0 l.0.0 s.0.0 bytes h.0.1 m.0.1 n.0.1 p.0.1 l.0.1 s.0.1 h.1 m.1 n.1 p.1 l.1 s.1)

pub trace_again : (t : History) (rest : List ℕ) → IsTrace t → trace_at (text t ++ rest) ≡ Some (t, rest)
unfolding trace_at
trace_again t rest fits =
    let h : TraceHead = head_of t in
    let some : 0 < length t.statuses = fits.head.some_hart in
    let s : List ℕ = numbered status 0 t.statuses ++ rest in
    let l : List ℕ = flat_map logged t.log ++ s in
    let p : List ℕ = flat_map operation t.performed ++ l in
    let n : List ℕ = numbered entries 0 t.entries ++ p in
    let at_l = starts_section 80 77 (32 ∷ []) logged_fields t.log s refl (starts_statuses 80 t.statuses rest some refl) in
    let at_p = starts_section 82 80 (32 ∷ []) op t.performed l refl (starts_section 82 77 (32 ∷ []) logged_fields t.log s refl (starts_statuses 82 t.statuses rest some refl)) in
    let at_n = starts_entries 73 0 t.entries p refl (starts_section 73 80 (32 ∷ []) op t.performed l refl (starts_section 73 77 (32 ∷ []) logged_fields t.log s refl (starts_statuses 73 t.statuses rest some refl))) in
    ap trace_at (regroup (head h) (image t.line t.image.bytes) (numbered entries 0 t.entries) (flat_map operation t.performed) (flat_map logged t.log) (numbered status 0 t.statuses) rest)
    ∙ rw (
      head_reads.again h (image t.line t.image.bytes ++ n) fits.head,
      image_again t.line (length t.image.bytes / 1024) t.image.bytes n fits.head.memory.at_most fits.memory at_n,
      lists_again (length t.statuses) t.entries p fits.lists fits.head.few_harts fits.entries at_p,
      performed_again (length t.statuses) fits.head.some_hart fits.head.few_harts t.performed l fits.performed at_l,
      log_again h fits.head t.log s fits.log (starts_statuses 77 t.statuses rest some refl),
      statuses_again (length t.statuses) t.statuses rest refl fits.head.few_harts fits.statuses,
    ) refl

pub trace_shortens : (bytes : List ℕ) (t : History) (rest : List ℕ) → trace_at bytes ≡ Some (t, rest) → length rest ≤ length bytes
trace_shortens bytes t rest e = omega (arith, ap length (trace_takes bytes t rest e).0, length-append (text t) rest)

pub no_text_begins_another : (a b : History) (x y : List ℕ) → IsTrace a → IsTrace b → text a ++ x ≡ text b ++ y → (a ≡ b) × (x ≡ y)
no_text_begins_another a b x y fa fb e = some_pair_parts a b x y (sym (trace_again a x fa) ∙ ap trace_at e ∙ trace_again b y fb)

-- ---- the clauses of read_trace

abbrev Reader : Type 0
Reader = Result (Recorded × ℕ) TextError

abbrev seen : Recorded × ℕ → History × ℕ
seen x = (x.0.history, x.1)

abbrev Found : List ℕ → Recorded × ℕ → Type 0
Found bytes x = (IsTrace x.0.history × (take x.1 bytes ≡ text x.0.history)) × (x.1 ≡ length (text x.0.history))

found : (bytes : List ℕ) (x : Recorded × ℕ) (o : Option (History × List ℕ)) → trace_at bytes ≡ o → counted bytes o ≡ Some (seen x) → Found bytes x
found bytes x None e f = absurd cc
found bytes x (Some (t, rest)) e f =
    let parts = some_pair_parts t x.0.history (length bytes - length rest) x.1 f in
    let took = trace_takes bytes t rest e in
    let count : length bytes - length rest ≡ length (text t) = omega (arith, ap length took.0, length-append (text t) rest) in
    let front : take (length (text t)) bytes ≡ text t = ap (take (length (text t))) took.0 ∙ take_at (text t) rest (length (text t)) refl in
    ((subst IsTrace parts.0 took.1, ap (λ n. take n bytes) (sym parts.1 ∙ count) ∙ front ∙ ap text parts.0), sym parts.1 ∙ count ∙ ap (λ u. length (text u)) parts.0)

pub is_found : (bytes : List ℕ) (r : Reader) → IsReadOrRefused seen r (counted bytes (trace_at bytes)) → IfOk r (λ x. IsTrace x.0.history × (take x.1 bytes ≡ text x.0.history))
is_found bytes (Err e) h = tt
is_found bytes (Ok x) h = (found bytes x (trace_at bytes) refl h).0

pub is_counted : (bytes : List ℕ) (r : Reader) → IsReadOrRefused seen r (counted bytes (trace_at bytes)) → IfOk r (λ x. x.1 ≡ length (text x.0.history))
is_counted bytes (Err e) h = tt
is_counted bytes (Ok x) h = (found bytes x (trace_at bytes) refl h).1

abbrev whole : History → ℕ → Option (History × ℕ)
whole t n = Some (t, n)

read_whole : (bytes : List ℕ) (t : History) (more : List ℕ) → IsTrace t → bytes ≡ text t ++ more → counted bytes (trace_at bytes) ≡ whole t (length (text t))
read_whole bytes t more fits e =
    let count : length bytes - length more ≡ length (text t) = omega (arith, ap length e, length-append (text t) more) in
    ap (counted bytes) (ap trace_at e ∙ trace_again t more fits) ∙ ap (λ (n : ℕ). whole t n) count

clash : (t : History) (n : ℕ) → ◌≡◌ {A = Option (History × ℕ)} None (whole t n) → ⊥
clash t n e = cc

pub is_only : (bytes : List ℕ) (r : Reader) → IsReadOrRefused seen r (counted bytes (trace_at bytes)) → (t : History) (more : List ℕ) → IsTrace t → bytes ≡ text t ++ more → ¬ IsNoMemory r → IsReadAs t r
is_only bytes (Ok x) h t more fits e some = some_pair_parts x.0.history t x.1 (length (text t)) (sym h ∙ read_whole bytes t more fits e)
is_only bytes (Err f) (inl gone) t more fits e some = absurd (some gone)
is_only bytes (Err f) (inr none) t more fits e some = absurd (clash t (length (text t)) (sym none ∙ read_whole bytes t more fits e))
