-- The line that a refused trace's fault names, and why.
use Rattle.std.proofs.Common.{◌≡◌, ℕ, zero, suc, ◌+◌, ◌-◌, ◌^◌, ◌<◌, ◌≤◌, Bool, ◌||◌, true, false, eqb, List, [], ◌∷◌, ◌++◌, length, take, drop, None, Some, refl, sym, ap, subst, ◌∙◌, append_assoc, arith, inl, inr}
use Rattle.std.specs.Prelude.{codes, IsTrue, ◌↔◌, Contains}
use Rattle.std.proofs.lemmas.Option.{none-some, some_pair_parts}
use Rattle.std.proofs.lemmas.List.{length-append, append-nil, take-append-drop}
use Rattle.std.proofs.lemmas.List.Sums.{count_by-le-length}
use Rattle.std.proofs.Math.Seq.{take-append_seam, drop-append_seam}
use Rattle.text_fields.specs.Fields.{number, word}
use Rattle.text_fields.specs.Reading.{after}
use Rattle.text_fields.proofs.Laws.{after_takes}
use Rattle.tl_types.specs.Line.{length_of}
use Rattle.tl_types.specs.declared.line.LineSize.{LineSize}
use Rattle.tl_types.specs.declared.line.LineSize.TheVariants.{Bytes16, Bytes64}
use Rattle.machine_types.specs.declared.limits.TheConstants.{MIN_KIB}
use Rattle.elf_loader.specs.Size.{base}
use Rattle.trace_text.specs.Causes.{trace_cause}
use Rattle.trace_text.specs.declared.fault.TextCode.{TextCode}
use Rattle.trace_text.specs.declared.fault.TextCode.TheVariants.{Header, Word, Fields, Order, End, NoMemory}
use Rattle.trace_text.specs.declared.head.TraceHead.{TraceHead}
use Rattle.trace_text.specs.AnyLines.{IsVersion}
use Rattle.trace_text.specs.Refusals.{line_feeds, has_line_feed, first_word}
use Rattle.trace_text.specs.Scripts.{is_first_version}
use Rattle.trace_text.specs.TraceLines.{head_at}
use Rattle.trace_text.specs.TraceHeads.{IsTraceHead}
use Rattle.trace_text.specs.TraceLimits.{IsTrace}
use Rattle.trace_text.specs.TraceRefusals.{AreLines, first_line, line_words, HasHead, IsTraceStart, IsTraceCode, IsTraceRefusal}
use Rattle.trace_text.specs.TraceSections.{trace_at}
use Rattle.trace_text.specs.TraceStops.{StopsIn, IsTraceLeft, IsHeaderLeft, IsHeaderCode, IsLineCode}
use Rattle.trace_text.specs.Traces.{head, text}
use Rattle.trace_text.proofs.FirstLines.{IsLine, alike_first, line_ended, lines_none, one_line}
use Rattle.trace_text.proofs.HeaderLines.{first_bad, second_bad, two_lines}
use Rattle.trace_text.proofs.HeadLaws.{head_reads}
use Rattle.trace_text.proofs.Refusals.{is_parted_word, word_is, parted, not_both}
use Rattle.trace_text.proofs.WholeStops.{head_starts}
use Rattle.trace_text.proofs.WholeTraces.{trace_again}

-- ---- the line's number

abbrev number_at : List ℕ → ℕ → ℕ
number_at bytes left = suc (line_feeds (take (length bytes - left) bytes))

feeds_fit : (n : ℕ) (xs : List ℕ) → line_feeds (take n xs) ≤ length xs
feeds_fit n xs =
    let long : length (take n xs) + length (drop n xs) ≡ length xs = sym (length-append (take n xs) (drop n xs)) ∙ ap length (take-append-drop n xs) in
    omega (arith, count_by-le-length (λ b. eqb b 10) (take n xs), long)

-- Not each byte is a line feed, where the first isn't.
few_lines : (n : ℕ) (xs : List ℕ) → length (114 ∷ xs) < 2 ^ 64 → suc (line_feeds (take n (114 ∷ xs))) < 2 ^ 64
few_lines zero xs small = omega arith
few_lines (suc n) xs small = omega (arith, feeds_fit n xs)

abbrev first_fields : TraceHead → List ℕ
first_fields h = number 32 h.harts ++ (number 32 h.kib ++ (word h.entry ++ 10 ∷ []))

abbrev second_fields : TraceHead → List ℕ
second_fields h = number 32 h.harts ++ (number 32 h.kib ++ ((word h.entry ++ 32 ∷ []) ++ number 10 (length_of h.line)))

-- the bytes before the line that begins where so many are left
pub before_is : (bytes before rest : List ℕ) (left : ℕ) → bytes ≡ before ++ rest → left ≡ length rest → (take (length bytes - left) bytes ≡ before) × (drop (length bytes - left) bytes ≡ rest)
before_is bytes before rest left parts long =
    let n : length bytes - left ≡ length before = omega (arith, ap length parts, length-append before rest, long) in (
      ap (λ i. take i bytes) n ∙ ap (take (length before)) parts ∙ take-append_seam before rest,
      ap (λ i. drop i bytes) n ∙ ap (drop (length before)) parts ∙ drop-append_seam before rest,
    )

refused_at : (bytes before rest : List ℕ) (left line : ℕ) (found : List ℕ) (code : TextCode) → bytes ≡ before ++ rest → left ≡ length rest → AreLines before → IsTraceStart before → number_at bytes left < 2 ^ 64
    → (number_at bytes left < 2 ^ 64 → line ≡ number_at bytes left) → found ≡ drop (length bytes - left) bytes → (line ≡ suc (line_feeds before) → found ≡ rest → IsTraceCode code line before rest) → IsTraceRefusal bytes (record { line = line; code = code; cause = trace_cause found })
refused_at bytes before rest left line found code parts long lines starts few numbered at fault =
    let w = before_is bytes before rest left parts long in
    let number : line ≡ suc (line_feeds before) = numbered few ∙ ap (λ u. suc (line_feeds u)) w.0 in
    record {
      before = before;
      rest = rest;
      parts = parts;
      lines = lines;
      starts = starts;
      line = number;
      code = fault number (at ∙ w.1);
      cause = ap trace_cause (at ∙ w.1);
    }

-- ---- behind a header

head_begins : (h : TraceHead) (later : List ℕ) → (xs : List ℕ) × (head h ++ later ≡ 114 ∷ xs)
head_begins h later = go (is_first_version h.harts h.line) refl
  where
    go : (v : Bool) → is_first_version h.harts h.line ≡ v → (xs : List ℕ) × (head h ++ later ≡ 114 ∷ xs)
    go true e = ((codes "vtl-trace 1\nT " ++ first_fields h) ++ later, rw e refl)
    go false e = ((codes "vtl-trace 2\nT " ++ second_fields h) ++ later, rw e refl)

few_behind : (bytes xs : List ℕ) (n : ℕ) → bytes ≡ 114 ∷ xs → length bytes < 2 ^ 64 → suc (line_feeds (take n bytes)) < 2 ^ 64
few_behind bytes xs n e small = subst (λ (u : List ℕ). suc (line_feeds (take n u)) < 2 ^ 64) (sym e) (few_lines n xs (subst (λ (u : List ℕ). length u < 2 ^ 64) e small))

line_fault : (h : TraceHead) (code : TextCode) (line : ℕ) (before rest found : List ℕ) → HasHead h before → 2 < line → (has_line_feed rest ≡ true → ¬ IsTraceStart (before ++ first_line rest)) → IsLineCode h code found → found ≡ rest → IsTraceCode code line before rest
line_fault h End line before rest found at late bad fault same = subst (IsLineCode h End) same fault
line_fault h Header line before rest found at late bad fault same = absurd fault
line_fault h Word line before rest found at late bad fault same = let f = subst (IsLineCode h Word) same fault in ((f.0, bad f.0), late, f.1)
line_fault h Fields line before rest found at late bad fault same = let f = subst (IsLineCode h Fields) same fault in ((f.0, bad f.0), late, f.1, h, at, f.2)
line_fault h Order line before rest found at late bad fault same = let f = subst (IsLineCode h Order) same fault in ((f.0, bad f.0), late, f.1, h, at, f.2)
line_fault h NoMemory line before rest found at late bad fault same = absurd fault

no_start : (bytes : List ℕ) (left : ℕ) (w : StopsIn text IsTrace trace_at bytes left) → has_line_feed w.rest ≡ true → ¬ IsTraceStart (w.before ++ first_line w.rest)
no_start bytes left w feed (t, more, fits, e) =
    let never : trace_at (w.before ++ (first_line w.rest ++ more)) ≡ None = w.never (first_line w.rest ++ more) (alike_first w.rest more feed) in
    let whole : w.before ++ (first_line w.rest ++ more) ≡ text t ++ [] = sym (append_assoc w.before (first_line w.rest) more) ∙ e ∙ sym (append-nil (text t)) in
    none-some (t, []) (sym never ∙ ap trace_at whole ∙ trace_again t [] fits)

-- the header that was read is the one that stands there
same_head : (bytes before rest : List ℕ) (h k : TraceHead) (later : List ℕ) → Some (h, later) ≡ head_at bytes → bytes ≡ before ++ rest → HasHead k before → k ≡ h
same_head bytes before rest h k later read parts (more, fits, at) =
    let whole : bytes ≡ head k ++ (more ++ rest) = parts ∙ ap (λ u. u ++ rest) at ∙ append_assoc (head k) more rest in
    (some_pair_parts k h (more ++ rest) later (sym (head_reads.again k (more ++ rest) fits) ∙ ap head_at (sym whole) ∙ sym read)).0

two_lines_before : (h : TraceHead) (before : List ℕ) → HasHead h before → 2 ≤ line_feeds before
two_lines_before h before (more, fits, at) = subst (λ u. 2 ≤ line_feeds u) (sym at) (two_lines h more fits)

refused_later : (bytes xs : List ℕ) (h : TraceHead) (left line : ℕ) (found : List ℕ) (code : TextCode) → bytes ≡ 114 ∷ xs → length bytes < 2 ^ 64 → (w : StopsIn text IsTrace trace_at bytes left) → HasHead h w.before
    → (number_at bytes left < 2 ^ 64 → line ≡ number_at bytes left) → found ≡ drop (length bytes - left) bytes → IsLineCode h code found → IsTraceRefusal bytes (record { line = line; code = code; cause = trace_cause found })
refused_later bytes xs h left line found code first small w has numbered at fault =
    refused_at bytes w.before w.rest left line found code w.parts w.long w.lines w.starts (few_behind bytes xs (length bytes - left) first small)
    numbered at (λ number same. line_fault h code line w.before w.rest found has (omega (arith, number, two_lines_before h w.before has)) (no_start bytes left w) fault same)

pub refused_behind : (bytes : List ℕ) (h : TraceHead) (later : List ℕ) (left line : ℕ) (found : List ℕ) (code : TextCode) → Some (h, later) ≡ head_at bytes → IsTraceLeft bytes left → length bytes < 2 ^ 64
    → (number_at bytes left < 2 ^ 64 → line ≡ number_at bytes left) → found ≡ drop (length bytes - left) bytes → IsLineCode h code found → IsTraceRefusal bytes (record { line = line; code = code; cause = trace_cause found })
refused_behind bytes h later left line found code read (inl none) small numbered at fault = absurd (none-some (h, later) (sym none ∙ sym read))
refused_behind bytes h later left line found code read (inr (w, (k, has))) small numbered at fault =
    let first = head_begins h later in
    let same : k ≡ h = same_head bytes w.before w.rest h k later read w.parts has in
    refused_later bytes first.0 h left line found code ((head_reads.takes bytes h later (sym read)).0 ∙ first.1) small w (subst (λ j. HasHead j w.before) same has) numbered at fault

-- ---- in the header

abbrev least_head : LineSize → TraceHead
least_head s = record { harts = 1; kib = MIN_KIB; entry = base; line = s }

least_fits : (s : LineSize) → IsTraceHead (least_head s)
least_fits s = record {
  some_hart = omega arith;
  few_harts = omega arith;
  memory = record { whole_pages = refl; at_least = omega arith; at_most = omega arith };
  aligned = refl;
  from = omega arith;
  inside = omega arith;
}

start_of : (front later : List ℕ) → IsTraceStart (front ++ later) → IsTraceStart front
start_of front later (t, more, fits, e) = (t, later ++ more, fits, sym (append_assoc front later more) ∙ e)

version_starts : (line : List ℕ) → IsVersion line → IsTraceStart line
version_starts line (inl e) = subst IsTraceStart (sym e) (start_of (codes "rvtl-trace 1\n") (codes "T " ++ first_fields (least_head Bytes16)) (head_starts (least_head Bytes16) (least_fits Bytes16)))
version_starts line (inr e) = subst IsTraceStart (sym e) (start_of (codes "rvtl-trace 2\n") (codes "T " ++ second_fields (least_head Bytes64)) (head_starts (least_head Bytes64) (least_fits Bytes64)))

nothing_starts : IsTraceStart []
nothing_starts = start_of [] (codes "rvtl-trace 1\n") (version_starts (codes "rvtl-trace 1\n") (inl refl))

version_line : (line : List ℕ) → IsVersion line → IsLine line
version_line line (inl e) = subst IsLine (sym e) (line_ended (codes "rvtl-trace 1") refl)
version_line line (inr e) = subst IsLine (sym e) (line_ended (codes "rvtl-trace 2") refl)

version_feeds : (line : List ℕ) → IsVersion line → line_feeds line ≡ 1
version_feeds line (inl e) = ap line_feeds e
version_feeds line (inr e) = ap line_feeds e

header_fault : (code : TextCode) (line : ℕ) (before rest found : List ℕ) → line ≤ 2 → (has_line_feed rest ≡ true → ¬ IsTraceStart (before ++ first_line rest)) → IsHeaderCode code found → found ≡ rest → IsTraceCode code line before rest
header_fault End line before rest found early bad fault same = subst (IsHeaderCode End) same fault
header_fault Header line before rest found early bad fault same = let feed = subst (IsHeaderCode Header) same fault in ((feed, bad feed), early)
header_fault Word line before rest found early bad fault same = absurd fault
header_fault Fields line before rest found early bad fault same = absurd fault
header_fault Order line before rest found early bad fault same = absurd fault
header_fault NoMemory line before rest found early bad fault same = absurd fault

refused_early : (bytes before rest : List ℕ) (left line : ℕ) (found : List ℕ) (code : TextCode) → bytes ≡ before ++ rest → left ≡ length rest → AreLines before → IsTraceStart before → line_feeds before ≤ 1 → (has_line_feed rest ≡ true → ¬ IsTraceStart (before ++ first_line rest))
    → (number_at bytes left < 2 ^ 64 → line ≡ number_at bytes left) → found ≡ drop (length bytes - left) bytes → IsHeaderCode code found → IsTraceRefusal bytes (record { line = line; code = code; cause = trace_cause found })
refused_early bytes before rest left line found code parts long lines starts few bad numbered at fault =
    let front = (before_is bytes before rest left parts long).0 in
    refused_at bytes before rest left line found code parts long lines starts (subst (λ u. suc (line_feeds u) < 2 ^ 64) (sym front) (omega (arith, few)))
    numbered at (λ number same. header_fault code line before rest found (omega (arith, number, few)) bad fault same)

pub refused_ahead : (bytes : List ℕ) (left line : ℕ) (found : List ℕ) (code : TextCode) → None ≡ head_at bytes → IsHeaderLeft bytes left
    → (number_at bytes left < 2 ^ 64 → line ≡ number_at bytes left) → found ≡ drop (length bytes - left) bytes → IsHeaderCode code found → IsTraceRefusal bytes (record { line = line; code = code; cause = trace_cause found })
refused_ahead bytes left line found code read (inl (one, two, long)) numbered at fault = refused_early bytes [] bytes left line found code refl long lines_none nothing_starts (omega arith) (first_bad bytes one two) numbered at fault
refused_ahead bytes left line found code read (inr (front, rest, is, parts, long)) numbered at fault =
    let whole = version_line front is in
    refused_early bytes front rest left line found code parts long (one_line front whole) (version_starts front is) (omega (arith, version_feeds front is)) (second_bad front bytes rest whole parts read) numbered at fault

pub version_left : (text bytes rest : List ℕ) → Some rest ≡ after text bytes → IsVersion text → IsHeaderLeft bytes (length rest)
version_left text bytes rest led is = inr (text, rest, is, after_takes text bytes rest (sym led), refl)

pub all_left : (bytes : List ℕ) → None ≡ after (codes "rvtl-trace 1\n") bytes → None ≡ after (codes "rvtl-trace 2\n") bytes → IsHeaderLeft bytes (length bytes)
all_left bytes one two = inl (sym one, sym two, refl)

-- ---- first words

some_word : (line : List ℕ) (a b c d e f g : Bool) → is_parted_word line (codes "rvtl-trace") ≡ a → is_parted_word line (codes "T") ≡ b → is_parted_word line (codes "I") ≡ c → is_parted_word line (codes "R") ≡ d → is_parted_word line (codes "P") ≡ e → is_parted_word line (codes "M") ≡ f → is_parted_word line (codes "H") ≡ g
    → ((((((a || b) || c) || d) || e) || f) || g) ≡ true → Contains line_words (first_word line)
some_word line true b c d e f g pa pb pc pd pe pf pg t = (0, omega arith, sym (word_is (codes "rvtl-trace") line refl pa))
some_word line false true c d e f g pa pb pc pd pe pf pg t = (1, omega arith, sym (word_is (codes "T") line refl pb))
some_word line false false true d e f g pa pb pc pd pe pf pg t = (2, omega arith, sym (word_is (codes "I") line refl pc))
some_word line false false false true e f g pa pb pc pd pe pf pg t = (3, omega arith, sym (word_is (codes "R") line refl pd))
some_word line false false false false true f g pa pb pc pd pe pf pg t = (4, omega arith, sym (word_is (codes "P") line refl pe))
some_word line false false false false false true g pa pb pc pd pe pf pg t = (5, omega arith, sym (word_is (codes "M") line refl pf))
some_word line false false false false false false true pa pb pc pd pe pf pg t = (6, omega arith, sym (word_is (codes "H") line refl pg))
some_word line false false false false false false false pa pb pc pd pe pf pg t = absurd cc

is_other : (line : List ℕ) → has_line_feed line ≡ true → is_parted_word line (codes "rvtl-trace") ≡ false → is_parted_word line (codes "T") ≡ false → is_parted_word line (codes "I") ≡ false → is_parted_word line (codes "R") ≡ false → is_parted_word line (codes "P") ≡ false → is_parted_word line (codes "M") ≡ false → is_parted_word line (codes "H") ≡ false → ¬ Contains line_words (first_word line)
is_other line whole pa pb pc pd pe pf pg (zero, lt, e) = not_both _ ((parted (codes "rvtl-trace") line refl whole).1 (sym e)) pa
is_other line whole pa pb pc pd pe pf pg ((suc zero), lt, e) = not_both _ ((parted (codes "T") line refl whole).1 (sym e)) pb
is_other line whole pa pb pc pd pe pf pg ((suc (suc zero)), lt, e) = not_both _ ((parted (codes "I") line refl whole).1 (sym e)) pc
is_other line whole pa pb pc pd pe pf pg ((suc (suc (suc zero))), lt, e) = not_both _ ((parted (codes "R") line refl whole).1 (sym e)) pd
is_other line whole pa pb pc pd pe pf pg ((suc (suc (suc (suc zero)))), lt, e) = not_both _ ((parted (codes "P") line refl whole).1 (sym e)) pe
is_other line whole pa pb pc pd pe pf pg ((suc (suc (suc (suc (suc zero))))), lt, e) = not_both _ ((parted (codes "M") line refl whole).1 (sym e)) pf
is_other line whole pa pb pc pd pe pf pg ((suc (suc (suc (suc (suc (suc zero)))))), lt, e) = not_both _ ((parted (codes "H") line refl whole).1 (sym e)) pg
is_other line whole pa pb pc pd pe pf pg ((suc (suc (suc (suc (suc (suc (suc k))))))), lt, e) = absurd (omega (arith, lt))

sure_word : (line : List ℕ) → has_line_feed line ≡ true → (a b c d e f g : Bool) → is_parted_word line (codes "rvtl-trace") ≡ a → is_parted_word line (codes "T") ≡ b → is_parted_word line (codes "I") ≡ c → is_parted_word line (codes "R") ≡ d → is_parted_word line (codes "P") ≡ e → is_parted_word line (codes "M") ≡ f → is_parted_word line (codes "H") ≡ g
    → Contains line_words (first_word line) → ((((((a || b) || c) || d) || e) || f) || g) ≡ true
sure_word line whole true b c d e f g pa pb pc pd pe pf pg w = refl
sure_word line whole false true c d e f g pa pb pc pd pe pf pg w = refl
sure_word line whole false false true d e f g pa pb pc pd pe pf pg w = refl
sure_word line whole false false false true e f g pa pb pc pd pe pf pg w = refl
sure_word line whole false false false false true f g pa pb pc pd pe pf pg w = refl
sure_word line whole false false false false false true g pa pb pc pd pe pf pg w = refl
sure_word line whole false false false false false false true pa pb pc pd pe pf pg w = refl
sure_word line whole false false false false false false false pa pb pc pd pe pf pg w = absurd (is_other line whole pa pb pc pd pe pf pg w)

pub known : (line : List ℕ) (v : Bool) → has_line_feed line ≡ true
    → v ≡ ((((((is_parted_word line (codes "rvtl-trace") || is_parted_word line (codes "T")) || is_parted_word line (codes "I")) || is_parted_word line (codes "R")) || is_parted_word line (codes "P")) || is_parted_word line (codes "M")) || is_parted_word line (codes "H"))
    → IsTrue v ↔ Contains line_words (first_word line)
known line v whole e = (λ t. some_word line _ _ _ _ _ _ _ refl refl refl refl refl refl refl (sym e ∙ t), λ w. e ∙ sure_word line whole _ _ _ _ _ _ _ refl refl refl refl refl refl refl w)
