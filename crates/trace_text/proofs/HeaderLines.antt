-- The two lines of a trace's header.
use Rattle.std.proofs.Common.{◌≡◌, ℕ, ◌+◌, ◌^◌, ◌<◌, ◌≤◌, Bool, true, false, cond, eqb, List, [], ◌∷◌, ◌++◌, Some, None, refl, sym, ap, subst, ◌∙◌, append_assoc, arith}
use Rattle.std.specs.Prelude.{codes}
use Rattle.std.proofs.lemmas.Option.{none-some}
use Rattle.std.proofs.lemmas.List.Sums.{sum_by-append}
use Rattle.text_fields.specs.Fields.{number, word}
use Rattle.text_fields.specs.Reading.{after}
use Rattle.text_fields.proofs.Laws.{after_again, some_is}
use Rattle.tl_types.specs.Line.{length_of}
use Rattle.trace_recorder.specs.History.{History}
use Rattle.trace_text.specs.declared.head.TraceHead.{TraceHead}
use Rattle.trace_text.specs.Refusals.{line_feeds, has_line_feed}
use Rattle.trace_text.specs.Scripts.{is_first_version}
use Rattle.trace_text.specs.TraceHeads.{IsTraceHead}
use Rattle.trace_text.specs.TraceLines.{head_at}
use Rattle.trace_text.specs.TraceRefusals.{IsTraceStart, AreLines, first_line}
use Rattle.trace_text.specs.Traces.{head_of, head, text}
use Rattle.trace_text.proofs.FirstLines.{IsLine, first_whole, first_parts, alike_first, line_behind, line_ended, lines_append, one_line}
use Rattle.trace_text.proofs.HeadLaws.{head_reads}
use Rattle.trace_text.proofs.LineFeeds.{first_numbers_line, second_numbers_line}

abbrev first : TraceHead → Bool
first h = is_first_version h.harts h.line

abbrev version : TraceHead → List ℕ
version h = cond (first h) (codes "rvtl-trace 1\n") (codes "rvtl-trace 2\n")

abbrev numbers : TraceHead → List ℕ
numbers h = cond (first h) (number 32 h.harts ++ (number 32 h.kib ++ (word h.entry ++ 10 ∷ []))) (number 32 h.harts ++ (number 32 h.kib ++ ((word h.entry ++ 32 ∷ []) ++ number 10 (length_of h.line))))

abbrev second_line : TraceHead → List ℕ
second_line h = codes "T " ++ numbers h

head_is : (h : TraceHead) → head h ≡ version h ++ second_line h
head_is h = go (first h) refl
  where
    go : (v : Bool) → first h ≡ v → head h ≡ version h ++ second_line h
    go true e = rw e refl
    go false e = rw e refl

version_line : (h : TraceHead) → IsLine (version h)
version_line h = go (first h)
  where
    go : (v : Bool) → IsLine (cond v (codes "rvtl-trace 1\n") (codes "rvtl-trace 2\n"))
    go true = line_ended (codes "rvtl-trace 1") refl
    go false = line_ended (codes "rvtl-trace 2") refl

numbers_line : (h : TraceHead) → IsTraceHead h → IsLine (second_line h)
numbers_line h t =
    let harts : h.harts < 2 ^ 64 = omega (arith, t.few_harts) in
    let kib : h.kib < 2 ^ 64 = omega (arith, t.memory.at_most) in
    line_behind (codes "T ") (numbers h) refl (go (first h) (first_numbers_line h harts kib) (second_numbers_line h harts kib))
  where
    go : (v : Bool) {a b : List ℕ} → IsLine a → IsLine b → IsLine (cond v a b)
    go true x y = x
    go false x y = y

pub head_lines : (h : TraceHead) → IsTraceHead h → AreLines (head h)
head_lines h t = subst AreLines (sym (head_is h)) (lines_append (version h) (second_line h) (one_line (version h) (version_line h)) (one_line (second_line h) (numbers_line h t)))

-- ---- how many lines

feeds_append : (xs ys : List ℕ) → line_feeds (xs ++ ys) ≡ line_feeds xs + line_feeds ys
feeds_append xs ys = sum_by-append (λ b. cond (eqb b 10) 1 0) xs ys

feeds_some : (line : List ℕ) → IsLine line → 0 < line_feeds line
feeds_some line l = omega (arith, ap line_feeds l.whole, feeds_append l.front (10 ∷ []))

pub two_lines : (h : TraceHead) (later : List ℕ) → IsTraceHead h → 2 ≤ line_feeds (head h ++ later)
two_lines h later t =
    omega (
      arith,
      feeds_append (head h) later,
      ap line_feeds (head_is h),
      feeds_append (version h) (second_line h),
      feeds_some (version h) (version_line h),
      feeds_some (second_line h) (numbers_line h t),
    )

-- ---- a header's line that is none

text_is : (t : History) → (later : List ℕ) × (text t ≡ version (head_of t) ++ (second_line (head_of t) ++ later))
text_is t = go (head_of t) _
  where
    go : (h : TraceHead) (later : List ℕ) → (rest : List ℕ) × (head h ++ later ≡ version h ++ (second_line h ++ rest))
    go h later = (later, ap (λ u. u ++ later) (head_is h) ∙ append_assoc (version h) (second_line h) later)

-- one of them stands first
version_stands : (h : TraceHead) (bytes later : List ℕ) → bytes ≡ version h ++ later → after (codes "rvtl-trace 1\n") bytes ≡ None → after (codes "rvtl-trace 2\n") bytes ≡ None → ⊥
version_stands h bytes later e one two = go (first h) (ap (after (version h)) e ∙ after_again (version h) later)
  where
    go : (v : Bool) → after (cond v (codes "rvtl-trace 1\n") (codes "rvtl-trace 2\n")) bytes ≡ Some later → ⊥
    go true f = none-some later (sym one ∙ f)
    go false f = none-some later (sym two ∙ f)

pub first_bad : (bytes : List ℕ) → after (codes "rvtl-trace 1\n") bytes ≡ None → after (codes "rvtl-trace 2\n") bytes ≡ None → has_line_feed bytes ≡ true → ¬ IsTraceStart ([] ++ first_line bytes)
first_bad bytes one two feed (t, more, fits, e) =
    let x = text_is t in
    let line : first_line bytes ≡ version (head_of t) = sym (alike_first bytes more feed).1 ∙ ap first_line (e ∙ x.1) ∙ first_whole (version (head_of t)) (second_line (head_of t) ++ x.0) (version_line (head_of t)) in
    let parts = first_parts bytes in
    version_stands (head_of t) bytes parts.0 (parts.1 ∙ ap (λ u. u ++ parts.0) line) one two

pub same_behind : (line x y : List ℕ) → line ++ x ≡ line ++ y → x ≡ y
same_behind line x y e = some_is x y (sym (after_again line x) ∙ ap (after line) e ∙ after_again line y)

pub second_bad : (line bytes rest : List ℕ) → IsLine line → bytes ≡ line ++ rest → None ≡ head_at bytes → has_line_feed rest ≡ true → ¬ IsTraceStart (line ++ first_line rest)
second_bad line bytes rest whole at none feed (t, more, fits, e) =
    let h : TraceHead = head_of t in
    let x = text_is t in
    let both : line ++ (first_line rest ++ more) ≡ version h ++ (second_line h ++ x.0) = sym (append_assoc line (first_line rest) more) ∙ e ∙ x.1 in
    let same : line ≡ version h = sym (first_whole line (first_line rest ++ more) whole) ∙ ap first_line both ∙ first_whole (version h) (second_line h ++ x.0) (version_line h) in
    let behind : first_line rest ++ more ≡ second_line h ++ x.0 = same_behind line _ _ (both ∙ ap (λ u. u ++ (second_line h ++ x.0)) (sym same)) in
    let numbers : first_line rest ≡ second_line h = sym (alike_first rest more feed).1 ∙ ap first_line behind ∙ first_whole (second_line h) x.0 (numbers_line h fits.head) in
    let parts = first_parts rest in
    let found : bytes ≡ head h ++ parts.0 =
    at ∙ ap (λ u. line ++ u) (parts.1 ∙ ap (λ u. u ++ parts.0) numbers) ∙ ap (λ u. u ++ (second_line h ++ parts.0)) same ∙ sym (append_assoc (version h) (second_line h) parts.0) ∙ ap (λ u. u ++ parts.0) (sym (head_is h)) in
    none-some (h, parts.0) (none ∙ ap head_at found ∙ head_reads.again h parts.0 fits.head)
