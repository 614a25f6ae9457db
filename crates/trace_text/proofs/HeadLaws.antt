-- What is read of a trace's header is spelled so, and what is spelled so is read, whatever follows.
use Rattle.std.proofs.Common.{◌≡◌, ℕ, ◌^◌, ◌<◌, ◌≤◌, Bool, ◌&&◌, true, false, List, [], ◌∷◌, ◌++◌, Some, refl, sym, ap, ◌∙◌, arith, inl, inr}
use Rattle.std.specs.Prelude.{codes, not}
use Rattle.std.proofs.lemmas.Bool.{le-leb}
use Rattle.text_fields.specs.Fields.{number, word}
use Rattle.text_fields.specs.Reading.{led_at, after}
use Rattle.text_fields.proofs.Laws.{Reads, pair_reads, seen_reads, led_reads, ended_reads, guard_reads, word_reads, after_takes, behind_takes, both_true, refit}
use Rattle.tl_types.specs.Line.{length_of}
use Rattle.tl_types.specs.declared.line.LineSize.TheVariants.{Bytes16}
use Rattle.elf_loader.proofs.Sizes.{kib_passes}
use Rattle.trace_text.specs.declared.head.TraceHead.{TraceHead}
use Rattle.trace_text.specs.Scripts.{is_first_version}
use Rattle.trace_text.specs.TraceHeads.{IsTraceHead}
use Rattle.trace_text.specs.Traces.{head}
use Rattle.trace_text.specs.ScriptReading.{most, word_line_at}
use Rattle.trace_text.specs.TraceLines.{is_trace_head, first_fields_at, first_numbers_at, word_field_at, second_fields_at, second_numbers_at, head_at}
use Rattle.trace_text.proofs.LineSizes.{number_law, size_16, size_reads}
use Rattle.trace_text.proofs.TraceHeads.{trace_head_bounds}

head_passes : (h : TraceHead) → IsTraceHead h → is_trace_head h ≡ true
head_passes h t =
    rw (le-leb _ _ t.some_hart, le-leb _ _ t.few_harts, kib_passes h.kib t.memory, t.aligned, le-leb _ _ t.from, le-leb _ _ t.inside) refl

not_true : (b : Bool) → not b ≡ true → b ≡ false
not_true true e = absurd cc
not_true false e = refl

both_are : (a b : Bool) → a ≡ true → b ≡ true → (a && b) ≡ true
both_are a b e f = rw (e, f) refl

entry_small : (h : TraceHead) → IsTraceHead h → h.entry < 2 ^ 32
entry_small h t = omega (arith, t.inside, t.memory.at_most)

-- ---- version 1

abbrev pub first_numbers : TraceHead → List ℕ
first_numbers h = number 32 h.harts ++ (number 32 h.kib ++ (word h.entry ++ 10 ∷ []))

abbrev pub first : TraceHead → Bool
first h = is_first_version h.harts h.line

abbrev pub IsFirst : TraceHead → Type 0
IsFirst h = IsTraceHead h × (first h ≡ true)

abbrev FirstFields : TraceHead → Type 0
FirstFields h = (h.line ≡ Bytes16) × ((h.harts ≤ most) × ((h.kib ≤ most) × (h.entry < 2 ^ 32)))

first_to : (h : TraceHead) → FirstFields h × ((is_trace_head h && is_first_version h.harts Bytes16) ≡ true) → IsFirst h
first_to h f =
    let b = both_true (is_trace_head h) (is_first_version h.harts Bytes16) f.1 in
    (trace_head_bounds h b.0, ap (λ s. is_first_version h.harts s) f.0.0 ∙ b.1)

first_fro : (h : TraceHead) → IsFirst h → FirstFields h × ((is_trace_head h && is_first_version h.harts Bytes16) ≡ true)
first_fro h f =
    let line = size_16 h.harts h.line f.1 in (
      (line, (omega (arith, f.0.few_harts), (f.0.memory.at_most, entry_small h f.0))),
      both_are (is_trace_head h) (is_first_version h.harts Bytes16) (head_passes h f.0) (ap (λ s. is_first_version h.harts s) (sym line) ∙ f.1),
    )

first_back : (h : TraceHead) → h.line ≡ Bytes16 → ◌≡◌ {A = TraceHead} (record { harts = h.harts; kib = h.kib; entry = h.entry; line = Bytes16 }) h
first_back h e = rw (← e) refl

pub first_reads : Reads first_numbers IsFirst first_numbers_at
unfolding first_numbers_at first_fields_at word_line_at
first_reads =
    refit
    (guard_reads (λ h. is_trace_head h && is_first_version h.harts Bytes16)
    (seen_reads first_numbers FirstFields (λ p. record { harts = p.0; kib = p.1.0; entry = p.1.1; line = Bytes16 }) (λ h. (h.harts, (h.kib, h.entry))) (λ x h. (refl, (refl, h))) (λ h f. (first_back h f.0, f.1))
    (pair_reads (number_law 32 (omega arith)) (pair_reads (number_law 32 (omega arith)) (ended_reads 10 word_reads)))))
    first_to first_fro

-- ---- version 2

abbrev pub second_numbers : TraceHead → List ℕ
second_numbers h = number 32 h.harts ++ (number 32 h.kib ++ ((word h.entry ++ 32 ∷ []) ++ number 10 (length_of h.line)))

abbrev pub IsSecond : TraceHead → Type 0
IsSecond h = IsTraceHead h × (first h ≡ false)

abbrev SecondFields : TraceHead → Type 0
SecondFields h = (h.harts ≤ most) × ((h.kib ≤ most) × ((h.entry < 2 ^ 32) × Unit {0}))

second_to : (h : TraceHead) → SecondFields h × ((is_trace_head h && not (first h)) ≡ true) → IsSecond h
second_to h f = let b = both_true (is_trace_head h) (not (first h)) f.1 in (trace_head_bounds h b.0, not_true (first h) b.1)

second_fro : (h : TraceHead) → IsSecond h → SecondFields h × ((is_trace_head h && not (first h)) ≡ true)
second_fro h f = ((omega (arith, f.0.few_harts), (f.0.memory.at_most, (entry_small h f.0, tt))), both_are (is_trace_head h) (not (first h)) (head_passes h f.0) (ap not f.1))

pub second_reads : Reads second_numbers IsSecond second_numbers_at
unfolding second_numbers_at second_fields_at word_field_at
second_reads =
    refit
    (guard_reads (λ h. is_trace_head h && not (first h))
    (seen_reads second_numbers SecondFields (λ p. record { harts = p.0; kib = p.1.0; entry = p.1.1.0; line = p.1.1.1 }) (λ h. (h.harts, (h.kib, (h.entry, h.line)))) (λ x h. (refl, h)) (λ h f. (refl, f))
    (pair_reads (number_law 32 (omega arith)) (pair_reads (number_law 32 (omega arith)) (pair_reads (ended_reads 32 word_reads) size_reads)))))
    second_to second_fro

-- ---- the header

pub head_first : (h : TraceHead) → first h ≡ true → head h ≡ codes "rvtl-trace 1\nT " ++ first_numbers h
head_first h e = rw e refl

pub head_second : (h : TraceHead) → first h ≡ false → head h ≡ codes "rvtl-trace 2\nT " ++ second_numbers h
head_second h e = rw e refl

head_takes : (bytes : List ℕ) (h : TraceHead) (rest : List ℕ) → head_at bytes ≡ Some (h, rest) → (bytes ≡ head h ++ rest) × IsTraceHead h
unfolding head_at
head_takes bytes h rest e =
    elim (behind_takes (after (codes "rvtl-trace 1\nT ") bytes) first_numbers_at (led_at (codes "rvtl-trace 2\nT ") second_numbers_at bytes) (h, rest) e) [
      | inl on ↦
          let led = after_takes (codes "rvtl-trace 1\nT ") bytes on.0 on.1 in
          let t = first_reads.takes on.0 h rest on.2 in
          (led ∙ ap (λ t. codes "rvtl-trace 1\nT " ++ t) t.0 ∙ ap (λ t. t ++ rest) (sym (head_first h t.1.1)), t.1.0)
      | inr off ↦
          let t = (led_reads (codes "rvtl-trace 2\nT ") second_reads).takes bytes h rest off.1 in
          (t.0 ∙ ap (λ t. t ++ rest) (sym (head_second h t.1.1)), t.1.0)
    ]

head_again : (h : TraceHead) (rest : List ℕ) → IsTraceHead h → head_at (head h ++ rest) ≡ Some (h, rest)
unfolding head_at
head_again h rest fits = go (first h) refl
  where
    go : (v : Bool) → first h ≡ v → head_at (head h ++ rest) ≡ Some (h, rest)
    go true v = ap (λ t. head_at (t ++ rest)) (head_first h v) ∙ first_reads.again h rest (fits, v)
    go false v = ap (λ t. head_at (t ++ rest)) (head_second h v) ∙ second_reads.again h rest (fits, v)

pub head_reads : Reads head IsTraceHead head_at
head_reads = record { takes = head_takes; again = head_again }
