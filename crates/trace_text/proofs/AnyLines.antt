-- A line is read as some line of a trace with a header exactly where it is one.
use Rattle.std.proofs.Common.{◌≡◌, ℕ, ◌+◌, ◌*◌, ◌%◌, ◌^◌, ◌<◌, ◌≤◌, Bool, ◌&&◌, true, false, cond, eqb, leb, ltb, List, [], ◌∷◌, ◌++◌, Option, Some, None, refl, sym, ap, ◌∙◌, append_assoc, arith, inl, inr}
use Rattle.std.specs.Prelude.{codes, IsTrue, ◌↔◌}
use Rattle.std.specs.Option.{option_map, is_some}
use Rattle.std.proofs.lemmas.Bool.{eqb-true, leb-true, le-leb, ltb-true, lt-ltb}
use Rattle.std.proofs.lemmas.Option.{none-some}
use Rattle.elf_loader.specs.Size.{base}
use Rattle.hart.specs.declared.retired.Retired.{Retired}
use Rattle.hart.specs.declared.status.Status.{Status}
use Rattle.text_fields.specs.Fields.{number, word}
use Rattle.text_fields.specs.Reading.{after}
use Rattle.text_fields.proofs.Laws.{Reads, pair_reads, ended_reads, guard_reads, number_reads, word_reads, after_takes, behind_takes, both_true}
use Rattle.tl_types.specs.Line.{bytes_of, length_of}
use Rattle.tl_types.specs.declared.line.LineData.{LineData}
use Rattle.trace_text.specs.declared.head.TraceHead.{TraceHead}
use Rattle.trace_text.specs.AnyLineReading.{left, numbers_at, image_fields_at, hart_at, retired_fields_at, status_fields_at, from_version, from_status, from_message, from_operation, from_retired, from_image, line_left}
use Rattle.trace_text.specs.AnyLines.{IsVersion, IsNumbersLine, IsInMemory, IsImageLine, IsRetiredLine, IsOperationLine, IsLoggedLine, IsStatusLine, IsTraceLine}
use Rattle.trace_text.specs.Refusals.{has_line_feed}
use Rattle.trace_text.specs.Scripts.{is_first_version}
use Rattle.trace_text.specs.TraceHeads.{IsTraceHead}
use Rattle.trace_text.specs.TraceLimits.{IsRetired, IsData, IsStatus}
use Rattle.trace_text.specs.TraceLines.{first_numbers_at, second_numbers_at, word_field_at, operation_at, is_line, logged_at}
use Rattle.trace_text.specs.TraceRefusals.{first_line}
use Rattle.trace_text.specs.Traces.{head, any_set, image_line, retired_text, status_word}
use Rattle.trace_text.proofs.FirstLines.{IsLine, first_whole, first_parts, line_behind, line_ended}
use Rattle.trace_text.proofs.HeadLaws.{first_numbers, second_numbers, first_reads, second_reads, head_first, head_second}
use Rattle.trace_text.proofs.HeaderLines.{same_behind}
use Rattle.trace_text.proofs.ImageLaws.{line_set}
use Rattle.trace_text.proofs.LineFeeds.{plain_number, word_field, data_line, retired_line, operation_line, logged_line, status_word_line, first_numbers_line, second_numbers_line}
use Rattle.trace_text.proofs.TraceLaws.{operation_reads, retired_reads, digits_of, data_reads, logged_reads, status_reads}

-- ---- one kind of line

-- what is read behind a lead is a line of that kind
found : {A : Type 0} {s : A → List ℕ} {f : A → Type 0} {r : List ℕ → Option (A × List ℕ)} (lead : List ℕ) → has_line_feed lead ≡ false → Reads s f r → ((x : A) → f x → IsLine (s x)) → (bytes fields rest : List ℕ) → after lead bytes ≡ Some fields → left (r fields) ≡ Some rest
    → (x : A) × f x × (first_line bytes ≡ lead ++ s x)
found {A} {s} {f} {r} lead plain law line bytes fields rest led e = go (r fields) refl e
  where
    go : (o : Option (A × List ℕ)) → r fields ≡ o → left o ≡ Some rest → (x : A) × f x × (first_line bytes ≡ lead ++ s x)
    go None read e = absurd cc
    go (Some (x, later)) read e =
        let t = law.takes fields x later read in
        let whole : bytes ≡ (lead ++ s x) ++ later = after_takes lead bytes fields led ∙ ap (λ u. lead ++ u) t.0 ∙ sym (append_assoc lead (s x) later) in
        (x, t.1, ap first_line whole ∙ first_whole (lead ++ s x) later (line_behind lead (s x) plain (line x t.1)))

-- and a line of that kind is read there
stands : {A : Type 0} {s : A → List ℕ} {f : A → Type 0} {r : List ℕ → Option (A × List ℕ)} (lead : List ℕ) → Reads s f r → (bytes : List ℕ) (x : A) → f x → first_line bytes ≡ lead ++ s x → (later : List ℕ) × (bytes ≡ lead ++ (s x ++ later)) × (r (s x ++ later) ≡ Some (x, later))
stands {A} {s} {f} {r} lead law bytes x fits e =
    let parts = first_parts bytes in
    (parts.0, parts.1 ∙ ap (λ u. u ++ parts.0) e ∙ append_assoc lead (s x) parts.0, law.again x parts.0 fits)

-- ---- readers

hart_reads : (h : TraceHead) → Reads (number 32) (λ n. (n ≤ 255) × (ltb n h.harts ≡ true)) (hart_at h)
unfolding hart_at
hart_reads h = guard_reads (λ n. ltb n h.harts) (number_reads 32 255 (omega arith) (omega arith))

abbrev IsNumberOf : TraceHead → ℕ → Type 0
IsNumberOf h n = (n ≤ 255) × (ltb n h.harts ≡ true)

number_of : (h : TraceHead) → IsTraceHead h → (n : ℕ) → n < h.harts → IsNumberOf h n
number_of h t n lt = (omega (arith, t.few_harts), lt-ltb n h.harts lt)

retired_fields_reads : (h : TraceHead) → Reads (λ (p : ℕ × Retired). number 32 p.0 ++ retired_text p.1) (λ p. IsNumberOf h p.0 × IsRetired p.1) (retired_fields_at h)
unfolding retired_fields_at
retired_fields_reads h = pair_reads (hart_reads h) retired_reads

status_fields_reads : (h : TraceHead) → Reads (λ (p : ℕ × Status). number 32 p.0 ++ status_word p.1) (λ p. IsNumberOf h p.0 × IsStatus p.1) (status_fields_at h)
unfolding status_fields_at
status_fields_reads h = pair_reads (hart_reads h) status_reads

abbrev is_shown : TraceHead → ℕ × LineData → Bool
is_shown h p = any_set (bytes_of p.1) && is_line h.kib (length_of h.line) p.0

image_fields_reads : (h : TraceHead) → Reads (λ (p : ℕ × LineData). (word p.0 ++ 32 ∷ []) ++ (digits_of p.1 ++ 10 ∷ [])) (λ p. ((p.0 < 2 ^ 32) × IsData h.line p.1) × (is_shown h p ≡ true)) (image_fields_at h)
unfolding image_fields_at word_field_at
image_fields_reads h = guard_reads (is_shown h) (pair_reads (ended_reads 32 word_reads) (ended_reads 10 (data_reads h.line)))

-- ---- what is read is such a line

numbers_found : (h : TraceHead) (bytes fields rest : List ℕ) → after (codes "T ") bytes ≡ Some fields → left (numbers_at h fields) ≡ Some rest → IsNumbersLine h (first_line bytes)
unfolding numbers_at
numbers_found h bytes fields rest led e = go (is_first_version h.harts h.line) refl e
  where
    go : (v : Bool) → is_first_version h.harts h.line ≡ v → left (cond v (first_numbers_at fields) (second_numbers_at fields)) ≡ Some rest → IsNumbersLine h (first_line bytes)
    go true v e =
        let w = found (codes "T ") refl first_reads (λ k f. first_numbers_line k (omega (arith, f.0.few_harts)) (omega (arith, f.0.memory.at_most))) bytes fields rest led e in
        (w.0, codes "rvtl-trace 1\n", w.1.0, w.1.1 ∙ sym v, inl refl, head_first w.0 w.1.1 ∙ ap (λ u. codes "rvtl-trace 1\n" ++ u) (sym w.2))
    go false v e =
        let w = found (codes "T ") refl second_reads (λ k f. second_numbers_line k (omega (arith, f.0.few_harts)) (omega (arith, f.0.memory.at_most))) bytes fields rest led e in
        (w.0, codes "rvtl-trace 2\n", w.1.0, w.1.1 ∙ sym v, inr refl, head_second w.0 w.1.1 ∙ ap (λ u. codes "rvtl-trace 2\n" ++ u) (sym w.2))

image_text : (address : ℕ) (held : LineData) → any_set (bytes_of held) ≡ true → codes "I " ++ ((word address ++ 32 ∷ []) ++ (digits_of held ++ 10 ∷ [])) ≡ image_line address (bytes_of held)
image_text address held set = ap (λ u. codes "I " ++ u) (append_assoc (word address) (32 ∷ []) (digits_of held ++ 10 ∷ [])) ∙ sym (line_set address (bytes_of held) set)

in_memory : (h : TraceHead) (address : ℕ) → is_line h.kib (length_of h.line) address ≡ true → IsInMemory h address
in_memory h address e =
    let b = both_true (eqb (address % length_of h.line) 0 && leb base address) (ltb address (base + h.kib * 1024)) e in
    let c = both_true (eqb (address % length_of h.line) 0) (leb base address) b.0 in
    (eqb-true _ _ c.0, leb-true _ _ c.1, ltb-true _ _ b.1)

in_memory_passes : (h : TraceHead) (address : ℕ) → IsInMemory h address → is_line h.kib (length_of h.line) address ≡ true
in_memory_passes h address (whole, from, inside) = rw (whole, le-leb _ _ from, lt-ltb _ _ inside) refl

image_found : (h : TraceHead) (bytes fields rest : List ℕ) → after (codes "I ") bytes ≡ Some fields → left (image_fields_at h fields) ≡ Some rest → IsImageLine h (first_line bytes)
image_found h bytes fields rest led e =
    let w = found (codes "I ") refl (image_fields_reads h) (λ p f. line_behind (word p.0 ++ 32 ∷ []) _ (word_field p.0) (data_line (bytes_of p.1))) bytes fields rest led e in
    let b = both_true (any_set (bytes_of w.0.1)) (is_line h.kib (length_of h.line) w.0.0) w.1.1 in
    (w.0.0, w.0.1, w.1.0.1, b.0, in_memory h w.0.0 b.1, w.2 ∙ image_text w.0.0 w.0.1 b.0)

retired_found : (h : TraceHead) (bytes fields rest : List ℕ) → after (codes "R ") bytes ≡ Some fields → left (retired_fields_at h fields) ≡ Some rest → IsRetiredLine h (first_line bytes)
retired_found h bytes fields rest led e =
    let w = found (codes "R ") refl (retired_fields_reads h) (λ p f. line_behind (number 32 p.0) _ (plain_number p.0 (omega (arith, f.0.0))) (retired_line p.1 f.1)) bytes fields rest led e in
    (w.0.0, w.0.1, ltb-true _ _ w.1.0.1, w.1.1, w.2)

operation_found : (h : TraceHead) → IsTraceHead h → (bytes fields rest : List ℕ) → after (codes "P ") bytes ≡ Some fields → left (operation_at h.harts fields) ≡ Some rest → IsOperationLine h (first_line bytes)
operation_found h t bytes fields rest led e = found (codes "P ") refl (operation_reads h.harts t.some_hart t.few_harts) (operation_line h.harts t.few_harts) bytes fields rest led e

message_found : (h : TraceHead) → IsTraceHead h → (bytes fields rest : List ℕ) → after (codes "M ") bytes ≡ Some fields → left (logged_at h.harts h.kib h.line fields) ≡ Some rest → IsLoggedLine h (first_line bytes)
message_found h t bytes fields rest led e = found (codes "M ") refl (logged_reads h t.some_hart t.few_harts t.memory.at_most) (logged_line h t.few_harts) bytes fields rest led e

status_found : (h : TraceHead) (bytes fields rest : List ℕ) → after (codes "H ") bytes ≡ Some fields → left (status_fields_at h fields) ≡ Some rest → IsStatusLine h (first_line bytes)
status_found h bytes fields rest led e =
    let w = found (codes "H ") refl (status_fields_reads h) (λ p f. line_behind (number 32 p.0) _ (plain_number p.0 (omega (arith, f.0.0))) (status_word_line p.1 f.1)) bytes fields rest led e in
    (w.0.0, w.0.1, ltb-true _ _ w.1.0.1, w.1.1, w.2)

first_is : (line bytes rest : List ℕ) → IsLine line → after line bytes ≡ Some rest → first_line bytes ≡ line
first_is line bytes rest whole e = ap first_line (after_takes line bytes rest e) ∙ first_whole line rest whole

version_found : (bytes rest : List ℕ) → from_version bytes ≡ Some rest → IsVersion (first_line bytes)
version_found bytes rest e =
    elim (behind_takes (after (codes "rvtl-trace 1\n") bytes) (λ rest. Some rest) (after (codes "rvtl-trace 2\n") bytes) rest e) [
      | inl on ↦ inl (first_is (codes "rvtl-trace 1\n") bytes on.0 (line_ended (codes "rvtl-trace 1") refl) on.1)
      | inr off ↦ inr (first_is (codes "rvtl-trace 2\n") bytes rest (line_ended (codes "rvtl-trace 2") refl) off.1)
    ]

status_on : (h : TraceHead) (bytes rest : List ℕ) → from_status h bytes ≡ Some rest → IsTraceLine h (first_line bytes)
status_on h bytes rest e =
    elim (behind_takes (after (codes "H ") bytes) (λ fields. left (status_fields_at h fields)) (from_version bytes) rest e) [
      | inl on ↦ inr (inr (inr (inr (inr (inr (status_found h bytes on.0 rest on.1 on.2))))))
      | inr off ↦ inl (version_found bytes rest off.1)
    ]

message_on : (h : TraceHead) → IsTraceHead h → (bytes rest : List ℕ) → from_message h bytes ≡ Some rest → IsTraceLine h (first_line bytes)
message_on h t bytes rest e =
    elim (behind_takes (after (codes "M ") bytes) (λ fields. left (logged_at h.harts h.kib h.line fields)) (from_status h bytes) rest e) [
      | inl on ↦ inr (inr (inr (inr (inr (inl (message_found h t bytes on.0 rest on.1 on.2))))))
      | inr off ↦ status_on h bytes rest off.1
    ]

operation_on : (h : TraceHead) → IsTraceHead h → (bytes rest : List ℕ) → from_operation h bytes ≡ Some rest → IsTraceLine h (first_line bytes)
operation_on h t bytes rest e =
    elim (behind_takes (after (codes "P ") bytes) (λ fields. left (operation_at h.harts fields)) (from_message h bytes) rest e) [
      | inl on ↦ inr (inr (inr (inr (inl (operation_found h t bytes on.0 rest on.1 on.2)))))
      | inr off ↦ message_on h t bytes rest off.1
    ]

retired_on : (h : TraceHead) → IsTraceHead h → (bytes rest : List ℕ) → from_retired h bytes ≡ Some rest → IsTraceLine h (first_line bytes)
retired_on h t bytes rest e =
    elim (behind_takes (after (codes "R ") bytes) (λ fields. left (retired_fields_at h fields)) (from_operation h bytes) rest e) [
      | inl on ↦ inr (inr (inr (inl (retired_found h bytes on.0 rest on.1 on.2))))
      | inr off ↦ operation_on h t bytes rest off.1
    ]

image_on : (h : TraceHead) → IsTraceHead h → (bytes rest : List ℕ) → from_image h bytes ≡ Some rest → IsTraceLine h (first_line bytes)
image_on h t bytes rest e =
    elim (behind_takes (after (codes "I ") bytes) (λ fields. left (image_fields_at h fields)) (from_retired h bytes) rest e) [
      | inl on ↦ inr (inr (inl (image_found h bytes on.0 rest on.1 on.2)))
      | inr off ↦ retired_on h t bytes rest off.1
    ]

is_one : (h : TraceHead) → IsTraceHead h → (bytes rest : List ℕ) → line_left h bytes ≡ Some rest → IsTraceLine h (first_line bytes)
unfolding line_left
is_one h t bytes rest e =
    elim (behind_takes (after (codes "T ") bytes) (λ fields. left (numbers_at h fields)) (from_image h bytes) rest e) [
      | inl on ↦ inr (inl (numbers_found h bytes on.0 rest on.1 on.2))
      | inr off ↦ image_on h t bytes rest off.1
    ]

-- ---- such a line is read

abbrev IsRead : TraceHead → List ℕ → Type 0
IsRead h bytes = (rest : List ℕ) × (line_left h bytes ≡ Some rest)

left_is : {A : Type 0} (o : Option (A × List ℕ)) (x : A) (rest : List ℕ) → o ≡ Some (x, rest) → left o ≡ Some rest
left_is o x rest e = ap left e

version_again : (h : TraceHead) (bytes : List ℕ) → IsVersion (first_line bytes) → IsRead h bytes
unfolding line_left
version_again h bytes (inl e) = let parts = first_parts bytes in (parts.0, ap (line_left h) (parts.1 ∙ ap (λ u. u ++ parts.0) e))
version_again h bytes (inr e) = let parts = first_parts bytes in (parts.0, ap (line_left h) (parts.1 ∙ ap (λ u. u ++ parts.0) e))

other_version : (x y : List ℕ) → codes "rvtl-trace 1\n" ++ x ≡ codes "rvtl-trace 2\n" ++ y → ⊥
other_version x y e = none-some x (sym (ap (after (codes "rvtl-trace 1\n")) e))

first_again : (h k : TraceHead) (bytes : List ℕ) → is_first_version h.harts h.line ≡ true → IsTraceHead k × (is_first_version k.harts k.line ≡ true) → first_line bytes ≡ codes "T " ++ first_numbers k → IsRead h bytes
unfolding line_left numbers_at
first_again h k bytes v fits e =
    let w = stands (codes "T ") first_reads bytes k fits e in
    (w.0, ap (line_left h) w.1 ∙ rw v (left_is _ k w.0 w.2))

second_again : (h k : TraceHead) (bytes : List ℕ) → is_first_version h.harts h.line ≡ false → IsTraceHead k × (is_first_version k.harts k.line ≡ false) → first_line bytes ≡ codes "T " ++ second_numbers k → IsRead h bytes
unfolding line_left numbers_at
second_again h k bytes v fits e =
    let w = stands (codes "T ") second_reads bytes k fits e in
    (w.0, ap (line_left h) w.1 ∙ rw v (left_is _ k w.0 w.2))

numbers_again : (h k : TraceHead) (bytes version : List ℕ) (v : Bool) → is_first_version h.harts h.line ≡ v → IsTraceHead k → is_first_version k.harts k.line ≡ v → IsVersion version → head k ≡ version ++ first_line bytes → IsRead h bytes
numbers_again h k bytes version true v fits same (inl is) at =
    first_again h k bytes v (fits, same) (same_behind (codes "rvtl-trace 1\n") (first_line bytes) (codes "T " ++ first_numbers k) (ap (λ u. u ++ first_line bytes) (sym is) ∙ sym at ∙ head_first k same))
numbers_again h k bytes version true v fits same (inr is) at =
    absurd (other_version (codes "T " ++ first_numbers k) (first_line bytes) (sym (head_first k same) ∙ at ∙ ap (λ u. u ++ first_line bytes) is))
numbers_again h k bytes version false v fits same (inl is) at =
    absurd (other_version (first_line bytes) (codes "T " ++ second_numbers k) (ap (λ u. u ++ first_line bytes) (sym is) ∙ sym at ∙ head_second k same))
numbers_again h k bytes version false v fits same (inr is) at =
    second_again h k bytes v (fits, same) (same_behind (codes "rvtl-trace 2\n") (first_line bytes) (codes "T " ++ second_numbers k) (ap (λ u. u ++ first_line bytes) (sym is) ∙ sym at ∙ head_second k same))

image_again : (h : TraceHead) → IsTraceHead h → (bytes : List ℕ) → IsImageLine h (first_line bytes) → IsRead h bytes
unfolding line_left
image_again h t bytes (address, held, fits, set, at, e) =
    let test : is_shown h (address, held) ≡ true = rw (set, in_memory_passes h address at) refl in
    let w = stands (codes "I ") (image_fields_reads h) bytes (address, held) ((omega (arith, at.2, t.memory.at_most), fits), test) (e ∙ sym (image_text address held set)) in
    (w.0, ap (line_left h) w.1 ∙ left_is _ (address, held) w.0 w.2)

retired_again : (h : TraceHead) → IsTraceHead h → (bytes : List ℕ) → IsRetiredLine h (first_line bytes) → IsRead h bytes
unfolding line_left
retired_again h t bytes (hart, r, lt, fits, e) =
    let w = stands (codes "R ") (retired_fields_reads h) bytes (hart, r) (number_of h t hart lt, fits) e in
    (w.0, ap (line_left h) w.1 ∙ left_is _ (hart, r) w.0 w.2)

operation_again : (h : TraceHead) → IsTraceHead h → (bytes : List ℕ) → IsOperationLine h (first_line bytes) → IsRead h bytes
unfolding line_left
operation_again h t bytes (o, fits, e) =
    let w = stands (codes "P ") (operation_reads h.harts t.some_hart t.few_harts) bytes o fits e in
    (w.0, ap (line_left h) w.1 ∙ left_is _ o w.0 w.2)

message_again : (h : TraceHead) → IsTraceHead h → (bytes : List ℕ) → IsLoggedLine h (first_line bytes) → IsRead h bytes
unfolding line_left
message_again h t bytes (l, fits, e) =
    let w = stands (codes "M ") (logged_reads h t.some_hart t.few_harts t.memory.at_most) bytes l fits e in
    (w.0, ap (line_left h) w.1 ∙ left_is _ l w.0 w.2)

status_again : (h : TraceHead) → IsTraceHead h → (bytes : List ℕ) → IsStatusLine h (first_line bytes) → IsRead h bytes
unfolding line_left
status_again h t bytes (hart, s, lt, fits, e) =
    let w = stands (codes "H ") (status_fields_reads h) bytes (hart, s) (number_of h t hart lt, fits) e in
    (w.0, ap (line_left h) w.1 ∙ left_is _ (hart, s) w.0 w.2)

is_read : (h : TraceHead) → IsTraceHead h → (bytes : List ℕ) → IsTraceLine h (first_line bytes) → IsRead h bytes
is_read h t bytes (inl x) = version_again h bytes x
is_read h t bytes (inr (inl (k, version, fits, same, is, at))) = numbers_again h k bytes version _ refl fits same is at
is_read h t bytes (inr (inr (inl x))) = image_again h t bytes x
is_read h t bytes (inr (inr (inr (inl x)))) = retired_again h t bytes x
is_read h t bytes (inr (inr (inr (inr (inl x))))) = operation_again h t bytes x
is_read h t bytes (inr (inr (inr (inr (inr (inl x)))))) = message_again h t bytes x
is_read h t bytes (inr (inr (inr (inr (inr (inr x)))))) = status_again h t bytes x

some_there : {R : Type 0} (view : R → List ℕ) (o : Option R) → is_some o ≡ true → (rest : List ℕ) × (option_map view o ≡ Some rest)
some_there view None e = absurd cc
some_there view (Some x) e = (view x, refl)

there_some : {R : Type 0} (view : R → List ℕ) (o : Option R) (rest : List ℕ) → option_map view o ≡ Some rest → is_some o ≡ true
there_some view None rest e = absurd cc
there_some view (Some x) rest e = refl

pub good : {R : Type 0} (view : R → List ℕ) (h : TraceHead) (bytes : List ℕ) (o : Option R) (v : Bool) → IsTraceHead h → option_map view o ≡ line_left h bytes → v ≡ is_some o → IsTrue v ↔ IsTraceLine h (first_line bytes)
good view h bytes o v t read e = (
  λ is. let w = some_there view o (sym e ∙ is) in is_one h t bytes w.0 (sym read ∙ w.1),
  λ line. let w = is_read h t bytes line in e ∙ there_some view o w.0 (read ∙ w.1),
)
