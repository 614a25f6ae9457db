-- What the test of a header shows.
use Rattle.std.proofs.Common.{◌≡◌, ◌∙◌, ℕ, ◌+◌, ◌-◌, ◌*◌, ◌^◌, refl, ◌%◌, ◌<◌, ◌≤◌, ◌&&◌, true, eqb, leb, sym, subst, inl, inr, arith}
use Rattle.std.proofs.lemmas.Bool.{eqb-true, leb-true}
use Rattle.machine_types.specs.declared.limits.TheConstants.{MAX_HARTS}
use Rattle.elf_loader.specs.Size.{base, IsMemoryKib, IsMemorySize, is_memory_kib}
use Rattle.elf_loader.proofs.Sizes.{memory_kib}
use Rattle.text_fields.proofs.Laws.{both_true}
use Rattle.trace_text.specs.declared.head.TraceHead.{TraceHead}
use Rattle.trace_text.specs.TraceHeads.{IsTraceHead}
use Rattle.trace_text.specs.TraceLines.{is_trace_head}
use Rattle.trace_text.specs.Widths.{IsWidth}

pub trace_head_bounds : (h : TraceHead) → is_trace_head h ≡ true → IsTraceHead h
trace_head_bounds h e =
    let harts = leb 1 h.harts && leb h.harts MAX_HARTS in
    let kib = is_memory_kib h.kib in
    let entry = eqb (h.entry % 4) 0 && leb base h.entry && leb (h.entry + 4) (base + h.kib * 1024) in
    let a = both_true (harts && kib) entry e in
    let b = both_true harts kib a.0 in
    let c = both_true (leb 1 h.harts) (leb h.harts MAX_HARTS) b.0 in
    let n = both_true (eqb (h.entry % 4) 0 && leb base h.entry) (leb (h.entry + 4) (base + h.kib * 1024)) a.1 in
    let p = both_true (eqb (h.entry % 4) 0) (leb base h.entry) n.0 in
    record {
      some_hart = leb-true 1 h.harts c.0;
      few_harts = leb-true h.harts MAX_HARTS c.1;
      memory = memory_kib h.kib b.1;
      aligned = eqb-true (h.entry % 4) 0 p.0;
      from = leb-true base h.entry p.1;
      inside = leb-true (h.entry + 4) (base + h.kib * 1024) n.1;
    }

pub memory_size : (kib : ℕ) → IsMemoryKib kib → IsMemorySize (kib * 1024)
memory_size kib h = record { whole_pages = omega (arith, h.whole_pages); at_least = omega (arith, h.at_least); at_most = omega (arith, h.at_most) }

pub line_fits : (start size width : ℕ) → IsWidth width → start % width ≡ 0 → IsMemorySize size → start < size → start + width ≤ size
line_fits start size width (inl e) whole m lt = let w : start % 16 ≡ 0 = subst (λ n. start % n ≡ 0) e whole in omega (arith, w, e, m.whole_pages)
line_fits start size width (inr e) whole m lt = let w : start % 64 ≡ 0 = subst (λ n. start % n ≡ 0) e whole in omega (arith, w, e, m.whole_pages)

pub next_line : (start width : ℕ) → IsWidth width → start % width ≡ 0 → (start + width) % width ≡ 0
next_line start width (inl e) whole = let w : start % 16 ≡ 0 = subst (λ n. start % n ≡ 0) e whole in subst (λ n. (start + n) % n ≡ 0) (sym e) (omega (arith, w))
next_line start width (inr e) whole = let w : start % 64 ≡ 0 = subst (λ n. start % n ≡ 0) e whole in subst (λ n. (start + n) % n ≡ 0) (sym e) (omega (arith, w))

pub harts_small : (h : TraceHead) → IsTraceHead h → h.harts < 2 ^ 8
harts_small h t = omega (arith, t.few_harts)

pub some_hart : (h : TraceHead) → IsTraceHead h → 0 < h.harts
some_hart h t = omega (arith, t.some_hart)

pub kib_small : (h : TraceHead) → IsTraceHead h → h.kib * 1024 < 2 ^ 32
kib_small h t = omega (arith, t.memory.at_most)

pub head_memory : (h : TraceHead) → IsTraceHead h → IsMemorySize (h.kib * 1024)
head_memory h t = memory_size h.kib t.memory

pub memory_is : (h : TraceHead) (n : ℕ) → IsTraceHead h → n ≡ h.kib * 1024 → IsMemorySize n
memory_is h n t e = subst IsMemorySize (sym e) (head_memory h t)

pub entry_in : (h : TraceHead) (n : ℕ) → IsTraceHead h → n ≡ h.kib * 1024 → (base ≤ h.entry) × (h.entry + 4 ≤ base + n)
entry_in h n t e = (t.from, omega (arith, t.inside, e))

pub same_count : (a b n : ℕ) → a ≡ n → b ≡ n → a ≡ b
same_count a b n e f = e ∙ sym f

-- ---- lines of memory

pub first_line : (width : ℕ) → IsWidth width → 0 % width ≡ 0
first_line width (inl e) = subst (λ n. 0 % n ≡ 0) (sym e) refl
first_line width (inr e) = subst (λ n. 0 % n ≡ 0) (sym e) refl

pub line_inside : (start size width count : ℕ) → IsWidth width → start % width ≡ 0 → IsMemorySize size → start < size → count ≡ size → start + width ≤ count
line_inside start size width count w whole m lt e = omega (arith, line_fits start size width w whole m lt, e)

pub line_small : (start size width : ℕ) → IsWidth width → start % width ≡ 0 → IsMemorySize size → start < size → start + width < 2 ^ 32
line_small start size width w whole m lt = omega (arith, line_fits start size width w whole m lt, m.at_most)

pub address_small : (start size : ℕ) → IsMemorySize size → start < size → base + start < 2 ^ 32
address_small start size m lt = omega (arith, m.at_most)

pub line_nearer : (start size width : ℕ) → IsWidth width → start < size → size - (start + width) < size - start
line_nearer start size width (inl e) lt = omega (arith, e)
line_nearer start size width (inr e) lt = omega (arith, e)
