-- What the loop over the image's lines keeps.
use Rattle.std.proofs.Common.{◌≡◌, ℕ, suc, ◌+◌, ◌-◌, ◌/◌, ◌%◌, ◌<◌, ◌≤◌, List, [], ◌++◌, length, take, drop, Option, Some, None, refl, sym, ap, subst, ◌∙◌, append_assoc, arith, inl, inr}
use Rattle.std.specs.Prelude.{replicate}
use Rattle.std.proofs.lemmas.List.{length-append, length-take-le, length-drop, drop-replicate, take-replicate, drop_all, take_all, take_at, drop_at, append-nil}
use Rattle.elf_loader.specs.Size.{base, IsMemorySize}
use Rattle.text_fields.specs.Reading.{◌>>=◌}
use Rattle.text_fields.proofs.Loops.{fronted}
use Rattle.trace_text.specs.TraceLines.{image_line_at}
use Rattle.trace_text.specs.TraceSections.{image_lines_at}
use Rattle.trace_text.specs.Widths.{IsWidth}
use Rattle.trace_text.proofs.TraceHeads.{line_fits, next_line}
use Rattle.trace_text.proofs.TraceWriting.{one_line_more}
use Rattle.trace_text.proofs.ImageLaws.{line_takes}

-- memory up to here is read, the rest of it is still zero
pub record Memory (width size start : ℕ) (image rest bytes : List ℕ) : Type 0 where
  pub whole : start % width ≡ 0
  pub inside : start ≤ size
  pub len : length image ≡ size
  pub zeros : drop start image ≡ replicate (size - start) 0
  pub so_far : fronted (take start image) (image_lines_at width ((size - start) / width) (base + start) rest) ≡ image_lines_at width (size / width) base bytes

joined : (front line : List ℕ) (read : Option (List ℕ × List ℕ)) → fronted front (read >>= λ xs. Some (line ++ xs.0, xs.1)) ≡ fronted (front ++ line) read
joined front line (Some xs) = ap (λ (l : List ℕ). Some (l, xs.1)) (sym (append_assoc front line xs.0))
joined front line None = refl

pub one_line : (width n address : ℕ) (front line rest later : List ℕ) → image_line_at (replicate width 0) address rest ≡ Some (line, later) → fronted front (image_lines_at width (suc n) address rest) ≡ fronted (front ++ line) (image_lines_at width n (address + width) later)
unfolding image_lines_at
one_line width n address front line rest later read = rw read (joined front line (image_lines_at width n (address + width) later))

pub no_line : (width n address : ℕ) (front rest : List ℕ) → image_line_at (replicate width 0) address rest ≡ None → fronted front (image_lines_at width (suc n) address rest) ≡ None
unfolding image_lines_at
no_line width n address front rest read = rw read refl

lines_end : (width address : ℕ) (front rest : List ℕ) → fronted front (image_lines_at width 0 address rest) ≡ Some (front, rest)
unfolding image_lines_at
lines_end width address front rest = ap (λ (l : List ℕ). Some (l, rest)) (append-nil front)

none_left : (width : ℕ) → IsWidth width → 0 / width ≡ 0
none_left width (inl e) = subst (λ w. 0 / w ≡ 0) (sym e) refl
none_left width (inr e) = subst (λ w. 0 / w ≡ 0) (sym e) refl

pub count_left : (width size start : ℕ) → IsWidth width → IsMemorySize size → start % width ≡ 0 → start < size → (size - start) / width ≡ suc ((size - (start + width)) / width)
count_left width size start w m whole lt =
    let fits = line_fits start size width w whole m lt in
    let less : size - start - width ≡ size - (start + width) = omega arith in
    one_line_more width (size - start) w (omega (arith, fits)) ∙ ap (λ n. suc (n / width)) less

-- the line that is read next is still zero
pub old_line : (width size start : ℕ) (image : List ℕ) → start + width ≤ size → drop start image ≡ replicate (size - start) 0 → take width (drop start image) ≡ replicate width 0
old_line width size start image le zeros = ap (take width) zeros ∙ take-replicate width (size - start) 0 (omega arith)

-- a line in its place
abbrev pub placed : ℕ → ℕ → List ℕ → List ℕ → List ℕ
placed start width image line = take start image ++ (line ++ drop width (drop start image))

placed_length : (start width : ℕ) (image line : List ℕ) → start + width ≤ length image → length line ≡ width → length (placed start width image line) ≡ length image
placed_length start width image line le len =
    omega (arith, length-append (take start image) (line ++ drop width (drop start image)), length-append line (drop width (drop start image)), length-take-le start image (omega arith), length-drop width (drop start image), length-drop start image)

pub memory_more : (width size start : ℕ) (image line rest later bytes : List ℕ) → IsWidth width → IsMemorySize size → start < size → Some (line, later) ≡ image_line_at (take width (drop start image)) (base + start) rest
    → Memory width size start image rest bytes → Memory width size (start + width) (placed start width image line) later bytes
memory_more width size start image line rest later bytes w m lt read h =
    let fits = line_fits start size width w h.whole m lt in
    let at : ℕ = base + start in
    let line_read : image_line_at (replicate width 0) at rest ≡ Some (line, later) = ap (λ l. image_line_at l at rest) (sym (old_line width size start image fits h.zeros)) ∙ sym read in
    let len : length line ≡ width = (line_takes width at rest line later line_read).1.len in
    let front : length (take start image) ≡ start = length-take-le start image (omega (arith, h.len, lt)) in
    let both : length (take start image ++ line) ≡ start + width = length-append (take start image) line ∙ omega (arith, front, len) in
    let others : List ℕ = drop width (drop start image) in
    let regroup : placed start width image line ≡ (take start image ++ line) ++ others = sym (append_assoc (take start image) line others) in
    let new_take : take (start + width) (placed start width image line) ≡ take start image ++ line = ap (take (start + width)) regroup ∙ take_at (take start image ++ line) others (start + width) both in
    let new_drop : drop (start + width) (placed start width image line) ≡ others = ap (drop (start + width)) regroup ∙ drop_at (take start image ++ line) others (start + width) both in
    let less : size - start - width ≡ size - (start + width) = omega arith in
    let next : base + start + width ≡ base + (start + width) = omega arith in
    let step = one_line width ((size - (start + width)) / width) at (take start image) line rest later line_read in
    record {
      whole = next_line start width w h.whole;
      inside = fits;
      len = placed_length start width image line (omega (arith, fits, h.len)) len ∙ h.len;
      zeros = new_drop ∙ ap (drop width) h.zeros ∙ drop-replicate width (size - start) 0 ∙ ap (λ n. replicate n 0) less;
      so_far =
          ap (λ l. fronted l (image_lines_at width ((size - (start + width)) / width) (base + (start + width)) later)) new_take
          ∙ ap (λ a. fronted (take start image ++ line) (image_lines_at width ((size - (start + width)) / width) a later)) (sym next)
          ∙ sym step ∙ ap (λ n. fronted (take start image) (image_lines_at width n at rest)) (sym (count_left width size start w m h.whole lt)) ∙ h.so_far;
    }

pub memory_fails : (width size start : ℕ) (image rest bytes : List ℕ) → IsWidth width → IsMemorySize size → start < size → None ≡ image_line_at (take width (drop start image)) (base + start) rest
    → Memory width size start image rest bytes → image_lines_at width (size / width) base bytes ≡ None
memory_fails width size start image rest bytes w m lt read h =
    let fits = line_fits start size width w h.whole m lt in
    let line_read : image_line_at (replicate width 0) (base + start) rest ≡ None = ap (λ l. image_line_at l (base + start) rest) (sym (old_line width size start image fits h.zeros)) ∙ sym read in
    sym h.so_far ∙ ap (λ n. fronted (take start image) (image_lines_at width n (base + start) rest)) (count_left width size start w m h.whole lt)
    ∙ no_line width ((size - (start + width)) / width) (base + start) (take start image) rest line_read

pub memory_ends : (width size start : ℕ) (image rest bytes : List ℕ) → IsWidth width → size ≤ start → Memory width size start image rest bytes → image_lines_at width (size / width) base bytes ≡ Some (image, rest)
memory_ends width size start image rest bytes w le h =
    let none : size - start ≡ 0 = omega arith in
    let whole : take start image ≡ image = take_all start image (omega (arith, h.len)) in
    sym h.so_far ∙ ap (λ n. fronted (take start image) (image_lines_at width n (base + start) rest)) (ap (λ n. n / width) none ∙ none_left width w)
    ∙ lines_end width (base + start) (take start image) rest ∙ ap (λ (l : List ℕ). Some (l, rest)) whole

-- a whole list that was written back
pub written_back : (len : ℕ) (new old : List ℕ) → length new ≡ len → length old ≡ len → take len (new ++ drop (length new) old) ≡ new
written_back len new old e f =
    let none : drop (length new) old ≡ [] = drop_all (length new) old (omega arith) in
    ap (λ l. take len (new ++ l)) none ∙ ap (take len) (append-nil new) ∙ take_all len new (omega arith)
