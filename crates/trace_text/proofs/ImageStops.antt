-- Where the reader of the image's lines stops, and that it reads them again where an alike line follows.
use Rattle.std.proofs.Common.{◌≡◌, ℕ, zero, suc, ◌+◌, ◌-◌, ◌*◌, ◌/◌, ◌%◌, ◌<◌, ◌≤◌, Bool, true, false, List, [], ◌∷◌, ◌++◌, length, take, drop, Option, Some, None, refl, sym, ap, subst, ◌∙◌, append_assoc, arith, inl, inr}
use Rattle.std.specs.Prelude.{codes, replicate}
use Rattle.std.proofs.lemmas.Option.{none-some}
use Rattle.std.proofs.lemmas.List.{length-append, length-replicate, length-take-le, take_at, length-drop, take-append-drop, append-nil, nil_from_length}
use Rattle.elf_loader.specs.Size.{base, IsMemorySize}
use Rattle.text_fields.specs.Fields.{word, IsBytes}
use Rattle.text_fields.specs.Reading.{◌>>=◌, after}
use Rattle.text_fields.proofs.Laws.{bind_some, behind_takes, some_is}
use Rattle.text_fields.proofs.Loops.{fronted, fronted_none}
use Rattle.tl_types.specs.Line.{length_of}
use Rattle.tl_types.specs.declared.line.LineSize.{LineSize}
use Rattle.trace_text.specs.Traces.{any_set, image_line, image_lines}
use Rattle.trace_text.specs.TraceLines.{image_lead, image_data_at, image_line_at}
use Rattle.trace_text.specs.TraceRefusals.{AreLines}
use Rattle.trace_text.specs.TraceSections.{image_lines_at}
use Rattle.trace_text.specs.TraceStops.{AreAlike, StopsIn}
use Rattle.trace_text.specs.Widths.{IsWidth}
use Rattle.trace_text.proofs.FirstLines.{IsLine, alike_behind, after_alike, after_alike_none, line_alike, line_behind, lines_none, lines_append, one_line as whole_line}
use Rattle.trace_text.proofs.ImageLaws.{line_text, line_set, line_unset, data_reads, line_takes, line_set_again, line_unset_again, more_times, none_times, lines_step, lines_none as no_lines, lines_take, small_append, zeros_small, zeros_unset}
use Rattle.trace_text.proofs.ImageLoops.{Memory, placed, one_line, no_line, old_line, count_left}
use Rattle.trace_text.proofs.LineFeeds.{plain_image_lead, plain_word, data_line}
use Rattle.trace_text.proofs.Stopping.{Keeps}
use Rattle.trace_text.proofs.TraceHeads.{first_line, line_fits}
use Rattle.trace_text.proofs.WholeTraces.{lines_fill}

-- ---- a line

text_line : (address : ℕ) (x : List ℕ) → IsLine (line_text address x)
text_line address x = line_behind (codes "I ") _ refl (line_behind (word address) _ (plain_word address) (line_behind (32 ∷ []) _ refl (data_line x)))

image_line_lines : (address : ℕ) (x : List ℕ) → AreLines (image_line address x)
image_line_lines address x = go (any_set x) refl
  where
    go : (b : Bool) → any_set x ≡ b → AreLines (image_line address x)
    go true e = subst AreLines (sym (line_set address x e)) (whole_line _ (text_line address x))
    go false e = subst AreLines (sym (line_unset address x e)) lines_none

line_kept : (width address : ℕ) (bytes x rest other : List ℕ) → image_line_at (replicate width 0) address bytes ≡ Some (x, rest) → AreAlike rest other → image_line_at (replicate width 0) address (image_line address x ++ other) ≡ Some (x, other)
unfolding image_line_at
line_kept width address bytes x rest other e a =
    let old : List ℕ = replicate width 0 in
    let t = line_takes width address bytes x rest e in
    elim (behind_takes (after (image_lead address) bytes) (image_data_at (length old)) (Some (old, bytes)) (x, rest) e) [
      | inl on ↦ line_set_again width address x other t.1 ((data_reads (length old)).takes on.0 x rest on.2).1.1
      | inr off ↦
          let made : List ℕ × List ℕ = (old, bytes) in
          let same : made ≡ (x, rest) = some_is made (x, rest) off.1 in
          let unset : any_set x ≡ false = ap (λ (y : List ℕ × List ℕ). any_set y.0) (sym same) ∙ zeros_unset width in
          let left : after (image_lead address) rest ≡ None = ap (λ (y : List ℕ × List ℕ). after (image_lead address) y.1) (sym same) ∙ off.0 in
          line_unset_again width address x other t.1 unset (after_alike_none (image_lead address) rest other (plain_image_lead address) a left)
    ]

-- a line's lead stands there with no line of data behind it
line_fails : (width address : ℕ) (rest other : List ℕ) → image_line_at (replicate width 0) address rest ≡ None → AreAlike rest other → image_line_at (replicate width 0) address other ≡ None
unfolding image_line_at
line_fails width address rest other e a = go (after (image_lead address) rest) refl
  where
    old : List ℕ
    old = replicate width 0

    go : (o : Option (List ℕ)) → after (image_lead address) rest ≡ o → image_line_at old address other ≡ None
    go None off = let none : ◌≡◌ {A = Option (List ℕ × List ℕ)} None (Some (old, rest)) = sym e ∙ rw off refl in absurd (none-some (old, rest) none)
    go (Some fields) on =
        let later = after_alike (image_lead address) rest other fields (plain_image_lead address) a on in
        let bad : image_data_at (length old) fields ≡ None = (rw on at e) in
        rw later.1 (line_alike (data_reads (length old)) (λ x h. data_line x) fields later.0 bad later.2)

-- ---- lines

lines_are : (width n address : ℕ) (x : List ℕ) → AreLines (image_lines width n address x)
unfolding image_lines
lines_are width zero address x = lines_none
lines_are width (suc n) address x = lines_append (image_line address (take width x)) (image_lines width n (address + width) (drop width x)) (image_line_lines address (take width x)) (lines_are width n (address + width) (drop width x))

lines_kept : (width n address : ℕ) (bytes x rest other : List ℕ) → image_lines_at width n address bytes ≡ Some (x, rest) → AreAlike rest other → image_lines_at width n address (image_lines width n address x ++ other) ≡ Some (x, other)
unfolding image_lines_at
lines_kept width zero address bytes x rest other e a =
    let made : List ℕ × List ℕ = ([], bytes) in
    let none : [] ≡ x = ap (λ (y : List ℕ × List ℕ). y.0) (some_is made (x, rest) e) in
    ap (λ (t : List ℕ). image_lines_at width 0 address (t ++ other)) (no_lines width address x) ∙ ap (λ (l : List ℕ). Some (l, other)) none
lines_kept width (suc n) address bytes x rest other e a =
    let p = bind_some (image_line_at (replicate width 0) address bytes) (λ l. image_lines_at width n (address + width) l.1 >>= λ ls. Some (l.0 ++ ls.0, ls.1)) (x, rest) e in
    let q = bind_some (image_lines_at width n (address + width) p.0.1) (λ ls. Some (p.0.0 ++ ls.0, ls.1)) (x, rest) p.2 in
    let made : List ℕ × List ℕ = (p.0.0 ++ q.0.0, q.0.1) in
    let same : made ≡ (x, rest) = some_is made (x, rest) q.2 in
    let here : AreAlike q.0.1 other = subst (λ (y : List ℕ × List ℕ). AreAlike y.1 other) (sym same) a in
    let first = line_takes width address bytes p.0.0 p.0.1 p.1 in
    let t = lines_take width n (address + width) p.0.1 q.0.0 q.0.1 q.1 in
    let others : List ℕ = image_lines width n (address + width) q.0.0 in
    let alike : AreAlike p.0.1 (others ++ other) = subst (λ u. AreAlike u (others ++ other)) (sym t.0) (alike_behind others q.0.1 other here) in
    let one = line_kept width address bytes p.0.0 p.0.1 (others ++ other) p.1 alike in
    let more = lines_kept width n (address + width) p.0.1 q.0.0 q.0.1 other q.1 here in
    let parts : image_lines width (suc n) address (p.0.0 ++ q.0.0) ++ other ≡ image_line address p.0.0 ++ (others ++ other) = ap (λ u. u ++ other) (lines_step width n address p.0.0 q.0.0 first.1.len) ∙ append_assoc (image_line address p.0.0) others other in
    ap (λ (y : List ℕ × List ℕ). image_lines_at width (suc n) address (image_lines width (suc n) address y.0 ++ other)) (sym same) ∙ ap (image_lines_at width (suc n) address) parts ∙ rw (one, more) (ap (λ (y : List ℕ × List ℕ). Some (y.0, other)) same)

pub memory_keeps : (s : LineSize) (kib : ℕ) → Keeps (image_lines (length_of s) (kib * 1024 / length_of s) base) (IsBytes (kib * 1024)) (image_lines_at (length_of s) (kib * 1024 / length_of s) base)
memory_keeps s kib = record {
  takes = λ bytes x rest e. let t = lines_take (length_of s) (kib * 1024 / length_of s) base bytes x rest e in (t.0, subst (λ n. IsBytes n x) (lines_fill s kib) t.1);
  keeps = λ bytes x rest other e a. lines_kept (length_of s) (kib * 1024 / length_of s) base bytes x rest other e a;
  lines = λ x h. lines_are (length_of s) (kib * 1024 / length_of s) base x;
}

-- ---- so many lines, and so many more

lines_joined : (width n m address : ℕ) (front back : List ℕ) → length front ≡ n * width → image_lines width (n + m) address (front ++ back) ≡ image_lines width n address front ++ image_lines width m (address + n * width) back
lines_joined width zero m address front back len =
    let none : front ≡ [] = nil_from_length front (len ∙ none_times width) in
    let count : 0 + m ≡ m = omega arith in
    let same : address + 0 * width ≡ address = omega (arith, none_times width) in
    rw (none, no_lines width address [], count, same) refl
lines_joined width (suc n) m address front back len =
    let product = more_times n width in
    let a : List ℕ = take width front in
    let b : List ℕ = drop width front in
    let whole : a ++ b ≡ front = take-append-drop width front in
    let a_len : length a ≡ width = length-take-le width front (omega (arith, len, product)) in
    let b_len : length b ≡ n * width = length-drop width front ∙ omega (arith, len, product) in
    let count : suc n + m ≡ suc (n + m) = omega arith in
    let place : address + width + n * width ≡ address + suc n * width = omega (arith, product) in
    let joined = lines_joined width n m (address + width) b back b_len in
    let left : image_lines width (suc n + m) address (front ++ back) ≡ image_line address a ++ image_lines width (n + m) (address + width) (b ++ back) =
    ap (λ (k : ℕ). image_lines width k address (front ++ back)) count ∙ ap (λ (u : List ℕ). image_lines width (suc (n + m)) address (u ++ back)) (sym whole) ∙ ap (image_lines width (suc (n + m)) address) (append_assoc a b back) ∙ lines_step width (n + m) address a (b ++ back) a_len in
    let right : image_lines width (suc n) address front ≡ image_line address a ++ image_lines width n (address + width) b = ap (image_lines width (suc n) address) (sym whole) ∙ lines_step width n address a b a_len in
    left ∙ ap (λ (u : List ℕ). image_line address a ++ u) joined ∙ sym (append_assoc (image_line address a) (image_lines width n (address + width) b) (image_lines width m (address + width + n * width) back))
    ∙ ap (λ (u : List ℕ). u ++ image_lines width m (address + width + n * width) back) (sym right) ∙ ap (λ (k : ℕ). image_lines width (suc n) address front ++ image_lines width m k back) place

-- the lines of memory that were read before the rest, and that they are read again where an alike line follows
pub record PassedMemory (width size start : ℕ) (front rest bytes : List ℕ) : Type 0 where
  pub count : ℕ
  pub at : start ≡ count * width
  pub parts : bytes ≡ image_lines width count base front ++ rest
  pub fits : IsBytes start front
  pub kept : (other : List ℕ) → AreAlike rest other → fronted front (image_lines_at width ((size - start) / width) (base + start) other) ≡ image_lines_at width (size / width) base (image_lines width count base front ++ other)

pub memory_none : (width size : ℕ) (bytes : List ℕ) → PassedMemory width size 0 [] bytes bytes
memory_none width size bytes = record {
  count = 0;
  at = sym (none_times width);
  parts = ap (λ t. t ++ bytes) (sym (no_lines width base []));
  fits = record { len = refl; small = tt };
  kept = λ other a.
      let all : size - 0 ≡ size = omega arith in
      let here : base + 0 ≡ base = omega arith in
      rw (all, here, no_lines width base []) (fronted_none (image_lines_at width (size / width) base other));
}

pub memory_passes : (width size start : ℕ) (front line rest later bytes : List ℕ) → IsWidth width → IsMemorySize size → start % width ≡ 0 → start < size → image_line_at (replicate width 0) (base + start) rest ≡ Some (line, later)
    → PassedMemory width size start front rest bytes → PassedMemory width size (start + width) (front ++ line) later bytes
memory_passes width size start front line rest later bytes w m whole lt read h =
    let t = line_takes width (base + start) rest line later read in
    let n : ℕ = h.count in
    let len : length front ≡ n * width = h.fits.len ∙ h.at in
    let place : base + n * width ≡ base + start = ap (λ k. base + k) (sym h.at) in
    let one : image_lines width 1 (base + start) line ≡ image_line (base + start) line =
    ap (image_lines width 1 (base + start)) (sym (append-nil line)) ∙ lines_step width 0 (base + start) line [] t.1.len ∙ ap (λ u. image_line (base + start) line ++ u) (no_lines width (base + start + width) []) ∙ append-nil (image_line (base + start) line) in
    let joined : image_lines width (n + 1) base (front ++ line) ≡ image_lines width n base front ++ image_line (base + start) line = lines_joined width n 1 base front line len ∙ ap (λ k. image_lines width n base front ++ image_lines width 1 k line) place ∙ ap (λ u. image_lines width n base front ++ u) one in
    let text : (other : List ℕ) → image_lines width (n + 1) base (front ++ line) ++ other ≡ image_lines width n base front ++ (image_line (base + start) line ++ other) = λ other. ap (λ u. u ++ other) joined ∙ append_assoc (image_lines width n base front) (image_line (base + start) line) other in
    let left : ℕ = (size - (start + width)) / width in
    let next : base + start + width ≡ base + (start + width) = omega arith in
    let times : (n + 1) * width ≡ width + n * width = ap (λ k. k * width) (one_more n) ∙ more_times n width in
    record {
      count = n + 1;
      at = omega (arith, h.at, times);
      parts = h.parts ∙ ap (λ u. image_lines width n base front ++ u) t.0 ∙ sym (text later);
      fits = record { len = length-append front line ∙ omega (arith, h.fits.len, t.1.len); small = small_append front line h.fits.small t.1.small };
      kept = λ other a.
          let alike : AreAlike rest (image_line (base + start) line ++ other) = subst (λ u. AreAlike u (image_line (base + start) line ++ other)) (sym t.0) (alike_behind (image_line (base + start) line) later other a) in
          let again = line_kept width (base + start) rest line later other read a in
          let step = one_line width left (base + start) front line (image_line (base + start) line ++ other) other again in
          ap (λ k. fronted (front ++ line) (image_lines_at width left k other)) (sym next) ∙ sym step
          ∙ ap (λ k. fronted front (image_lines_at width k (base + start) (image_line (base + start) line ++ other))) (sym (count_left width size start w m whole lt))
          ∙ h.kept (image_line (base + start) line ++ other) alike ∙ ap (image_lines_at width (size / width) base) (sym (text other));
    }
  where
    one_more : (n : ℕ) → n + 1 ≡ suc n
    one_more n = omega arith

rest_of : (width size start count : ℕ) → IsWidth width → IsMemorySize size → start ≤ size → start ≡ count * width → size / width ≡ count + (size - start) / width
rest_of width size start count (inl e) m le at = subst (λ w. start ≡ count * w → size / w ≡ count + (size - start) / w) (sym e) (λ at. omega (arith, at, le, m.whole_pages)) at
rest_of width size start count (inr e) m le at = subst (λ w. start ≡ count * w → size / w ≡ count + (size - start) / w) (sym e) (λ at. omega (arith, at, le, m.whole_pages)) at

pub memory_stops : (width size start : ℕ) (front rest bytes : List ℕ) → IsWidth width → IsMemorySize size → start % width ≡ 0 → start < size → image_line_at (replicate width 0) (base + start) rest ≡ None
    → PassedMemory width size start front rest bytes → StopsIn (image_lines width (size / width) base) (IsBytes size) (image_lines_at width (size / width) base) bytes (length rest)
memory_stops width size start front rest bytes w m whole lt none h =
    let back : List ℕ = replicate (size - start) 0 in
    let left : ℕ = (size - start) / width in
    let len : length (front ++ back) ≡ size = length-append front back ∙ omega (arith, h.fits.len, length-replicate {A = ℕ} (size - start) 0, lt) in
    let count : size / width ≡ h.count + left = rest_of width size start h.count w m (omega arith) h.at in
    let joined = lines_joined width h.count left base front back (h.fits.len ∙ h.at) in
    record {
      before = image_lines width h.count base front;
      rest = rest;
      parts = h.parts;
      lines = lines_are width h.count base front;
      starts = (front ++ back, image_lines width left (base + h.count * width) back, record { len = len; small = small_append front back h.fits.small (zeros_small (size - start)) }, sym joined ∙ ap (λ k. image_lines width k base (front ++ back)) (sym count));
      never = λ other a.
          sym (h.kept other a) ∙ ap (λ k. fronted front (image_lines_at width k (base + start) other)) (count_left width size start w m whole lt)
          ∙ no_line width ((size - (start + width)) / width) (base + start) front other (line_fails width (base + start) rest other none a);
      long = refl;
    }

-- ---- in the loop

pub memory_starts : (width size : ℕ) (image bytes : List ℕ) → IsWidth width → image ≡ replicate size 0 → Memory width size 0 image bytes bytes × PassedMemory width size 0 (take 0 image) bytes bytes
memory_starts width size image bytes w e =
    let all : size - 0 ≡ size = omega arith in
    let here : base + 0 ≡ base = omega arith in
    let memory : Memory width size 0 image bytes bytes = record {
      whole = first_line width w;
      inside = omega arith;
      len = ap length e ∙ length-replicate {A = ℕ} size 0;
      zeros = e ∙ ap (λ n. replicate n 0) (sym all);
      so_far = rw (all, here) (fronted_none (image_lines_at width (size / width) base bytes));
    } in
    (memory, memory_none width size bytes)

placed_take : (start width : ℕ) (image line : List ℕ) → start + width ≤ length image → length line ≡ width → take (start + width) (placed start width image line) ≡ take start image ++ line
placed_take start width image line le len =
    let front : length (take start image) ≡ start = length-take-le start image (omega arith) in
    let both : length (take start image ++ line) ≡ start + width = length-append (take start image) line ∙ omega (arith, front, len) in
    let others : List ℕ = drop width (drop start image) in
    ap (take (start + width)) (sym (append_assoc (take start image) line others)) ∙ take_at (take start image ++ line) others (start + width) both

blank_read : (width size start : ℕ) (image rest bytes : List ℕ) (o : Option (List ℕ × List ℕ)) → IsWidth width → IsMemorySize size → start < size → Memory width size start image rest bytes → o ≡ image_line_at (take width (drop start image)) (base + start) rest → image_line_at (replicate width 0) (base + start) rest ≡ o
blank_read width size start image rest bytes o w m lt h read = ap (λ l. image_line_at l (base + start) rest) (sym (old_line width size start image (line_fits start size width w h.whole m lt) h.zeros)) ∙ sym read

pub memory_goes_on : (width size start : ℕ) (image line rest later bytes : List ℕ) → IsWidth width → IsMemorySize size → start < size → Some (line, later) ≡ image_line_at (take width (drop start image)) (base + start) rest
    → Memory width size start image rest bytes → PassedMemory width size start (take start image) rest bytes → PassedMemory width size (start + width) (take (start + width) (placed start width image line)) later bytes
memory_goes_on width size start image line rest later bytes w m lt read h p =
    let blank = blank_read width size start image rest bytes (Some (line, later)) w m lt h read in
    let len : length line ≡ width = (line_takes width (base + start) rest line later blank).1.len in
    let fits = line_fits start size width w h.whole m lt in
    subst (λ u. PassedMemory width size (start + width) u later bytes) (sym (placed_take start width image line (omega (arith, fits, h.len)) len))
    (memory_passes width size start (take start image) line rest later bytes w m h.whole lt blank p)

pub memory_stops_there : (width size start : ℕ) (image rest bytes : List ℕ) → IsWidth width → IsMemorySize size → start < size → None ≡ image_line_at (take width (drop start image)) (base + start) rest
    → Memory width size start image rest bytes → PassedMemory width size start (take start image) rest bytes → StopsIn (image_lines width (size / width) base) (IsBytes size) (image_lines_at width (size / width) base) bytes (length rest)
memory_stops_there width size start image rest bytes w m lt read h p = memory_stops width size start (take start image) rest bytes w m h.whole lt (blank_read width size start image rest bytes None w m lt h read) p
