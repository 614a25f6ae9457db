-- A line's bytes are memory's from its address on: at reset the image's, and behind a write of a word what that wrote.
use Rattle.std.proofs.Common.{◌≡◌, ◌≢◌, ℕ, zero, suc, ◌+◌, ◌-◌, ◌*◌, ◌%◌, ◌<◌, ◌≤◌, List, [], ◌∷◌, Bool, true, false, Some, None, refl, cond, sym, ap, ◌∙◌, subst, ◌&&◌, ◌⊎◌, inl, inr, arith, length, drop, take}
use Rattle.std.specs.Prelude.{nat_eq, slice_get, slice_index, slice_set}
use Rattle.std.proofs.lemmas.Bool.{cases_lt, eq-eqb}
use Rattle.std.proofs.lemmas.Bool.Decides.{eqb_tells}
use Rattle.std.proofs.lemmas.List.{get_or-drop, get_or-take, length-drop, length-set, length-take-le}
use Rattle.std.proofs.lemmas.Option.{slice_get-get_or}
use Rattle.backing_memory.specs.Memory.{line_data, lines_of}
use Rattle.backing_memory.specs.Places.{bytes-line_data, size-line_data}
use Rattle.client_cache.specs.Word.{with_marked, with_word}
use Rattle.elf_loader.specs.Image.{Initial, byte_at}
use Rattle.machine_model.specs.Events.{is_piece}
use Rattle.machine_model.specs.Views.{place_of}
use Rattle.machine_model.specs.Words.{word_of}
use Rattle.machine_model.proofs.coherence.LineKept.{not_eq, split}
use Rattle.machine_model.proofs.coherence.LinePlaces.{IsPiece, piece, place_inside}
use Rattle.machine_model.proofs.coherence.WorldSteps.{wrote_word}
use Rattle.store_buffer.specs.ByteMask.{is_marked}
use Rattle.tl_types.specs.Line.{bytes_of, length_of, line_of, size_of}
use Rattle.tl_types.specs.declared.line.LineData.{LineData}
use Rattle.tl_types.specs.declared.line.LineData.TheVariants as data_of
use Rattle.tl_types.specs.declared.line.LineSize.{LineSize}
use Rattle.tl_types.specs.declared.line.LineSize.TheVariants.{Bytes16, Bytes64}

pub record IsOf (size : LineSize) (memory : ℕ → ℕ) (l : ℕ) (line : LineData) : Type 0 where
  pub sized : size_of line ≡ size
  pub whole : length (bytes_of line) ≡ length_of size
  pub bytes : (k : ℕ) → k < length_of size → slice_get (bytes_of line) k ≡ Some (memory (l + k))

pub same_bytes : (size : LineSize) (memory later : ℕ → ℕ) (l : ℕ) (line : LineData) → ((x : ℕ) → later x ≡ memory x) → IsOf size memory l line → IsOf size later l line
same_bytes size memory later l line f o = record { sized = o.sized; whole = o.whole; bytes = λ k b. o.bytes k b ∙ ap Some (sym (f (l + k))) }

-- ---- marked bytes

none_not : (v : ℕ) → None ≡ Some v → ⊥
none_not v e = cc

set_same : (line : List ℕ) (at byte v : ℕ) → slice_get line at ≡ Some v → slice_get (slice_set line at byte) at ≡ Some byte
set_same [] at byte v e = absurd (none_not v e)
set_same (x ∷ xs) zero byte v e = refl
set_same (x ∷ xs) (suc at) byte v e = set_same xs at byte v e

set_other : (line : List ℕ) (at byte j : ℕ) → j ≢ at → slice_get (slice_set line at byte) j ≡ slice_get line j
set_other [] at byte j ne = refl
set_other (x ∷ xs) zero byte zero ne = absurd (ne refl)
set_other (x ∷ xs) zero byte (suc j) ne = refl
set_other (x ∷ xs) (suc at) byte zero ne = refl
set_other (x ∷ xs) (suc at) byte (suc j) ne = set_other xs at byte j (λ e. ne (ap suc e))

set_get : (line : List ℕ) (at byte j v : ℕ) (mark : Bool) → slice_get line j ≡ Some v → slice_get (cond mark (slice_set line at byte) line) j ≡ Some (cond (mark && nat_eq j at) byte v)
set_get line at byte j v false e = e
set_get line at byte j v true e = go (eqb_tells j at)
  where
    go : ((nat_eq j at ≡ true) × (j ≡ at)) ⊎ ((nat_eq j at ≡ false) × (j ≢ at)) → slice_get (slice_set line at byte) j ≡ Some (cond (nat_eq j at) byte v)
    go (inl q) = subst (λ i. slice_get (slice_set line at byte) i ≡ Some byte) (sym q.1) (set_same line at byte v (subst (λ i. slice_get line i ≡ Some v) q.1 e)) ∙ ap (λ b. Some (cond b byte v)) (sym q.0)
    go (inr q) = set_other line at byte j q.1 ∙ (e ∙ ap (λ b. Some (cond b byte v)) (sym q.0))

-- the byte at a place that had v, behind a write of marked bytes from `at` on
abbrev over : (at j v : ℕ) → List Bool → List ℕ → ℕ
over at j v [] bytes = v
over at j v (mark ∷ marks) [] = v
over at j v (mark ∷ marks) (byte ∷ bytes) = over (at + 1) j (cond (mark && nat_eq j at) byte v) marks bytes

marked_get : (line : List ℕ) (at : ℕ) (marks : List Bool) (bytes : List ℕ) (j v : ℕ) → slice_get line j ≡ Some v → slice_get (with_marked line at marks bytes) j ≡ Some (over at j v marks bytes)
marked_get line at [] bytes j v e = e
marked_get line at (mark ∷ marks) [] j v e = e
marked_get line at (mark ∷ marks) (byte ∷ bytes) j v e = marked_get (cond mark (slice_set line at byte) line) (at + 1) marks bytes j (cond (mark && nat_eq j at) byte v) (set_get line at byte j v mark e)

length-marked : (line : List ℕ) (at : ℕ) (marks : List Bool) (bytes : List ℕ) → length (with_marked line at marks bytes) ≡ length line
length-marked line at [] bytes = refl
length-marked line at (mark ∷ marks) [] = refl
length-marked line at (mark ∷ marks) (byte ∷ bytes) = length-marked (cond mark (slice_set line at byte) line) (at + 1) marks bytes ∙ go mark
  where
    go : (b : Bool) → length (cond b (slice_set line at byte) line) ≡ length line
    go true = length-set line at byte
    go false = refl

not_there : (mark : Bool) (j at byte v : ℕ) → j ≢ at → cond (mark && nat_eq j at) byte v ≡ v
not_there true j at byte v ne = ap (λ b. cond b byte v) (not_eq j at ne)
not_there false j at byte v ne = refl

there : (mark : Bool) (j at byte v : ℕ) → j ≡ at → cond (mark && nat_eq j at) byte v ≡ cond mark byte v
there true j at byte v e = ap (λ b. cond b byte v) (eq-eqb j at e)
there false j at byte v e = refl

over_below : (at j v : ℕ) (marks : List Bool) (bytes : List ℕ) → j < at → over at j v marks bytes ≡ v
over_below at j v [] bytes l = refl
over_below at j v (mark ∷ marks) [] l = refl
over_below at j v (mark ∷ marks) (byte ∷ bytes) l = over_below (at + 1) j (cond (mark && nat_eq j at) byte v) marks bytes (omega (arith, l)) ∙ not_there mark j at byte v (λ e. absurd (omega (arith, l, e)))

over_above : (at j v : ℕ) (marks : List Bool) (bytes : List ℕ) → at + length marks ≤ j → over at j v marks bytes ≡ v
over_above at j v [] bytes l = refl
over_above at j v (mark ∷ marks) [] l = refl
over_above at j v (mark ∷ marks) (byte ∷ bytes) l = over_above (at + 1) j (cond (mark && nat_eq j at) byte v) marks bytes (omega (arith, l)) ∙ not_there mark j at byte v (λ e. absurd (omega (arith, l, e)))

over_at : (at k v : ℕ) (marks : List Bool) (bytes : List ℕ) → k < length marks → length marks ≡ length bytes → over at (at + k) v marks bytes ≡ cond (is_marked marks k) (slice_index bytes k) v
over_at at k v [] bytes l e = absurd (omega (arith, l))
over_at at k v (mark ∷ marks) [] l e = absurd (omega (arith, e))
over_at at zero v (mark ∷ marks) (byte ∷ bytes) l e = over_below (at + 1) (at + 0) (cond (mark && nat_eq (at + 0) at) byte v) marks bytes (omega arith) ∙ there mark (at + 0) at byte v (omega arith)
over_at at (suc k) v (mark ∷ marks) (byte ∷ bytes) l e =
    ap (λ w. over (at + 1) (at + suc k) w marks bytes) (not_there mark (at + suc k) at byte v (λ f. absurd (omega (arith, f))))
    ∙ (ap (λ j. over (at + 1) j v marks bytes) (omega arith) ∙ over_at (at + 1) k v marks bytes (omega (arith, l)) (omega (arith, e)))

-- ---- a write of a word

word_bytes : (line : LineData) (word : ℕ) (marks : List Bool) (bytes : List ℕ) → bytes_of (with_word line word marks bytes) ≡ with_marked (bytes_of line) (word % length_of (size_of line)) marks bytes
word_bytes (data_of.Bytes16 line) word marks bytes = refl
word_bytes (data_of.Bytes64 line) word marks bytes = refl

word_size : (line : LineData) (word : ℕ) (marks : List Bool) (bytes : List ℕ) → size_of (with_word line word marks bytes) ≡ size_of line
word_size (data_of.Bytes16 line) word marks bytes = refl
word_size (data_of.Bytes64 line) word marks bytes = refl

-- where the word's bytes lie in its line
record InPlace (size : LineSize) (word k : ℕ) : Type 0 where
  below : k < word % length_of size → word_of (line_of size word + k) ≢ word
  inside : (j : ℕ) → j < 4 → k ≡ word % length_of size + j → line_of size word + k ≡ word + j
  above : word % length_of size + 4 ≤ k → word_of (line_of size word + k) ≢ word

in_place : (size : LineSize) (word k : ℕ) → word % 4 ≡ 0 → InPlace size word k
in_place Bytes16 word k a = record { below = λ l e. absurd (omega (arith, a, l, e)); inside = λ j l e. omega (arith, l, e); above = λ l e. absurd (omega (arith, a, l, e)) }
in_place Bytes64 word k a = record { below = λ l e. absurd (omega (arith, a, l, e)); inside = λ j l e. omega (arith, l, e); above = λ l e. absurd (omega (arith, a, l, e)) }

-- another line has none of the word's bytes
elsewhere : (size : LineSize) (q word k : ℕ) → q % length_of size ≡ 0 → k < length_of size → q ≢ line_of size word → word_of (q + k) ≢ word
elsewhere Bytes16 q word k a l ne e = ne (omega (arith, a, l, e))
elsewhere Bytes64 q word k a l ne e = ne (omega (arith, a, l, e))

-- what memory is behind a write of the marked bytes of an aligned word
pub record IsWritten (memory later : ℕ → ℕ) (word : ℕ) (marks : List Bool) (bytes : List ℕ) : Type 0 where
  pub aligned : word % 4 ≡ 0
  pub marks_room : length marks ≡ 4
  pub bytes_room : length bytes ≡ 4
  pub here : (k : ℕ) → k < 4 → later (word + k) ≡ cond (is_marked marks k) (slice_index bytes k) (memory (word + k))
  pub there : (x : ℕ) → word_of x ≢ word → later x ≡ memory x

module _ (size : LineSize) (memory later : ℕ → ℕ) (word : ℕ) (marks : List Bool) (bytes : List ℕ) (w : IsWritten memory later word marks bytes) where
  abbrev l : ℕ
  l = line_of size word

  abbrev at : ℕ
  at = word % length_of size

  by_place : (k : ℕ) → (k < at) ⊎ ((at ≤ k) × (k < at + 4)) ⊎ (at + 4 ≤ k) → over at k (memory (l + k)) marks bytes ≡ later (l + k)
  by_place k (inl b) = over_below at k (memory (l + k)) marks bytes b ∙ sym (w.there (l + k) ((in_place size word k w.aligned).below b))
  by_place k (inr (inr b)) = over_above at k (memory (l + k)) marks bytes (subst (λ n. at + n ≤ k) (sym w.marks_room) b) ∙ sym (w.there (l + k) ((in_place size word k w.aligned).above b))
  by_place k (inr (inl b)) =
      let j : ℕ = k - at in
      let less : j < 4 = omega (arith, b.0, b.1) in
      let k_is : k ≡ at + j = omega (arith, b.0) in
      let x_is : l + k ≡ word + j = (in_place size word k w.aligned).inside j less k_is in
      ap (λ i. over at i (memory (l + k)) marks bytes) k_is
      ∙ (over_at at j (memory (l + k)) marks bytes (subst (λ n. j < n) (sym w.marks_room) less) (w.marks_room ∙ sym w.bytes_room)
      ∙ (ap (λ x. cond (is_marked marks j) (slice_index bytes j) (memory x)) x_is ∙ (sym (w.here j less) ∙ ap later (sym x_is))))

  places : (k : ℕ) → (k < at) ⊎ ((at ≤ k) × (k < at + 4)) ⊎ (at + 4 ≤ k)
  places k = go (cases_lt k at) (cases_lt k (at + 4))
    where
      go : (k < at) ⊎ (at ≤ k) → (k < at + 4) ⊎ (at + 4 ≤ k) → (k < at) ⊎ ((at ≤ k) × (k < at + 4)) ⊎ (at + 4 ≤ k)
      go (inl b) c = inl b
      go (inr b) (inl c) = inr (inl (b, c))
      go (inr b) (inr c) = inr (inr c)

  wrote_own : (line : LineData) → IsOf size memory l line → IsOf size later l (with_word line word marks bytes)
  wrote_own line o = record {
    sized = word_size line word marks bytes ∙ o.sized;
    whole = ap length (word_bytes line word marks bytes) ∙ (length-marked (bytes_of line) (word % length_of (size_of line)) marks bytes ∙ o.whole);
    bytes = λ k b. ap (λ xs. slice_get xs k) (word_bytes line word marks bytes ∙ ap (λ z. with_marked (bytes_of line) (word % length_of z) marks bytes) o.sized)
        ∙ (marked_get (bytes_of line) at marks bytes k (memory (l + k)) (o.bytes k b) ∙ ap Some (by_place k (places k)));
  }

  wrote_other : (q : ℕ) (line : LineData) → q ≢ l → q % length_of size ≡ 0 → IsOf size memory q line → IsOf size later q line
  wrote_other q line ne a o = record { sized = o.sized; whole = o.whole; bytes = λ k b. o.bytes k b ∙ ap Some (sym (w.there (q + k) (elsewhere size q word k a b ne))) }

  pub wrote : (last : ℕ → LineData) (q : ℕ) → q % length_of size ≡ 0 → IsOf size memory q (last q) → IsOf size later q (wrote_word size last word marks bytes q)
  wrote last q = split (λ q. q % length_of size ≡ 0 → IsOf size memory q (last q) → IsOf size later q (wrote_word size last word marks bytes q)) l
      (λ a o. subst (λ b. IsOf size later l (cond b (with_word (last l) word marks bytes) (last l))) (sym (eq-eqb l l refl)) (wrote_own (last l) o))
      (λ q ne a o. subst (λ b. IsOf size later q (cond b (with_word (last q) word marks bytes) (last q))) (sym (not_eq q l ne)) (wrote_other q (last q) ne a o)) q

-- ---- at reset

-- where a line of memory lies in the image
record InImage (size : LineSize) (l n k : ℕ) : Type 0 where
  room : place_of size l * length_of size + length_of size ≤ n
  place : place_of size l * length_of size + k ≡ (l + k) - 2147483648

in_image : (size : LineSize) (l n k : ℕ) → l % length_of size ≡ 0 → 2147483648 ≤ l → l + length_of size ≤ 2147483648 + n → InImage size l n k
in_image Bytes16 l n k a low high = record { room = omega (arith, a, low, high); place = omega (arith, a, low) }
in_image Bytes64 l n k a low high = record { room = omega (arith, a, low, high); place = omega (arith, a, low) }

pub image_line : (size : LineSize) (image : Initial) (l : ℕ) → is_piece image l (length_of size) ≡ true → IsOf size (byte_at image) l (line_data (lines_of size image.bytes) (place_of size l))
image_line size image l on = record {
  sized = size-line_data size image.bytes (place_of size l) (place_inside image size l on);
  whole = ap length (bytes-line_data size image.bytes (place_of size l) (place_inside image size l on)) ∙ counted;
  bytes = λ k b.
      ap (λ xs. slice_get xs k) (bytes-line_data size image.bytes (place_of size l) (place_inside image size l on))
      ∙ (slice_get-get_or (take (length_of size) (drop start image.bytes)) k 0 (subst (λ n. k < n) (sym counted) b)
      ∙ ap Some (get_or-take (length_of size) (drop start image.bytes) k 0 b ∙ (get_or-drop start image.bytes k 0 ∙ ap (slice_index image.bytes) (is_in k).place)));
}
  where
    p : IsPiece image l (length_of size)
    p = piece image l (length_of size) on

    is_in : (k : ℕ) → InImage size l (length image.bytes) k
    is_in k = in_image size l (length image.bytes) k p.aligned p.low p.high

    start : ℕ
    start = place_of size l * length_of size

    room : start + length_of size ≤ length image.bytes
    room = (is_in 0).room

    counted : length (take (length_of size) (drop start image.bytes)) ≡ length_of size
    counted = length-take-le (length_of size) (drop start image.bytes) (subst (λ n. length_of size ≤ n) (sym (length-drop start image.bytes)) (omega (arith, room)))
