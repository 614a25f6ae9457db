-- What is read of an image's lines is spelled so, and what is spelled so is read, where other lines follow.
use Rattle.std.proofs.Common.{◌≡◌, ℕ, zero, suc, ◌+◌, ◌*◌, ◌^◌, ◌<◌, ◌≤◌, Bool, true, false, eqb, List, [], ◌∷◌, ◌++◌, length, take, drop, Option, Some, None, refl, sym, ap, subst, ◌∙◌, append_assoc, arith, inl, inr}
use Rattle.std.proofs.Math.Nat.{zero-mul, suc-mul}
use Rattle.std.specs.Prelude.{codes, replicate, ◌||◌, not}
use Rattle.std.specs.List.{AllByRecursion}
use Rattle.std.proofs.lemmas.Bool.{eqb-true}
use Rattle.std.proofs.lemmas.List.{length-append, length-replicate, length-drop, length-take-le, take_at, drop_at, take-append-drop, nil_from_length}
use Rattle.text_fields.specs.Fields.{word, hex, IsBytes}
use Rattle.text_fields.specs.Reading.{◌>>=◌, led_at, ended_at, after, word_at}
use Rattle.text_fields.proofs.Laws.{Reads, bind_some, some_is, led_reads, ended_reads, guard_reads, word_reads, hex_reads, after_takes, after_again, after_not, behind_takes, leads_apart, starts}
use Rattle.trace_text.specs.Traces.{any_set, image_line, image_lines}
use Rattle.trace_text.specs.TraceLines.{image_lead, image_data_at, image_line_at}
use Rattle.trace_text.specs.TraceSections.{image_lines_at}

-- ---- bytes

abbrev Small : List ℕ → Type 0
Small bytes = AllByRecursion (λ b. b < 256) bytes

pub small_append : (xs ys : List ℕ) → Small xs → Small ys → Small (xs ++ ys)
small_append [] ys f g = g
small_append (x ∷ xs) ys f g = (f.0, small_append xs ys f.1 g)

small_take : (n : ℕ) (xs : List ℕ) → Small xs → Small (take n xs)
small_take zero xs f = tt
small_take (suc n) [] f = tt
small_take (suc n) (x ∷ xs) f = (f.0, small_take n xs f.1)

small_drop : (n : ℕ) (xs : List ℕ) → Small xs → Small (drop n xs)
small_drop zero xs f = f
small_drop (suc n) [] f = tt
small_drop (suc n) (x ∷ xs) f = small_drop n xs f.1

pub zeros_small : (n : ℕ) → Small (replicate n 0)
zeros_small zero = tt
zeros_small (suc n) = (omega arith, zeros_small n)

pub zeros_unset : (n : ℕ) → any_set (replicate n 0) ≡ false
zeros_unset zero = refl
zeros_unset (suc n) = zeros_unset n

zeros_more : (x : ℕ) (xs : List ℕ) → (any_set xs ≡ false → xs ≡ replicate (length xs) 0) → (b : Bool) → eqb x 0 ≡ b → (not b || any_set xs) ≡ false → x ∷ xs ≡ replicate (suc (length xs)) 0
zeros_more x xs others true t f = rw (eqb-true x 0 t) (ap (λ (l : List ℕ). 0 ∷ l) (others f))
zeros_more x xs others false t f = absurd cc

unset_zeros : (xs : List ℕ) → any_set xs ≡ false → xs ≡ replicate (length xs) 0
unset_zeros [] e = refl
unset_zeros (x ∷ xs) e = zeros_more x xs (unset_zeros xs) (eqb x 0) refl e

-- ---- a line

abbrev pub line_text : ℕ → List ℕ → List ℕ
line_text address x = codes "I " ++ (word address ++ (32 ∷ (hex x ++ 10 ∷ [])))

pub line_set : (address : ℕ) (x : List ℕ) → any_set x ≡ true → image_line address x ≡ line_text address x
line_set address x e = rw e refl

pub line_unset : (address : ℕ) (x : List ℕ) → any_set x ≡ false → image_line address x ≡ []
line_unset address x e = rw e refl

regrouped : (w d rest : List ℕ) → (73 ∷ 32 ∷ (w ++ 32 ∷ [])) ++ (d ++ rest) ≡ (73 ∷ 32 ∷ (w ++ (32 ∷ d))) ++ rest
regrouped w d rest = simp append_assoc

line_parts : (address : ℕ) (x rest : List ℕ) → image_lead address ++ ((hex x ++ 10 ∷ []) ++ rest) ≡ line_text address x ++ rest
line_parts address x rest = regrouped (word address) (hex x ++ 10 ∷ []) rest

pub data_reads : (width : ℕ) → Reads (λ x. hex x ++ 10 ∷ []) (λ x. IsBytes width x × (any_set x ≡ true)) (image_data_at width)
unfolding image_data_at
data_reads width = guard_reads any_set (ended_reads 10 (hex_reads width))

pub line_takes : (width address : ℕ) (bytes x rest : List ℕ) → image_line_at (replicate width 0) address bytes ≡ Some (x, rest) → (bytes ≡ image_line address x ++ rest) × IsBytes width x
unfolding image_line_at
line_takes width address bytes x rest e =
    let old : List ℕ = replicate width 0 in
    elim (behind_takes (after (image_lead address) bytes) (image_data_at (length old)) (Some (old, bytes)) (x, rest) e) [
      | inl on ↦
          let led = after_takes (image_lead address) bytes on.0 on.1 in
          let t = (data_reads (length old)).takes on.0 x rest on.2 in
          (led ∙ ap (λ u. image_lead address ++ u) t.0 ∙ line_parts address x rest ∙ ap (λ u. u ++ rest) (sym (line_set address x t.1.1)), subst (λ n. IsBytes n x) (length-replicate width 0) t.1.0)
      | inr off ↦
          let made : List ℕ × List ℕ = (old, bytes) in
          subst (λ (y : List ℕ × List ℕ). (bytes ≡ image_line address y.0 ++ y.1) × IsBytes width y.0) (some_is made (x, rest) off.1)
          (ap (λ t. t ++ bytes) (sym (line_unset address old (zeros_unset width))), record { len = length-replicate width 0; small = zeros_small width })
    ]

pub line_set_again : (width address : ℕ) (x rest : List ℕ) → IsBytes width x → any_set x ≡ true → image_line_at (replicate width 0) address (image_line address x ++ rest) ≡ Some (x, rest)
unfolding image_line_at
line_set_again width address x rest fits e =
    let old : List ℕ = replicate width 0 in
    let read = (data_reads (length old)).again x rest (subst (λ n. IsBytes n x) (sym (length-replicate width 0)) fits, e) in
    ap (λ t. image_line_at old address (t ++ rest)) (line_set address x e) ∙ ap (image_line_at old address) (sym (line_parts address x rest))
    ∙ rw (after_again (image_lead address) ((hex x ++ 10 ∷ []) ++ rest)) read

pub line_unset_again : (width address : ℕ) (x rest : List ℕ) → IsBytes width x → any_set x ≡ false → after (image_lead address) rest ≡ None → image_line_at (replicate width 0) address (image_line address x ++ rest) ≡ Some (x, rest)
unfolding image_line_at
line_unset_again width address x rest fits e off =
    let old : List ℕ = replicate width 0 in
    let zeros : old ≡ x = ap (λ n. replicate n 0) (sym fits.len) ∙ sym (unset_zeros x e) in
    ap (λ t. image_line_at old address (t ++ rest)) (line_unset address x e) ∙ rw off (ap (λ (l : List ℕ). Some (l, rest)) zeros)

line_again : (width address : ℕ) (x rest : List ℕ) → IsBytes width x → after (image_lead address) rest ≡ None → image_line_at (replicate width 0) address (image_line address x ++ rest) ≡ Some (x, rest)
line_again width address x rest fits off = go (any_set x) refl
  where
    go : (b : Bool) → any_set x ≡ b → image_line_at (replicate width 0) address (image_line address x ++ rest) ≡ Some (x, rest)
    go true e = line_set_again width address x rest fits e
    go false e = line_unset_again width address x rest fits e off

-- ---- lines

pub none_times : (width : ℕ) → 0 * width ≡ 0
none_times width = zero-mul width

pub more_times : (n width : ℕ) → suc n * width ≡ width + n * width
more_times n width = omega (arith, suc-mul n width)

pub lines_step : (width n address : ℕ) (x xs : List ℕ) → length x ≡ width → image_lines width (suc n) address (x ++ xs) ≡ image_line address x ++ image_lines width n (address + width) xs
unfolding image_lines
lines_step width n address x xs len = rw (take_at x xs width len, drop_at x xs width len) refl

pub lines_none : (width address : ℕ) (bytes : List ℕ) → image_lines width 0 address bytes ≡ []
unfolding image_lines
lines_none width address bytes = refl

abbrev AreLines : ℕ → ℕ → ℕ → List ℕ → List ℕ → List ℕ → Type 0
AreLines width n address bytes x rest = (bytes ≡ image_lines width n address x ++ rest) × IsBytes (n * width) x

pub lines_take : (width n address : ℕ) (bytes x rest : List ℕ) → image_lines_at width n address bytes ≡ Some (x, rest) → AreLines width n address bytes x rest
unfolding image_lines_at
lines_take width zero address bytes x rest e =
    let made : List ℕ × List ℕ = ([], bytes) in
    subst (λ (y : List ℕ × List ℕ). AreLines width 0 address bytes y.0 y.1) (some_is made (x, rest) e) (ap (λ t. t ++ bytes) (sym (lines_none width address [])), record { len = sym (none_times width); small = tt })
lines_take width (suc n) address bytes x rest e =
    let p = bind_some (image_line_at (replicate width 0) address bytes) (λ l. image_lines_at width n (address + width) l.1 >>= λ ls. Some (l.0 ++ ls.0, ls.1)) (x, rest) e in
    let q = bind_some (image_lines_at width n (address + width) p.0.1) (λ ls. Some (p.0.0 ++ ls.0, ls.1)) (x, rest) p.2 in
    let first = line_takes width address bytes p.0.0 p.0.1 p.1 in
    let others = lines_take width n (address + width) p.0.1 q.0.0 q.0.1 q.1 in
    let made : List ℕ × List ℕ = (p.0.0 ++ q.0.0, q.0.1) in
    subst (λ (y : List ℕ × List ℕ). AreLines width (suc n) address bytes y.0 y.1) (some_is made (x, rest) q.2) (
      first.0 ∙ ap (λ t. image_line address p.0.0 ++ t) others.0 ∙ sym (append_assoc (image_line address p.0.0) (image_lines width n (address + width) q.0.0) q.0.1)
          ∙ ap (λ t. t ++ q.0.1) (sym (lines_step width n address p.0.0 q.0.0 first.1.len)),
      record { len = length-append p.0.0 q.0.0 ∙ ap (λ k. k + length q.0.0) first.1.len ∙ ap (λ k. width + k) others.1.len ∙ sym (more_times n width); small = small_append p.0.0 q.0.0 first.1.small others.1.small },
    )

lead_law : Reads image_lead (λ w. w < 2 ^ 32) (led_at (codes "I ") (ended_at 32 word_at))
lead_law = led_reads (codes "I ") (ended_reads 32 word_reads)

-- another address's line
other_line : (a address : ℕ) (line others rest : List ℕ) → a < address → address < 2 ^ 32 → after (image_lead a) (others ++ rest) ≡ None → (b : Bool) → any_set line ≡ b → after (image_lead a) ((image_line address line ++ others) ++ rest) ≡ None
other_line a address line others rest lt small later true e =
    ap (λ t. after (image_lead a) ((t ++ others) ++ rest)) (line_set address line e)
    ∙ ap (after (image_lead a)) (append_assoc (line_text address line) others rest ∙ sym (line_parts address line (others ++ rest)))
    ∙ leads_apart lead_law a address ((hex line ++ 10 ∷ []) ++ (others ++ rest)) (omega arith) small (λ e. omega arith)
other_line a address line others rest lt small later false e = ap (λ t. after (image_lead a) ((t ++ others) ++ rest)) (line_unset address line e) ∙ later

-- no later line is this address's
later_lines : (width n a address : ℕ) (bytes rest : List ℕ) → a < address → address + n * width ≤ 2 ^ 32 → 0 < width → starts 73 rest ≡ false → after (image_lead a) (image_lines width n address bytes ++ rest) ≡ None
unfolding image_lines
later_lines width zero a address bytes rest lt le some off = after_not 73 (32 ∷ (word a ++ 32 ∷ [])) rest off
later_lines width (suc n) a address bytes rest lt le some off =
    let next : address + width + n * width ≤ 2 ^ 32 = omega (arith, le, more_times n width) in
    other_line a address (take width bytes) (image_lines width n (address + width) (drop width bytes)) rest lt (omega (arith, le, some, more_times n width))
    (later_lines width n a (address + width) (drop width bytes) rest (omega arith) next some off) (any_set (take width bytes)) refl

abbrev nothing : List ℕ → Option (List ℕ × List ℕ)
nothing bytes = Some ([], bytes)

pub lines_again : (width n address : ℕ) (x rest : List ℕ) → IsBytes (n * width) x → address + n * width ≤ 2 ^ 32 → 0 < width → starts 73 rest ≡ false → image_lines_at width n address (image_lines width n address x ++ rest) ≡ Some (x, rest)
unfolding image_lines_at
lines_again width zero address x rest fits le some off =
    let none : x ≡ [] = nil_from_length x (fits.len ∙ none_times width) in
    ap (λ t. nothing (t ++ rest)) (lines_none width address x) ∙ ap (λ (l : List ℕ). Some (l, rest)) (sym none)
lines_again width (suc n) address x rest fits le some off =
    let product = more_times n width in
    let line : List ℕ = take width x in
    let others : List ℕ = drop width x in
    let whole : line ++ others ≡ x = take-append-drop width x in
    let len : length line ≡ width = length-take-le width x (omega (arith, fits.len, product)) in
    let fits_line : IsBytes width line = record { len = len; small = small_take width x fits.small } in
    let fits_others : IsBytes (n * width) others = record { len = length-drop width x ∙ omega (arith, fits.len, product); small = small_drop width x fits.small } in
    let later : List ℕ = image_lines width n (address + width) others in
    let parts : image_lines width (suc n) address x ++ rest ≡ image_line address line ++ (later ++ rest) =
    ap (λ t. image_lines width (suc n) address t ++ rest) (sym whole) ∙ ap (λ t. t ++ rest) (lines_step width n address line others len) ∙ append_assoc (image_line address line) later rest in
    let off_line = later_lines width n address (address + width) others rest (omega arith) (omega (arith, product)) some off in
    let one = line_again width address line (later ++ rest) fits_line off_line in
    let more = lines_again width n (address + width) others rest fits_others (omega (arith, product)) some off in
    ap (image_lines_at width (suc n) address) parts ∙ rw (one, more) (ap (λ (l : List ℕ). Some (l, rest)) whole)
