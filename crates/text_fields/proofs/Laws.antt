use Rattle.std.specs.List.{flat_map, AllByRecursion}
use Rattle.std.proofs.lemmas.List.Concat.{flat_map-cons}
use Rattle.std.proofs.lemmas.Nat.{be_bytes_4, from_be_bytes-to_be_bytes_4}
use Rattle.std.specs.Option.{option_or}
-- A reader and a spelling that fit each other.
use Rattle.std.proofs.Common.{◌≡◌, ℕ, zero, suc, ◌+◌, ◌-◌, ◌*◌, ◌^◌, ◌/◌, ◌%◌, ◌<◌, ◌≤◌, Bool, ◌&&◌, true, false, cond, eqb, leb, List, [], ◌∷◌, ◌++◌, length, get_or, Option, Some, None, refl, sym, ap, subst, ◌∙◌, append_assoc, arith, inl, inr}
use Rattle.std.proofs.lemmas.Bool.{eqb-true, eqb-false, eq-eqb, ne_eqb, leb-true, le-leb, lt-leb, lt-ltb, le-ltb, cases_lt}
use Rattle.std.proofs.lemmas.Fmt.{decimal_digit, decimal_step, decimal_by_steps}
use Rattle.std.specs.Prelude.{decimal, codes, ◌⊎◌}
use Rattle.std.proofs.lemmas.Option.{none-some, same_Some, some_pair_parts, cond_some}
use Rattle.std.proofs.lemmas.List.{nil_from_length, length-append}
use Rattle.std.specs.Fmt.{digit_glyph}
use Rattle.std.specs.Int.{w32, to_be_bytes, from_be_bytes}
use Rattle.text_fields.specs.Fields.{number, hex_byte, hex, word, IsBytes}
use Rattle.text_fields.specs.Reading.{◌>>=◌, pair_at, seen_at, led_at, after, ended_at, table_at, chain_at, guarded, all_at, behind, section_at, is_digit, number_on, number_at, nibble_of, hex_byte_at, hex_at, word_at}

-- What is read is spelled so, and what is spelled so is read, whatever follows.
pub record Reads {A : Type 0} (spell : A → List ℕ) (fits : A → Type 0) (at : List ℕ → Option (A × List ℕ)) : Type 0 where
  pub takes : (bytes : List ℕ) (x : A) (rest : List ℕ) → at bytes ≡ Some (x, rest) → (bytes ≡ spell x ++ rest) × fits x
  pub again : (x : A) (rest : List ℕ) → fits x → at (spell x ++ rest) ≡ Some (x, rest)

pub bind_some : {A B : Type 0} (r : Option A) (f : A → Option B) (y : B) → (r >>= f) ≡ Some y → (x : A) × (r ≡ Some x) × (f x ≡ Some y)
bind_some (Some x) f y e = (x, refl, e)
bind_some None f y e = absurd cc

pub some_is : {A : Type 0} (x y : A) → ◌≡◌ {A = Option A} (Some x) (Some y) → x ≡ y
some_is x y e = cc

pub pair_reads : {A B : Type 0} {sa : A → List ℕ} {fa : A → Type 0} {ra : List ℕ → Option (A × List ℕ)} {sb : B → List ℕ} {fb : B → Type 0} {rb : List ℕ → Option (B × List ℕ)}
    → Reads sa fa ra → Reads sb fb rb → Reads (λ (p : A × B). sa p.0 ++ sb p.1) (λ p. fa p.0 × fb p.1) (pair_at ra rb)
pair_reads {A} {B} {sa} {fa} {ra} {sb} {fb} {rb} a b = record {
  takes = λ bytes x rest e.
      let p = bind_some (ra bytes) (λ u. rb u.1 >>= λ v. Some ((u.0, v.0), v.1)) (x, rest) e in
      let q = bind_some (rb p.0.1) (λ v. Some ((p.0.0, v.0), v.1)) (x, rest) p.2 in
      let first = a.takes bytes p.0.0 p.0.1 p.1 in
      let second = b.takes p.0.1 q.0.0 q.0.1 q.1 in
      let made : (A × B) × List ℕ = ((p.0.0, q.0.0), q.0.1) in
      subst (λ (y : (A × B) × List ℕ). (bytes ≡ (sa y.0.0 ++ sb y.0.1) ++ y.1) × (fa y.0.0 × fb y.0.1)) (some_is made (x, rest) q.2)
      (first.0 ∙ ap (λ (t : List ℕ). sa p.0.0 ++ t) second.0 ∙ sym (append_assoc (sa p.0.0) (sb q.0.0) q.0.1), (first.1, second.1));
  again = λ x rest h.
      let one : ra ((sa x.0 ++ sb x.1) ++ rest) ≡ Some (x.0, sb x.1 ++ rest) = ap ra (append_assoc (sa x.0) (sb x.1) rest) ∙ a.again x.0 (sb x.1 ++ rest) h.0 in
      rw (one, b.again x.1 rest h.1) refl;
}

-- another view of the value, with a way back
pub seen_reads : {A B : Type 0} {sa : A → List ℕ} {fa : A → Type 0} {ra : List ℕ → Option (A × List ℕ)} (sb : B → List ℕ) (fb : B → Type 0) (to : A → B) (from : B → A)
    → ((x : A) → fa x → (sa x ≡ sb (to x)) × fb (to x)) → ((y : B) → fb y → (to (from y) ≡ y) × fa (from y)) → Reads sa fa ra → Reads sb fb (seen_at to ra)
seen_reads {A} {B} {sa} {fa} {ra} sb fb to from forth back a = record {
  takes = λ bytes y rest e.
      let p = bind_some (ra bytes) (λ u. Some (to u.0, u.1)) (y, rest) e in
      let first = a.takes bytes p.0.0 p.0.1 p.1 in
      let made : B × List ℕ = (to p.0.0, p.0.1) in
      let there = forth p.0.0 first.1 in
      subst (λ (z : B × List ℕ). (bytes ≡ sb z.0 ++ z.1) × fb z.0) (some_is made (y, rest) p.2)
      (first.0 ∙ ap (λ (t : List ℕ). t ++ p.0.1) there.0, there.1);
  again = λ y rest h.
      let home = back y h in
      let same : sb y ≡ sa (from y) = sym ((forth (from y) home.1).0 ∙ ap sb home.0) in
      let one : ra (sb y ++ rest) ≡ Some (from y, rest) = ap (λ (t : List ℕ). ra (t ++ rest)) same ∙ a.again (from y) rest home.1 in
      rw (one, home.0) refl;
}

pub after_takes : (text bytes rest : List ℕ) → after text bytes ≡ Some rest → bytes ≡ text ++ rest
after_takes [] bytes rest e = some_is bytes rest e
after_takes (t ∷ ts) [] rest e = absurd cc
after_takes (t ∷ ts) (b ∷ bytes) rest e = go (after_takes ts bytes rest) (eqb b t) refl e
  where
    go : (after ts bytes ≡ Some rest → bytes ≡ ts ++ rest) → (test : Bool) → eqb b t ≡ test → cond test (after ts bytes) None ≡ Some rest → b ∷ bytes ≡ t ∷ (ts ++ rest)
    go more true is h = let same = eqb-true b t is in let others = more h in cc
    go more false is h = absurd cc

none_either_way : {A : Type 0} (test : Bool) (x : Option A) → x ≡ None → cond test x None ≡ None
none_either_way true x e = e
none_either_way false x e = refl

pub after_short : (text bytes : List ℕ) → length bytes < length text → None ≡ after text bytes
after_short [] bytes lt = absurd (omega arith)
after_short (t ∷ ts) [] lt = refl
after_short (t ∷ ts) (b ∷ bytes) lt = sym (none_either_way (eqb b t) (after ts bytes) (sym (after_short ts bytes (omega arith))))

pub after_again : (text rest : List ℕ) → after text (text ++ rest) ≡ Some rest
after_again [] rest = refl
after_again (t ∷ ts) rest = rw (eq-eqb t t refl) (after_again ts rest)

pub led_reads : {A : Type 0} {sa : A → List ℕ} {fa : A → Type 0} {ra : List ℕ → Option (A × List ℕ)} (text : List ℕ)
    → Reads sa fa ra → Reads (λ x. text ++ sa x) fa (led_at text ra)
led_reads {A} {sa} {fa} {ra} text a = record {
  takes = λ bytes x rest e.
      let p = bind_some (after text bytes) ra (x, rest) e in
      let first = after_takes text bytes p.0 p.1 in
      let second = a.takes p.0 x rest p.2 in
      (first ∙ ap (λ (t : List ℕ). text ++ t) second.0 ∙ sym (append_assoc text (sa x) rest), second.1);
  again = λ x rest h.
      let one : after text ((text ++ sa x) ++ rest) ≡ Some (sa x ++ rest) = ap (after text) (append_assoc text (sa x) rest) ∙ after_again text (sa x ++ rest) in
      rw (one) (a.again x rest h);
}

-- ---- tests

pub chosen : {A : Type 0} (b : Bool) (x y z : A) → cond b x y ≡ z → ((b ≡ true) × (x ≡ z)) ⊎ ((b ≡ false) × (y ≡ z))
chosen true x y z e = inl (refl, e)
chosen false x y z e = inr (refl, e)

pub both_true : (a b : Bool) → (a && b) ≡ true → (a ≡ true) × (b ≡ true)
both_true true b e = (refl, e)
both_true false b e = absurd cc

digit_is : (b : ℕ) → is_digit b ≡ true → (48 ≤ b) × (b ≤ 57)
digit_is b e = let p = both_true (leb 48 b) (leb b 57) e in (leb-true 48 b p.0, leb-true b 57 p.1)

is_digit_at : (b : ℕ) → 48 ≤ b → b ≤ 57 → is_digit b ≡ true
is_digit_at b low high = rw (le-leb 48 b low, le-leb b 57 high) refl

-- ---- numbers

decimal_pushed : (value b : ℕ) → 0 < value → 48 ≤ b → b ≤ 57 → value * 10 + (b - 48) < 2 ^ 64 → decimal (value * 10 + (b - 48)) ≡ decimal value ++ b ∷ []
decimal_pushed value b pos low high small =
    let quot : (value * 10 + (b - 48)) / 10 ≡ value = omega arith in
    let back : 48 + (value * 10 + (b - 48)) % 10 ≡ b = omega arith in
    let step = decimal_step (value * 10 + (b - 48)) (omega arith) small in
    step ∙ ap (λ (v : ℕ). decimal v ++ (48 + (value * 10 + (b - 48)) % 10) ∷ []) quot ∙ ap (λ (v : ℕ). decimal value ++ v ∷ []) back

number_on_takes : (end most : ℕ) (small : most < 2 ^ 64) (bytes : List ℕ) (value n : ℕ) (rest : List ℕ) → 0 < value → value ≤ most → number_on end most bytes value ≡ Some (n, rest) → (decimal value ++ bytes ≡ (decimal n ++ end ∷ []) ++ rest) × (n ≤ most)
unfolding number_on
number_on_takes end most small [] value n rest pos le e = absurd cc
number_on_takes end most small (b ∷ bytes) value n rest pos le e =
    elim (chosen (eqb b end) (Some (value, bytes)) (cond (is_digit b && leb (value * 10 + (b - 48)) most) (number_on end most bytes (value * 10 + (b - 48))) None) (Some (n, rest)) e) [
      | inl ended ↦
          let same = eqb-true b end ended.0 in
          let parts = some_pair_parts value n bytes rest ended.1 in
          (rw (same, parts.0, parts.1) (sym (append_assoc (decimal n) (end ∷ []) rest)), rw (← parts.0) le)
      | inr more ↦
          elim (chosen (is_digit b && leb (value * 10 + (b - 48)) most) (number_on end most bytes (value * 10 + (b - 48))) None (Some (n, rest)) more.1) [
            | inl on ↦
                let p = both_true (is_digit b) (leb (value * 10 + (b - 48)) most) on.0 in
                let d = digit_is b p.0 in
                let le2 = leb-true (value * 10 + (b - 48)) most p.1 in
                let later = number_on_takes end most small bytes (value * 10 + (b - 48)) n rest (omega arith) le2 on.1 in
                (sym (append_assoc (decimal value) (b ∷ []) bytes) ∙ ap (λ (t : List ℕ). t ++ bytes) (sym (decimal_pushed value b pos d.0 d.1 (omega arith))) ∙ later.0, later.1)
            | inr off ↦ absurd (none-some (n, rest) off.1)
          ]
    ]

number_on_step : (end most : ℕ) (b : ℕ) (bytes : List ℕ) (value : ℕ) → end < 48 → 48 ≤ b → b ≤ 57 → value * 10 + (b - 48) ≤ most → number_on end most (b ∷ bytes) value ≡ number_on end most bytes (value * 10 + (b - 48))
unfolding number_on
number_on_step end most b bytes value low lo hi le =
    let apart : eqb b end ≡ false = ne_eqb b end (λ e. omega arith) in
    rw (apart, is_digit_at b lo hi, le-leb (value * 10 + (b - 48)) most le) refl

number_on_end : (end most : ℕ) (bytes : List ℕ) (value : ℕ) → number_on end most (end ∷ bytes) value ≡ Some (value, bytes)
unfolding number_on
number_on_end end most bytes value = rw (eq-eqb end end refl) refl

number_at_first : (end most n : ℕ) (tail : List ℕ) → n < 10 → 0 < n → n ≤ most → number_at end most ((48 + n) ∷ tail) ≡ number_on end most tail n
unfolding number_at
number_at_first end most n tail small pos le =
    let apart : eqb (48 + n) 48 ≡ false = ne_eqb (48 + n) 48 (λ e. omega arith) in
    let back : 48 + n - 48 ≡ n = omega arith in
    rw (apart, is_digit_at (48 + n) (omega arith) (omega arith), back, le-leb n most le) refl

number_front : (end most : ℕ) → end < 48 → (n : ℕ) → n < 2 ^ 64 → 0 < n → n ≤ most → (tail : List ℕ) → number_at end most (decimal n ++ tail) ≡ number_on end most tail n
number_front end most low =
    decimal_by_steps (λ n ds. 0 < n → n ≤ most → (tail : List ℕ) → number_at end most (ds ++ tail) ≡ number_on end most tail n)
    (λ n small pos le tail. number_at_first end most n tail small pos le)
    (λ n ds big ih pos le tail.
    let back : n / 10 * 10 + (48 + n % 10 - 48) ≡ n = omega arith in
    ap (number_at end most) (append_assoc ds ((48 + n % 10) ∷ []) tail)
    ∙ ih (omega arith) (omega arith) ((48 + n % 10) ∷ tail)
    ∙ number_on_step end most (48 + n % 10) tail (n / 10) low (omega arith) (omega arith) (omega arith)
    ∙ ap (number_on end most tail) back)

zero_is : (end b : ℕ) (bytes rest : List ℕ) → b ≡ 48 → bytes ≡ end ∷ rest → b ∷ bytes ≡ number end 0 ++ rest
zero_is end b bytes rest same first = rw (same, first, decimal_digit 0 (omega arith)) refl

number_takes : (end most : ℕ) → most < 2 ^ 64 → (bytes : List ℕ) (n : ℕ) (rest : List ℕ) → number_at end most bytes ≡ Some (n, rest) → (bytes ≡ number end n ++ rest) × (n ≤ most)
unfolding number_at
number_takes end most small [] n rest e = absurd cc
number_takes end most small (b ∷ bytes) n rest e =
    elim (chosen (eqb b 48) (after (end ∷ []) bytes >>= λ (r : List ℕ). Some (0, r)) (cond (is_digit b && leb (b - 48) most) (number_on end most bytes (b - 48)) None) (Some (n, rest)) e) [
      | inl zeroed ↦
          let same = eqb-true b 48 zeroed.0 in
          let p = bind_some (after (end ∷ []) bytes) (λ (r : List ℕ). Some (0, r)) (n, rest) zeroed.1 in
          let first = after_takes (end ∷ []) bytes p.0 p.1 in
          let made : ℕ × List ℕ = (0, p.0) in
          subst (λ (y : ℕ × List ℕ). (b ∷ bytes ≡ number end y.0 ++ y.1) × (y.0 ≤ most)) (some_is made (n, rest) p.2) (zero_is end b bytes p.0 same first, omega arith)
      | inr more ↦
          elim (chosen (is_digit b && leb (b - 48) most) (number_on end most bytes (b - 48)) None (Some (n, rest)) more.1) [
            | inl on ↦
                let p = both_true (is_digit b) (leb (b - 48) most) on.0 in
                let d = digit_is b p.0 in
                let apart = eqb-false b 48 more.0 in
                let pos : 0 < b - 48 = omega (arith, d.0, apart) in
                let le2 = leb-true (b - 48) most p.1 in
                let later = number_on_takes end most small bytes (b - 48) n rest pos le2 on.1 in
                let back : 48 + (b - 48) ≡ b = omega (arith, d.0) in
                let one : decimal (b - 48) ≡ b ∷ [] = decimal_digit (b - 48) (omega (arith, d.1)) ∙ ap (λ (v : ℕ). v ∷ []) back in
                (ap (λ (t : List ℕ). t ++ bytes) (sym one) ∙ later.0, later.1)
            | inr off ↦ absurd (none-some (n, rest) off.1)
          ]
    ]

number_zero : (end most : ℕ) (rest : List ℕ) → number_at end most (48 ∷ end ∷ rest) ≡ Some (0, rest)
unfolding number_at
number_zero end most rest = rw (eq-eqb end end refl) refl

number_again : (end most : ℕ) → end < 48 → most < 2 ^ 64 → (n : ℕ) (rest : List ℕ) → n ≤ most → number_at end most (number end n ++ rest) ≡ Some (n, rest)
number_again end most low small zero rest le = rw (decimal_digit 0 (omega arith)) (number_zero end most rest)
number_again end most low small (suc n) rest le =
    ap (number_at end most) (append_assoc (decimal (suc n)) (end ∷ []) rest)
    ∙ number_front end most low (suc n) (omega arith) (omega arith) le (end ∷ rest)
    ∙ number_on_end end most rest (suc n)

pub number_reads : (end most : ℕ) → end < 48 → most < 2 ^ 64 → Reads (number end) (λ n. n ≤ most) (number_at end most)
number_reads end most low small = record { takes = number_takes end most small; again = number_again end most low small }

-- ---- hexadecimal digits

pub nibble_takes : (b n : ℕ) → nibble_of b ≡ Some n → (n < 16) × (digit_glyph false n ≡ b)
unfolding nibble_of
nibble_takes b n e =
    elim (chosen (is_digit b) (Some (b - 48)) (cond (leb 97 b && leb b 102) (Some (b - 87)) None) (Some n) e) [
      | inl digit ↦
          let d = digit_is b digit.0 in
          let same = same_Some (b - 48) n digit.1 in
          let small : n < 10 = omega (arith, d.1, same) in
          (omega arith, rw (lt-ltb n 10 small) (omega (arith, d.0, same)))
      | inr more ↦
          elim (chosen (leb 97 b && leb b 102) (Some (b - 87)) None (Some n) more.1) [
            | inl letter ↦
                let p = both_true (leb 97 b) (leb b 102) letter.0 in
                let low = leb-true 97 b p.0 in
                let high = leb-true b 102 p.1 in
                let same = same_Some (b - 87) n letter.1 in
                let big : 10 ≤ n = omega (arith, low, same) in
                (omega (arith, high, same), rw (le-ltb n 10 big) (omega (arith, low, same)))
            | inr off ↦ absurd (none-some n off.1)
          ]
    ]

nibble_again : (n : ℕ) → n < 16 → nibble_of (digit_glyph false n) ≡ Some n
unfolding nibble_of
nibble_again n lt =
    elim (cases_lt n 10) [
      | inl small ↦
          let back : 48 + n - 48 ≡ n = omega arith in
          rw (lt-ltb n 10 small, is_digit_at (48 + n) (omega arith) (omega arith), back) refl
      | inr big ↦
          let back : 87 + n - 87 ≡ n = omega arith in
          let not : leb (87 + n) 57 ≡ false = lt-leb (87 + n) 57 (omega arith) in
          let low : leb 48 (87 + n) ≡ true = le-leb 48 (87 + n) (omega arith) in
          rw (le-ltb n 10 big, low, not, le-leb 97 (87 + n) (omega arith), le-leb (87 + n) 102 (omega arith), back) refl
    ]

hex_byte_takes : (bytes : List ℕ) (n : ℕ) (rest : List ℕ) → hex_byte_at bytes ≡ Some (n, rest) → (bytes ≡ hex_byte n ++ rest) × (n < 256)
unfolding hex_byte_at
hex_byte_takes [] n rest e = absurd cc
hex_byte_takes (h ∷ []) n rest e = absurd cc
hex_byte_takes (h ∷ l ∷ bytes) n rest e =
    let p = bind_some (nibble_of h) (λ (x : ℕ). nibble_of l >>= λ y. Some (x * 16 + y, bytes)) (n, rest) e in
    let q = bind_some (nibble_of l) (λ (y : ℕ). Some (p.0 * 16 + y, bytes)) (n, rest) p.2 in
    let high = nibble_takes h p.0 p.1 in
    let low = nibble_takes l q.0 q.1 in
    let parts = some_pair_parts (p.0 * 16 + q.0) n bytes rest q.2 in
    let up : n / 16 ≡ p.0 = omega (arith, parts.0, low.0) in
    let down : n % 16 ≡ q.0 = omega (arith, parts.0, low.0) in
    (rw (up, down, high.1, low.1, parts.1) refl, omega (arith, parts.0, high.0, low.0))

hex_byte_again : (n : ℕ) (rest : List ℕ) → n < 256 → hex_byte_at (hex_byte n ++ rest) ≡ Some (n, rest)
unfolding hex_byte_at
hex_byte_again n rest lt =
    let back : n / 16 * 16 + n % 16 ≡ n = omega arith in
    rw (nibble_again (n / 16) (omega arith), nibble_again (n % 16) (omega arith), back) refl

pub hex_byte_reads : Reads hex_byte (λ n. n < 256) hex_byte_at
hex_byte_reads = record { takes = hex_byte_takes; again = hex_byte_again }

-- ---- as many bytes

hex_takes : (n : ℕ) (bytes xs rest : List ℕ) → hex_at n bytes ≡ Some (xs, rest) → (bytes ≡ hex xs ++ rest) × IsBytes n xs
unfolding hex_at
hex_takes zero bytes xs rest e =
    let made : List ℕ × List ℕ = ([], bytes) in
    subst (λ (y : List ℕ × List ℕ). (bytes ≡ hex y.0 ++ y.1) × IsBytes 0 y.0) (some_is made (xs, rest) e) (refl, record { len = refl; small = tt })
hex_takes (suc n) bytes xs rest e =
    let p = bind_some (hex_byte_at bytes) (λ b. hex_at n b.1 >>= λ bs. Some (b.0 ∷ bs.0, bs.1)) (xs, rest) e in
    let q = bind_some (hex_at n p.0.1) (λ bs. Some (p.0.0 ∷ bs.0, bs.1)) (xs, rest) p.2 in
    let first = hex_byte_takes bytes p.0.0 p.0.1 p.1 in
    let second = hex_takes n p.0.1 q.0.0 q.0.1 q.1 in
    let made : List ℕ × List ℕ = (p.0.0 ∷ q.0.0, q.0.1) in
    subst (λ (y : List ℕ × List ℕ). (bytes ≡ hex y.0 ++ y.1) × IsBytes (suc n) y.0) (some_is made (xs, rest) q.2) (
      first.0 ∙ ap (λ t. hex_byte p.0.0 ++ t) second.0 ∙ sym (ap (λ t. t ++ q.0.1) (flat_map-cons hex_byte p.0.0 q.0.0) ∙ append_assoc (hex_byte p.0.0) (hex q.0.0) q.0.1),
      record { len = ap suc second.1.len; small = (first.1, second.1.small) },
    )

hex_again : (xs rest : List ℕ) → AllByRecursion (λ b. b < 256) xs → hex_at (length xs) (hex xs ++ rest) ≡ Some (xs, rest)
unfolding hex_at
hex_again [] rest small = refl
hex_again (x ∷ xs) rest small =
    let regrouped : hex (x ∷ xs) ++ rest ≡ hex_byte x ++ (hex xs ++ rest) = ap (λ t. t ++ rest) (flat_map-cons hex_byte x xs) ∙ append_assoc (hex_byte x) (hex xs) rest in
    ap (hex_at (suc (length xs))) regrouped ∙ rw (hex_byte_again x (hex xs ++ rest) small.0, hex_again xs rest small.1) refl

pub hex_reads : (n : ℕ) → Reads hex (IsBytes n) (hex_at n)
hex_reads n = record { takes = hex_takes n; again = λ xs rest h. ap (λ k. hex_at k (hex xs ++ rest)) (sym h.len) ∙ hex_again xs rest h.small }

-- ---- words

each_below : (a b c d : ℕ) → AllByRecursion (λ x. x < 256) (a ∷ b ∷ c ∷ d ∷ []) → (i : ℕ) → get_or (a ∷ b ∷ c ∷ d ∷ []) i 0 < 256
each_below a b c d h zero = h.0
each_below a b c d h (suc zero) = h.1.0
each_below a b c d h (suc (suc zero)) = h.1.1.0
each_below a b c d h (suc (suc (suc zero))) = h.1.1.1.0
each_below a b c d h (suc (suc (suc (suc i)))) = omega arith

word_back : (bytes : List ℕ) → IsBytes 4 bytes → (to_be_bytes w32 (from_be_bytes w32 bytes) ≡ bytes) × (from_be_bytes w32 bytes < 2 ^ 32)
word_back (a ∷ b ∷ c ∷ d ∷ []) h =
    (be_bytes_4 (a ∷ b ∷ c ∷ d ∷ []) _ refl (each_below a b c d h.small) refl, omega (arith, h.small.0, h.small.1.0, h.small.1.1.0, h.small.1.1.1.0))
word_back [] h = absurd (omega (arith, h.len))
word_back (a ∷ []) h = absurd (omega (arith, h.len))
word_back (a ∷ b ∷ []) h = absurd (omega (arith, h.len))
word_back (a ∷ b ∷ c ∷ []) h = absurd (omega (arith, h.len))
word_back (a ∷ b ∷ c ∷ d ∷ e ∷ es) h = absurd (omega (arith, h.len))

word_forth : (n : ℕ) → n < 2 ^ 32 → (from_be_bytes w32 (to_be_bytes w32 n) ≡ n) × IsBytes 4 (to_be_bytes w32 n)
word_forth n lt = (from_be_bytes-to_be_bytes_4 n lt, record { len = refl; small = (omega arith, (omega arith, (omega arith, (omega arith, tt)))) })

pub word_reads : Reads word (λ n. n < 2 ^ 32) word_at
unfolding word_at
word_reads =
    led_reads (codes "0x") (seen_reads (λ n. hex (to_be_bytes w32 n)) (λ n. n < 2 ^ 32) (from_be_bytes w32) (to_be_bytes w32)
    (λ x h. (ap hex (sym (word_back x h).0), (word_back x h).1)) (λ n lt. word_forth n lt) (hex_reads 4))

-- ---- choices and tests

pub either_takes : {A : Type 0} (r s : Option A) (y : A) → option_or r s ≡ Some y → (r ≡ Some y) ⊎ ((r ≡ None) × (s ≡ Some y))
either_takes (Some x) s y e = inl e
either_takes None s y e = inr (refl, e)

pub guarded_takes : {A : Type 0} (b : Bool) (x y : A) → guarded b x ≡ Some y → (b ≡ true) × (x ≡ y)
guarded_takes true x y e = (refl, same_Some x y e)
guarded_takes false x y e = absurd cc

-- ---- a table of texts

pub table_takes : {A : Type 0} (s : A → List ℕ) (table : List (List ℕ × A)) → AllByRecursion (λ e. e.0 ≡ s e.1) table → (bytes : List ℕ) (x : A) (rest : List ℕ) → table_at table bytes ≡ Some (x, rest) → bytes ≡ s x ++ rest
table_takes s [] fits bytes x rest e = absurd cc
table_takes {A} s (t ∷ ts) fits bytes x rest e =
    elim (either_takes (after t.0 bytes >>= λ r. Some (t.1, r)) (table_at ts bytes) (x, rest) e) [
      | inl y ↦
          let p = bind_some (after t.0 bytes) (λ r. Some (t.1, r)) (x, rest) y in
          let made : A × List ℕ = (t.1, p.0) in
          subst (λ (z : A × List ℕ). bytes ≡ s z.0 ++ z.1) (some_is made (x, rest) p.2) (after_takes t.0 bytes p.0 p.1 ∙ ap (λ u. u ++ p.0) fits.0)
      | inr n ↦ table_takes s ts fits.1 bytes x rest n.1
    ]

pub table_reads : {A : Type 0} (s : A → List ℕ) (table : List (List ℕ × A)) → AllByRecursion (λ e. e.0 ≡ s e.1) table → ((x : A) (rest : List ℕ) → table_at table (s x ++ rest) ≡ Some (x, rest)) → Reads s (λ x. Unit {0}) (table_at table)
table_reads s table fits again = record { takes = λ bytes x rest e. (table_takes s table fits bytes x rest e, tt); again = λ x rest h. again x rest }

-- ---- a reader that depends on what was read before it

pub chain_reads : {A B : Type 0} {sa : A → List ℕ} {fa : A → Type 0} {ra : List ℕ → Option (A × List ℕ)} {sb : A → B → List ℕ} {fb : A → B → Type 0} {rb : A → List ℕ → Option (B × List ℕ)}
    → Reads sa fa ra → ((a : A) → fa a → Reads (sb a) (fb a) (rb a)) → Reads (λ (p : A × B). sa p.0 ++ sb p.0 p.1) (λ p. fa p.0 × fb p.0 p.1) (chain_at ra rb)
chain_reads {A} {B} {sa} {fa} {ra} {sb} {fb} {rb} a b = record {
  takes = λ bytes x rest e.
      let p = bind_some (ra bytes) (λ u. rb u.0 u.1 >>= λ v. Some ((u.0, v.0), v.1)) (x, rest) e in
      let q = bind_some (rb p.0.0 p.0.1) (λ v. Some ((p.0.0, v.0), v.1)) (x, rest) p.2 in
      let first = a.takes bytes p.0.0 p.0.1 p.1 in
      let second = (b p.0.0 first.1).takes p.0.1 q.0.0 q.0.1 q.1 in
      let made : (A × B) × List ℕ = ((p.0.0, q.0.0), q.0.1) in
      subst (λ (y : (A × B) × List ℕ). (bytes ≡ (sa y.0.0 ++ sb y.0.0 y.0.1) ++ y.1) × (fa y.0.0 × fb y.0.0 y.0.1)) (some_is made (x, rest) q.2)
      (first.0 ∙ ap (λ (t : List ℕ). sa p.0.0 ++ t) second.0 ∙ sym (append_assoc (sa p.0.0) (sb p.0.0 q.0.0) q.0.1), (first.1, second.1));
  again = λ x rest h.
      let one : ra ((sa x.0 ++ sb x.0 x.1) ++ rest) ≡ Some (x.0, sb x.0 x.1 ++ rest) = ap ra (append_assoc (sa x.0) (sb x.0 x.1) rest) ∙ a.again x.0 (sb x.0 x.1 ++ rest) h.0 in
      rw (one, (b x.0 h.0).again x.1 rest h.1) refl;
}

-- ---- items up to the end

pub all_takes : {A : Type 0} {s : A → List ℕ} {f : A → Type 0} {r : List ℕ → Option (A × List ℕ)} → Reads s f r → (n : ℕ) (bytes : List ℕ) (xs : List A) → all_at r n bytes ≡ Some xs → (bytes ≡ flat_map s xs) × AllByRecursion f xs
unfolding all_at
all_takes {A} {s} {f} {r} item zero bytes xs e =
    let g = cond_some (eqb (length bytes) 0) [] xs e in
    subst (λ (ys : List A). (bytes ≡ flat_map s ys) × AllByRecursion f ys) g.1 (nil_from_length bytes (eqb-true _ _ g.0), tt)
all_takes {A} {s} {f} {r} item (suc n) bytes xs e =
    elim (chosen (eqb (length bytes) 0) (Some []) (r bytes >>= λ x. all_at r n x.1 >>= λ xs. Some (x.0 ∷ xs)) (Some xs) e) [
      | inl g ↦ subst (λ (ys : List A). (bytes ≡ flat_map s ys) × AllByRecursion f ys) (same_Some [] xs g.1) (nil_from_length bytes (eqb-true _ _ g.0), tt)
      | inr g ↦
          let p = bind_some (r bytes) (λ x. all_at r n x.1 >>= λ xs. Some (x.0 ∷ xs)) xs g.1 in
          let q = bind_some (all_at r n p.0.1) (λ xs. Some (p.0.0 ∷ xs)) xs p.2 in
          let first = item.takes bytes p.0.0 p.0.1 p.1 in
          let others = all_takes item n p.0.1 q.0 q.1 in
          subst (λ (ys : List A). (bytes ≡ flat_map s ys) × AllByRecursion f ys) (same_Some (p.0.0 ∷ q.0) xs q.2)
          (first.0 ∙ ap (λ t. s p.0.0 ++ t) others.0 ∙ sym (flat_map-cons s p.0.0 q.0), (first.1, others.1))
    ]

pub all_again : {A : Type 0} {s : A → List ℕ} {f : A → Type 0} {r : List ℕ → Option (A × List ℕ)} → Reads s f r → ((x : A) → 0 < length (s x)) → (n : ℕ) (xs : List A) → AllByRecursion f xs → length (flat_map s xs) ≤ n → all_at r n (flat_map s xs) ≡ Some xs
unfolding all_at
all_again item some zero [] fits le = refl
all_again item some (suc n) [] fits le = refl
all_again {A} {s} {f} {r} item some zero (x ∷ xs) fits le =
    absurd (omega (arith, some x, le, ap length (flat_map-cons s x xs), length-append (s x) (flat_map s xs)))
all_again {A} {s} {f} {r} item some (suc n) (x ∷ xs) fits le =
    let len : length (flat_map s (x ∷ xs)) ≡ length (s x) + length (flat_map s xs) = ap length (flat_map-cons s x xs) ∙ length-append (s x) (flat_map s xs) in
    let more : eqb (length (flat_map s (x ∷ xs))) 0 ≡ false = ne_eqb _ _ (λ e. omega (arith, some x, len)) in
    let one : r (flat_map s (x ∷ xs)) ≡ Some (x, flat_map s xs) = ap r (flat_map-cons s x xs) ∙ item.again x (flat_map s xs) fits.0 in
    rw (more, one, all_again item some n xs fits.1 (omega (arith, some x, len))) refl

-- ---- sections

pub behind_takes : {A B : Type 0} (r : Option A) (g : A → Option B) (o : Option B) (y : B) → behind r g o ≡ Some y → ((x : A) × (r ≡ Some x) × (g x ≡ Some y)) ⊎ ((r ≡ None) × (o ≡ Some y))
behind_takes (Some x) g o y e = inl (x, refl, e)
behind_takes None g o y e = inr (refl, e)

pub section_takes : {A : Type 0} {s : A → List ℕ} {f : A → Type 0} {r : List ℕ → Option (A × List ℕ)} (lead : List ℕ) → Reads s f r → (n : ℕ) (bytes : List ℕ) (xs : List A) (rest : List ℕ) → section_at lead r n bytes ≡ Some (xs, rest) → (bytes ≡ flat_map (λ x. lead ++ s x) xs ++ rest) × AllByRecursion f xs
unfolding section_at
section_takes {A} {s} {f} {r} lead item zero bytes xs rest e =
    let made : List A × List ℕ = ([], bytes) in
    subst (λ (y : List A × List ℕ). (bytes ≡ flat_map (λ x. lead ++ s x) y.0 ++ y.1) × AllByRecursion f y.0) (some_is made (xs, rest) e) (refl, tt)
section_takes {A} {s} {f} {r} lead item (suc n) bytes xs rest e =
    let made : List A × List ℕ = ([], bytes) in
    elim (behind_takes (after lead bytes) (λ t. r t >>= λ x. section_at lead r n x.1 >>= λ ys. Some (x.0 ∷ ys.0, ys.1)) (Some ([], bytes)) (xs, rest) e) [
      | inl on ↦
          let p = bind_some (r on.0) (λ x. section_at lead r n x.1 >>= λ ys. Some (x.0 ∷ ys.0, ys.1)) (xs, rest) on.2 in
          let q = bind_some (section_at lead r n p.0.1) (λ ys. Some (p.0.0 ∷ ys.0, ys.1)) (xs, rest) p.2 in
          let led = after_takes lead bytes on.0 on.1 in
          let first = item.takes on.0 p.0.0 p.0.1 p.1 in
          let others = section_takes lead item n p.0.1 q.0.0 q.0.1 q.1 in
          let whole : bytes ≡ flat_map (λ x. lead ++ s x) (p.0.0 ∷ q.0.0) ++ q.0.1 =
          led ∙ ap (λ t. lead ++ t) (first.0 ∙ ap (λ t. s p.0.0 ++ t) others.0)
          ∙ sym (append_assoc lead (s p.0.0) (flat_map (λ x. lead ++ s x) q.0.0 ++ q.0.1)) ∙ sym (append_assoc (lead ++ s p.0.0) (flat_map (λ x. lead ++ s x) q.0.0) q.0.1)
          ∙ ap (λ t. t ++ q.0.1) (sym (flat_map-cons (λ x. lead ++ s x) p.0.0 q.0.0)) in
          subst (λ (y : List A × List ℕ). (bytes ≡ flat_map (λ x. lead ++ s x) y.0 ++ y.1) × AllByRecursion f y.0) (some_is (p.0.0 ∷ q.0.0, q.0.1) (xs, rest) q.2) (whole, (first.1, others.1))
      | inr off ↦ subst (λ (y : List A × List ℕ). (bytes ≡ flat_map (λ x. lead ++ s x) y.0 ++ y.1) × AllByRecursion f y.0) (some_is made (xs, rest) off.1) (refl, tt)
    ]

pub section_again : {A : Type 0} {s : A → List ℕ} {f : A → Type 0} {r : List ℕ → Option (A × List ℕ)} (lead : List ℕ) → Reads s f r → 0 < length lead → (n : ℕ) (xs : List A) (rest : List ℕ) → AllByRecursion f xs → after lead rest ≡ None → length (flat_map (λ x. lead ++ s x) xs) ≤ n → section_at lead r n (flat_map (λ x. lead ++ s x) xs ++ rest) ≡ Some (xs, rest)
unfolding section_at
section_again lead item some zero [] rest fits off le = refl
section_again lead item some (suc n) [] rest fits off le = rw off refl
section_again {A} {s} {f} {r} lead item some zero (x ∷ xs) rest fits off le =
    absurd (omega (arith, some, le, ap length (flat_map-cons (λ x. lead ++ s x) x xs), length-append (lead ++ s x) (flat_map (λ x. lead ++ s x) xs), length-append lead (s x)))
section_again {A} {s} {f} {r} lead item some (suc n) (x ∷ xs) rest fits off le =
    let more : List ℕ = flat_map (λ y. lead ++ s y) xs in
    let len : length (flat_map (λ y. lead ++ s y) (x ∷ xs)) ≡ (length lead + length (s x)) + length more =
    ap length (flat_map-cons (λ y. lead ++ s y) x xs) ∙ length-append (lead ++ s x) more ∙ ap (λ k. k + length more) (length-append lead (s x)) in
    let parts : flat_map (λ y. lead ++ s y) (x ∷ xs) ++ rest ≡ lead ++ (s x ++ (more ++ rest)) =
    ap (λ t. t ++ rest) (flat_map-cons (λ y. lead ++ s y) x xs) ∙ append_assoc (lead ++ s x) more rest ∙ append_assoc lead (s x) (more ++ rest) in
    ap (section_at lead r (suc n)) parts ∙ rw (after_again lead (s x ++ (more ++ rest)), item.again x (more ++ rest) fits.0, section_again lead item some n xs rest fits.1 off (omega (arith, len, some))) refl

-- ---- one way of seeing a value

pub seen_takes : {A B : Type 0} {s : A → List ℕ} {f : A → Type 0} {r : List ℕ → Option (A × List ℕ)} → Reads s f r → (to : A → B) (sb : B → List ℕ) (fb : B → Type 0) → ((x : A) → f x → (s x ≡ sb (to x)) × fb (to x)) → (bytes : List ℕ) (y : B) (rest : List ℕ) → seen_at to r bytes ≡ Some (y, rest) → (bytes ≡ sb y ++ rest) × fb y
seen_takes {A} {B} {s} {f} {r} a to sb fb forth bytes y rest e =
    let p = bind_some (r bytes) (λ u. Some (to u.0, u.1)) (y, rest) e in
    let first = a.takes bytes p.0.0 p.0.1 p.1 in
    let made : B × List ℕ = (to p.0.0, p.0.1) in
    let there = forth p.0.0 first.1 in
    subst (λ (z : B × List ℕ). (bytes ≡ sb z.0 ++ z.1) × fb z.0) (some_is made (y, rest) p.2) (first.0 ∙ ap (λ (t : List ℕ). t ++ p.0.1) there.0, there.1)

pub seen_again : {A B : Type 0} {s : A → List ℕ} {f : A → Type 0} {r : List ℕ → Option (A × List ℕ)} → Reads s f r → (to : A → B) (x : A) (rest : List ℕ) → f x → seen_at to r (s x ++ rest) ≡ Some (to x, rest)
seen_again a to x rest h = rw (a.again x rest h) refl

pub ended_reads : {A : Type 0} {s : A → List ℕ} {f : A → Type 0} {r : List ℕ → Option (A × List ℕ)} (end : ℕ) → Reads s f r → Reads (λ x. s x ++ end ∷ []) f (ended_at end r)
ended_reads {A} {s} {f} {r} end a = record {
  takes = λ bytes x rest e.
      let p = bind_some (r bytes) (λ w. after (end ∷ []) w.1 >>= λ t. Some (w.0, t)) (x, rest) e in
      let q = bind_some (after (end ∷ []) p.0.1) (λ t. Some (p.0.0, t)) (x, rest) p.2 in
      let first = a.takes bytes p.0.0 p.0.1 p.1 in
      let second = after_takes (end ∷ []) p.0.1 q.0 q.1 in
      let made : A × List ℕ = (p.0.0, q.0) in
      subst (λ (y : A × List ℕ). (bytes ≡ (s y.0 ++ end ∷ []) ++ y.1) × f y.0) (some_is made (x, rest) q.2)
      (first.0 ∙ ap (λ t. s p.0.0 ++ t) second ∙ sym (append_assoc (s p.0.0) (end ∷ []) q.0), first.1);
  again = λ x rest h.
      let one : r ((s x ++ end ∷ []) ++ rest) ≡ Some (x, end ∷ rest) = ap r (append_assoc (s x) (end ∷ []) rest) ∙ a.again x (end ∷ rest) h in
      rw (one, after_again (end ∷ []) rest) refl;
}

-- a law of a test on what is read
pub guard_reads : {A : Type 0} {s : A → List ℕ} {f : A → Type 0} {r : List ℕ → Option (A × List ℕ)} (ok : A → Bool) → Reads s f r → Reads s (λ x. f x × (ok x ≡ true)) (λ bytes. r bytes >>= λ x. guarded (ok x.0) x)
guard_reads {A} {s} {f} {r} ok a = record {
  takes = λ bytes x rest e.
      let p = bind_some (r bytes) (λ x. guarded (ok x.0) x) (x, rest) e in
      let g = guarded_takes (ok p.0.0) p.0 (x, rest) p.2 in
      let first = a.takes bytes p.0.0 p.0.1 p.1 in
      subst (λ (y : A × List ℕ). (bytes ≡ s y.0 ++ y.1) × (f y.0 × (ok y.0 ≡ true))) g.1 (first.0, (first.1, g.0));
  again = λ x rest h. rw (a.again x rest h.0, h.1) refl;
}

-- what doesn't begin with a byte
abbrev pub starts : ℕ → List ℕ → Bool
starts c [] = false
starts c (x ∷ xs) = eqb x c

pub after_not : (c : ℕ) (p l : List ℕ) → starts c l ≡ false → after (c ∷ p) l ≡ None
after_not c p [] e = refl
after_not c p (x ∷ xs) e = rw e refl

pub starts_section : {A : Type 0} (c d : ℕ) (p : List ℕ) (s : A → List ℕ) (xs : List A) (rest : List ℕ) → eqb d c ≡ false → starts c rest ≡ false → starts c (flat_map (λ x. (d ∷ p) ++ s x) xs ++ rest) ≡ false
starts_section c d p s [] rest e f = f
starts_section c d p s (x ∷ xs) rest e f = ap (λ t. starts c (t ++ rest)) (flat_map-cons (λ x. (d ∷ p) ++ s x) x xs) ∙ e

-- ---- other forms of a law

-- the same values, said in another way
pub refit : {A : Type 0} {s : A → List ℕ} {f g : A → Type 0} {r : List ℕ → Option (A × List ℕ)} → Reads s f r → ((x : A) → f x → g x) → ((x : A) → g x → f x) → Reads s g r
refit a to fro = record {
  takes = λ bytes x rest e. let t = a.takes bytes x rest e in (t.0, to x t.1);
  again = λ x rest h. a.again x rest (fro x h);
}

-- a test on what is read, which is then seen in another way
pub checked_reads : {A B : Type 0} {sa : A → List ℕ} {fa : A → Type 0} {ra : List ℕ → Option (A × List ℕ)} (ok : A → Bool) (sb : B → List ℕ) (fb : B → Type 0) (to : A → B) (from : B → A)
    → ((x : A) → fa x → ok x ≡ true → (sa x ≡ sb (to x)) × fb (to x)) → ((y : B) → fb y → (to (from y) ≡ y) × (fa (from y) × (ok (from y) ≡ true))) → Reads sa fa ra → Reads sb fb (λ bytes. ra bytes >>= λ x. guarded (ok x.0) (to x.0, x.1))
checked_reads {A} {B} {sa} {fa} {ra} ok sb fb to from forth back a = record {
  takes = λ bytes y rest e.
      let p = bind_some (ra bytes) (λ x. guarded (ok x.0) (to x.0, x.1)) (y, rest) e in
      let made : B × List ℕ = (to p.0.0, p.0.1) in
      let g = guarded_takes (ok p.0.0) made (y, rest) p.2 in
      let first = a.takes bytes p.0.0 p.0.1 p.1 in
      let there = forth p.0.0 first.1 g.0 in
      subst (λ (z : B × List ℕ). (bytes ≡ sb z.0 ++ z.1) × fb z.0) g.1 (first.0 ∙ ap (λ (t : List ℕ). t ++ p.0.1) there.0, there.1);
  again = λ y rest h.
      let home = back y h in
      let same : sb y ≡ sa (from y) = sym ((forth (from y) home.1.0 home.1.1).0 ∙ ap sb home.0) in
      let one : ra (sb y ++ rest) ≡ Some (from y, rest) = ap (λ (t : List ℕ). ra (t ++ rest)) same ∙ a.again (from y) rest home.1.0 in
      rw (one, home.1.1, home.0) refl;
}

abbrev pub just : {A : Type 0} → A → List ℕ → Option (A × List ℕ)
just v r = Some (v, r)

-- a text that stands for one value
pub text_takes : {A : Type 0} (lead : List ℕ) (v : A) (s : A → List ℕ) (f : A → Type 0) → s v ≡ lead → f v → (bytes : List ℕ) (x : A) (rest : List ℕ) → (after lead bytes >>= just v) ≡ Some (x, rest) → (bytes ≡ s x ++ rest) × f x
text_takes {A} lead v s f same fits bytes x rest e =
    let p = bind_some (after lead bytes) (just v) (x, rest) e in
    let made : A × List ℕ = (v, p.0) in
    subst (λ (z : A × List ℕ). (bytes ≡ s z.0 ++ z.1) × f z.0) (some_is made (x, rest) p.2) (after_takes lead bytes p.0 p.1 ∙ ap (λ t. t ++ p.0) (sym same), fits)

-- one value's text isn't the beginning of another's
pub leads_apart : {A : Type 0} {s : A → List ℕ} {f : A → Type 0} {r : List ℕ → Option (A × List ℕ)} → Reads s f r → (x y : A) (t : List ℕ) → f x → f y → (x ≡ y → ⊥) → after (s x) (s y ++ t) ≡ None
leads_apart {A} {s} {f} {r} law x y t fx fy apart = go (after (s x) (s y ++ t)) refl
  where
    go : (o : Option (List ℕ)) → after (s x) (s y ++ t) ≡ o → o ≡ None
    go None e = refl
    go (Some later) e =
        let same : s y ++ t ≡ s x ++ later = after_takes (s x) (s y ++ t) later e in
        absurd (apart (some_pair_parts x y later t (sym (law.again x later fx) ∙ ap r (sym same) ∙ law.again y t fy)).0)
