-- What an instruction works on, in `assembly`'s spelling, reads as that operand.
use Rattle.std.proofs.Common.{◌≡◌, ℕ, ◌-◌, ◌^◌, ◌<◌, ◌≤◌, Bool, true, false, cond, List, [], ◌∷◌, ◌++◌, refl, ap, sym, ◌∙◌, append_assoc, arith}
use Rattle.std.proofs.lemmas.Bool.{eqb-true, ne_eqb, lt-ltb, ltb-false}
use Rattle.std.proofs.lemmas.Bool.Decides.{nat_tests}
use Rattle.std.proofs.lemmas.List.{append-nil}
use Rattle.std.specs.Prelude.{Some, None, decimal, nat_lt, codes, ◌==◌}
use Rattle.text_fields.specs.Reading.{after}
use Rattle.text_words.specs.Words.{is_blank, skip}
use Rattle.text_words.specs.Numbers.{signed_at, number_of, negated_of, amount_of, amount_on, unsigned, negated}
use Rattle.text_words.specs.declared.numbers.Number.{Number}
use Rattle.text_words.specs.declared.numbers.Number.TheVariants.{Word}
use Rattle.assembly.specs.Operands.{register, signed, address, at, distance}
use Rattle.assembly.specs.Assembly.{listed}
use Rattle.assembly_reading.specs.Registers.{named, register_of}
use Rattle.assembly_reading.specs.Operands.{register_at, register_operand_at, base_at, number_operand_at, address_at, forward_at, backward_at, operand_at, is_none, is_end, third_of, second_of, operands_of, with_base}
use Rattle.assembly_reading.specs.declared.operands.Operand.{Operand}
use Rattle.assembly_reading.specs.declared.operands.Operand.TheVariants as operand
use Rattle.assembly_reading.specs.declared.operands.Operands.TheVariants as operands
use Rattle.assembly_reading.proofs.Splitting.{is_cut, starts, word_front, past_front, skip_front}
use Rattle.assembly_reading.proofs.Naming.{names_read, register_reads}
use Rattle.assembly_reading.proofs.Decimals.{AreDigits, decimal_digits, decimal_amount, digits_amount, digits_are_word, digits_start, digits_are_no_register}

-- nothing, or a comma
abbrev pub stops : List ℕ → Bool
stops [] = true
stops (b ∷ bytes) = b == 44

pub stop_cut : (rest : List ℕ) → stops rest ≡ true → is_cut rest ≡ true
stop_cut [] h = refl
stop_cut (b ∷ rest) h = rw (eqb-true b 44 h) refl

pub stop_base : (rest : List ℕ) → stops rest ≡ true → base_at rest ≡ None
unfolding base_at
stop_base [] h = refl
stop_base (b ∷ rest) h = rw (eqb-true b 44 h) refl

-- a text that reads as this operand, whatever follows the comma behind it
pub record Spells (text : List ℕ) (x : Operand) : Type 0 where
  pub starts : starts text ≡ true
  pub reads : (rest : List ℕ) → stops rest ≡ true → operand_at (32 ∷ (text ++ rest)) ≡ Some (x, rest)

register_behind : (r : ℕ) (rest : List ℕ) → r < 32 → is_cut rest ≡ true → register_at (32 ∷ (register r ++ rest)) ≡ Some (r, rest)
unfolding register_at
register_behind r rest lt cut =
    let is = names_read r lt in
    rw (skip_front (register r) rest is.1.0, word_front (register r) rest is.0 cut, past_front (register r) rest is.0 cut, is.1.1) refl

register_operand : (r : ℕ) (rest : List ℕ) → r < 32 → is_cut rest ≡ true → operand_at (32 ∷ (register r ++ rest)) ≡ Some (operand.Register r, rest)
unfolding operand_at register_operand_at
register_operand r rest lt cut = rw (register_behind r rest lt cut) refl

pub register_spells : (r : ℕ) → r < 32 → Spells (register r) (operand.Register r)
register_spells r lt = record { starts = (names_read r lt).1.0; reads = λ rest h. register_operand r rest lt (stop_cut rest h) }

-- ---- numbers

no_minus : (ds rest : List ℕ) → AreDigits ds → after (45 ∷ []) (ds ++ rest) ≡ None
no_minus [] rest are = absurd (omega arith)
no_minus (d ∷ ds) rest are = rw (ne_eqb d 45 (λ e. omega (arith, are.all.0.0))) refl

pub small_unsigned : (n : ℕ) → n < 2 ^ 32 → unsigned n ≡ Word n
small_unsigned n lt = rw (lt-ltb n (2 ^ 32) lt) refl

decimal_number : (n : ℕ) → n < 2 ^ 32 → number_of (decimal n) ≡ Some (Word n)
unfolding number_of
decimal_number n lt =
    let are = decimal_digits n (omega arith) in
    let is : amount_of (decimal n) ≡ Some n = digits_amount (decimal n) are ∙ decimal_amount n (omega arith) in
    rw is (ap (λ (x : Number). Some x) (small_unsigned n lt))

some_negated : (n : ℕ) → 0 < n → n ≤ 2 ^ 31 → negated n ≡ Word (2 ^ 32 - n)
some_negated n some most = grind (arith, nat_tests)

decimal_negated : (n : ℕ) → 0 < n → n ≤ 2 ^ 31 → negated_of (decimal n) ≡ Some (Word (2 ^ 32 - n))
unfolding negated_of
decimal_negated n some most =
    let are = decimal_digits n (omega arith) in
    let is : amount_of (decimal n) ≡ Some n = digits_amount (decimal n) are ∙ decimal_amount n (omega arith) in
    rw is (ap (λ (x : Number). Some x) (some_negated n some most))

positive_reads : (n : ℕ) (rest : List ℕ) → n < 2 ^ 32 → is_cut rest ≡ true → signed_at (32 ∷ (decimal n ++ rest)) ≡ Some (Word n, rest)
unfolding signed_at
positive_reads n rest lt cut =
    let are = decimal_digits n (omega arith) in
    let all = digits_are_word (decimal n) are in
    rw (skip_front (decimal n) rest (digits_start (decimal n) are), no_minus (decimal n) rest are, word_front (decimal n) rest all cut, past_front (decimal n) rest all cut, decimal_number n lt) refl

negative_reads : (n : ℕ) (rest : List ℕ) → 0 < n → n ≤ 2 ^ 31 → is_cut rest ≡ true → signed_at (32 ∷ 45 ∷ (decimal n ++ rest)) ≡ Some (Word (2 ^ 32 - n), rest)
unfolding signed_at
negative_reads n rest some most cut =
    let are = decimal_digits n (omega arith) in
    let all = digits_are_word (decimal n) are in
    rw (skip_front (decimal n) rest (digits_start (decimal n) are), word_front (decimal n) rest all cut, past_front (decimal n) rest all cut, decimal_negated n some most) refl

no_register : (n : ℕ) (rest : List ℕ) → n < 2 ^ 32 → is_cut rest ≡ true → register_at (32 ∷ (decimal n ++ rest)) ≡ None
unfolding register_at
no_register n rest lt cut =
    let are = decimal_digits n (omega arith) in
    rw (skip_front (decimal n) rest (digits_start (decimal n) are), word_front (decimal n) rest (digits_are_word (decimal n) are) cut, digits_are_no_register (decimal n) are) refl

minus_no_register : (rest : List ℕ) → register_at (32 ∷ 45 ∷ rest) ≡ None
unfolding register_at register_of named
minus_no_register rest = refl

positive_operand : (n : ℕ) (rest : List ℕ) → n < 2 ^ 32 → is_cut rest ≡ true → operand_at (32 ∷ (decimal n ++ rest)) ≡ Some (with_base (Word n) rest (base_at rest))
unfolding operand_at register_operand_at number_operand_at
positive_operand n rest lt cut = rw (no_register n rest lt cut, positive_reads n rest lt cut) refl

negative_operand : (n : ℕ) (rest : List ℕ) → 0 < n → n ≤ 2 ^ 31 → is_cut rest ≡ true → operand_at (32 ∷ 45 ∷ (decimal n ++ rest)) ≡ Some (with_base (Word (2 ^ 32 - n)) rest (base_at rest))
unfolding operand_at register_operand_at number_operand_at
negative_operand n rest some most cut = rw (minus_no_register (decimal n ++ rest), negative_reads n rest some most cut) refl

signed_operand_by : (test : Bool) (n : ℕ) (rest : List ℕ) → nat_lt n (2 ^ 31) ≡ test → n < 2 ^ 32 → is_cut rest ≡ true → operand_at (32 ∷ (cond test (decimal n) (45 ∷ decimal (2 ^ 32 - n)) ++ rest)) ≡ Some (with_base (Word n) rest (base_at rest))
signed_operand_by true n rest e lt cut = positive_operand n rest lt cut
signed_operand_by false n rest e lt cut =
    let most : 2 ^ 31 ≤ n = ltb-false n (2 ^ 31) e in
    let back : 2 ^ 32 - (2 ^ 32 - n) ≡ n = omega arith in
    negative_operand (2 ^ 32 - n) rest (omega arith) (omega arith) cut ∙ ap (λ (x : ℕ). Some (with_base (Word x) rest (base_at rest))) back

pub signed_operand : (n : ℕ) (rest : List ℕ) → n < 2 ^ 32 → is_cut rest ≡ true → operand_at (32 ∷ (signed n ++ rest)) ≡ Some (with_base (Word n) rest (base_at rest))
signed_operand n rest lt cut = signed_operand_by (nat_lt n (2 ^ 31)) n rest refl lt cut

signed_starts_by : (test : Bool) (n : ℕ) → n < 2 ^ 32 → starts (cond test (decimal n) (45 ∷ decimal (2 ^ 32 - n))) ≡ true
signed_starts_by true n lt = digits_start (decimal n) (decimal_digits n (omega arith))
signed_starts_by false n lt = refl

signed_starts : (n : ℕ) → n < 2 ^ 32 → starts (signed n) ≡ true
signed_starts n lt = signed_starts_by (nat_lt n (2 ^ 31)) n lt

signed_alone : (n : ℕ) (rest : List ℕ) → n < 2 ^ 32 → stops rest ≡ true → operand_at (32 ∷ (signed n ++ rest)) ≡ Some (operand.Number (Word n), rest)
signed_alone n rest lt h = signed_operand n rest lt (stop_cut rest h) ∙ rw (stop_base rest h) refl

pub signed_spells : (n : ℕ) → n < 2 ^ 32 → Spells (signed n) (operand.Number (Word n))
signed_spells n lt = record { starts = signed_starts n lt; reads = λ rest h. signed_alone n rest lt h }

decimal_alone : (n : ℕ) (rest : List ℕ) → n < 2 ^ 32 → stops rest ≡ true → operand_at (32 ∷ (decimal n ++ rest)) ≡ Some (operand.Number (Word n), rest)
decimal_alone n rest lt h = positive_operand n rest lt (stop_cut rest h) ∙ rw (stop_base rest h) refl

pub decimal_spells : (n : ℕ) → n < 2 ^ 32 → Spells (decimal n) (operand.Number (Word n))
decimal_spells n lt = record { starts = digits_start (decimal n) (decimal_digits n (omega arith)); reads = λ rest h. decimal_alone n rest lt h }

-- ---- addresses

base_reads : (r : ℕ) (rest : List ℕ) → r < 32 → base_at (40 ∷ (register r ++ 41 ∷ rest)) ≡ Some (r, rest)
unfolding base_at
base_reads r rest lt = rw (register_reads r (41 ∷ rest) lt refl) refl

base_behind : (r : ℕ) (rest : List ℕ) → r < 32 → base_at (32 ∷ 40 ∷ (register r ++ 41 ∷ rest)) ≡ Some (r, rest)
unfolding base_at
base_behind r rest lt = rw (register_reads r (41 ∷ rest) lt refl) refl

closed : (r : ℕ) (rest : List ℕ) → at r ++ rest ≡ 40 ∷ (register r ++ 41 ∷ rest)
closed r rest = ap (λ (l : List ℕ). 40 ∷ l) (append_assoc (register r) (41 ∷ []) rest)

addressed : (n r : ℕ) (rest : List ℕ) → n < 2 ^ 32 → r < 32 → operand_at (32 ∷ (address n r ++ rest)) ≡ Some (operand.Address (Word n) r, rest)
addressed n r rest lt small =
    ap (λ (l : List ℕ). operand_at (32 ∷ l)) (append_assoc (signed n) (at r) rest ∙ ap (λ (l : List ℕ). signed n ++ l) (closed r rest))
    ∙ signed_operand n (40 ∷ (register r ++ 41 ∷ rest)) lt refl
    ∙ rw (base_reads r rest small) refl

address_starts : (n r : ℕ) → starts (signed n) ≡ true → starts (address n r) ≡ true
address_starts n r h = start_longer (signed n) (at r) h
  where
    start_longer : (w rest : List ℕ) → starts w ≡ true → starts (w ++ rest) ≡ true
    start_longer [] rest h = absurd cc
    start_longer (b ∷ w) rest h = h

pub address_spells : (n r : ℕ) → n < 2 ^ 32 → r < 32 → Spells (address n r) (operand.Address (Word n) r)
address_spells n r lt small = record { starts = address_starts n r (signed_starts n lt); reads = λ rest h. addressed n r rest lt small }

open_no_register : (rest : List ℕ) → register_at (32 ∷ 40 ∷ rest) ≡ None
unfolding register_at register_of named
open_no_register rest = refl

open_no_number : (rest : List ℕ) → signed_at (32 ∷ 40 ∷ rest) ≡ None
unfolding signed_at number_of amount_of
open_no_number rest = refl

at_reads : (r : ℕ) (rest : List ℕ) → r < 32 → operand_at (32 ∷ (at r ++ rest)) ≡ Some (operand.Address (Word 0) r, rest)
unfolding operand_at register_operand_at number_operand_at address_at
at_reads r rest lt = rw (closed r rest, open_no_register (register r ++ 41 ∷ rest), open_no_number (register r ++ 41 ∷ rest), base_behind r rest lt) refl

pub at_spells : (r : ℕ) → r < 32 → Spells (at r) (operand.Address (Word 0) r)
at_spells r lt = record { starts = refl; reads = λ rest h. at_reads r rest lt }

-- ---- distances

forward_reads : (n : ℕ) (rest : List ℕ) → n < 2 ^ 32 → stops rest ≡ true → operand_at (32 ∷ (codes ".+" ++ (decimal n ++ rest))) ≡ Some (operand.Distance (Word n), rest)
unfolding operand_at register_operand_at register_at register_of named number_operand_at signed_at number_of amount_of amount_on address_at base_at forward_at
forward_reads n rest lt h =
    let are = decimal_digits n (omega arith) in
    let all = digits_are_word (decimal n) are in
    let cut = stop_cut rest h in
    let is = decimal_number n lt in
    rw (word_front (decimal n) rest all cut, past_front (decimal n) rest all cut) (rw is refl)

backward_reads : (n : ℕ) (rest : List ℕ) → 0 < n → n ≤ 2 ^ 31 → stops rest ≡ true → operand_at (32 ∷ (codes ".-" ++ (decimal n ++ rest))) ≡ Some (operand.Distance (Word (2 ^ 32 - n)), rest)
unfolding operand_at register_operand_at register_at register_of named number_operand_at signed_at number_of amount_of amount_on address_at base_at forward_at backward_at
backward_reads n rest some most h =
    let are = decimal_digits n (omega arith) in
    let all = digits_are_word (decimal n) are in
    let cut = stop_cut rest h in
    let is = decimal_negated n some most in
    rw (word_front (decimal n) rest all cut, past_front (decimal n) rest all cut) (rw is refl)

distance_by : (test : Bool) (n : ℕ) (rest : List ℕ) → nat_lt n (2 ^ 31) ≡ test → n < 2 ^ 32 → stops rest ≡ true → operand_at (32 ∷ (cond test (codes ".+" ++ decimal n) (codes ".-" ++ decimal (2 ^ 32 - n)) ++ rest)) ≡ Some (operand.Distance (Word n), rest)
distance_by true n rest e lt h = forward_reads n rest lt h
distance_by false n rest e lt h =
    let most : 2 ^ 31 ≤ n = ltb-false n (2 ^ 31) e in
    let back : 2 ^ 32 - (2 ^ 32 - n) ≡ n = omega arith in
    backward_reads (2 ^ 32 - n) rest (omega arith) (omega arith) h ∙ ap (λ (x : ℕ). Some (operand.Distance (Word x), rest)) back

distance_starts_by : (test : Bool) (n : ℕ) → starts (cond test (codes ".+" ++ decimal n) (codes ".-" ++ decimal (2 ^ 32 - n))) ≡ true
distance_starts_by true n = refl
distance_starts_by false n = refl

pub distance_spells : (n : ℕ) → n < 2 ^ 32 → Spells (distance n) (operand.Distance (Word n))
distance_spells n lt = record { starts = distance_starts_by (nat_lt n (2 ^ 31)) n; reads = λ rest h. distance_by (nat_lt n (2 ^ 31)) n rest refl lt h }

-- ---- all operands

goes_on : (w rest : List ℕ) → starts w ≡ true → is_end (32 ∷ (w ++ rest)) ≡ false
goes_on [] rest h = absurd cc
goes_on (b ∷ w) rest h = no_blank (is_blank b) h
  where
    no_blank : (test : Bool) → cond test false true ≡ true → is_none (cond test (skip (w ++ rest)) (b ∷ (w ++ rest))) ≡ false
    no_blank true e = absurd cc
    no_blank false e = refl

alone : {text : List ℕ} {x : Operand} → Spells text x → operand_at (32 ∷ text) ≡ Some (x, [])
alone {text} spells = ap (λ (l : List ℕ). operand_at (32 ∷ l)) (sym (append-nil text)) ∙ spells.reads [] refl

alone_end : {text : List ℕ} {x : Operand} → Spells text x → is_end (32 ∷ text) ≡ false
alone_end {text} spells = ap (λ (l : List ℕ). is_end (32 ∷ l)) (sym (append-nil text)) ∙ goes_on text [] spells.starts

pub two_read : {a b : List ℕ} {x y : Operand} → Spells a x → Spells b y → operands_of (32 ∷ listed (a ∷ b ∷ [])) ≡ Some (operands.Two x y)
unfolding operands_of second_of third_of
two_read {a} {b} one two = rw (goes_on a (44 ∷ 32 ∷ b) one.starts, one.reads (44 ∷ 32 ∷ b) refl, alone two) refl

pub three_read : {a b c : List ℕ} {x y z : Operand} → Spells a x → Spells b y → Spells c z → operands_of (32 ∷ listed (a ∷ b ∷ c ∷ [])) ≡ Some (operands.Three x y z)
unfolding operands_of second_of third_of
three_read {a} {b} {c} one two three = rw (goes_on a (44 ∷ 32 ∷ (b ++ (44 ∷ 32 ∷ c))) one.starts, one.reads (44 ∷ 32 ∷ (b ++ (44 ∷ 32 ∷ c))) refl, two.reads (44 ∷ 32 ∷ c) refl, alone three) refl
