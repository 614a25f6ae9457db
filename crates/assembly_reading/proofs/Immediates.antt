-- A fence's set reads as that set, and the immediate of LUI and AUIPC as that number.
use Rattle.std.proofs.Common.{◌≡◌, ℕ, ◌+◌, ◌*◌, ◌/◌, ◌%◌, ◌^◌, ◌<◌, ◌≤◌, Bool, true, false, cond, List, [], ◌∷◌, ◌++◌, refl, ap, sym, subst, ◌∙◌, arith}
use Rattle.std.proofs.lemmas.Bool.{eqb-true, ne_eqb, leb-true}
use Rattle.std.proofs.lemmas.Fmt.{decimal_digit}
use Rattle.std.specs.Fmt.{digit_glyph}
use Rattle.std.specs.Prelude.{Option, Some, None, nat_le, ◌==◌, ◌&&◌, if◌then◌else◌}
use Rattle.text_fields.specs.Reading.{◌>>=◌, after}
use Rattle.text_words.proofs.Digits.{amount_more}
use Rattle.text_words.specs.Words.{is_word_byte, past_word, is_name, name_at}
use Rattle.text_words.specs.Numbers.{signed_at, number_of, amount_of, amount_on, worth}
use Rattle.text_words.specs.declared.numbers.Number.{Number}
use Rattle.text_words.specs.declared.numbers.Number.TheVariants.{Word}
use Rattle.assembly.specs.Operands.{accesses, upper, hex_digit_of}
use Rattle.assembly_reading.specs.Registers.{named, register_of}
use Rattle.assembly_reading.specs.Sets.{set_of}
use Rattle.assembly_reading.specs.Formats.{set}
use Rattle.assembly_reading.specs.Operands.{register_at, register_operand_at, base_at, number_operand_at, address_at, forward_at, backward_at, name_operand_at, operand_at}
use Rattle.assembly_reading.specs.declared.operands.Operand.{Operand}
use Rattle.assembly_reading.specs.declared.operands.Operand.TheVariants as operand
use Rattle.assembly_reading.proofs.Splitting.{are_word, is_cut, starts, word_front, past_front, skip_front, all_below, below_passes}
use Rattle.assembly_reading.proofs.Naming.{is_number, number_is}
use Rattle.assembly_reading.proofs.Spelling.{Spells, stops, stop_cut, stop_base, decimal_spells, small_unsigned}

both_true : (a b : Bool) → (a && b) ≡ true → (a ≡ true) × (b ≡ true)
both_true true b h = (refl, h)
both_true false b h = absurd cc

abbrev is_nothing : {A : Type 0} → Option A → Bool
is_nothing None = true
is_nothing (Some x) = false

nothing_is : {A : Type 0} (found : Option A) → is_nothing found ≡ true → found ≡ None
nothing_is None h = refl
nothing_is (Some x) h = absurd cc

abbrev first : List ℕ → ℕ
first [] = 0
first (b ∷ bytes) = b

-- ---- names

-- a word that is neither a register nor a number
record IsPlainName (w : List ℕ) : Type 0 where
  all : are_word w ≡ true
  start : starts w ≡ true
  letter : 97 ≤ first w
  no_register : register_of w ≡ None
  no_number : number_of w ≡ None
  name : is_name w ≡ true

no_symbol : (s : ℕ) (symbol w rest : List ℕ) → s < 97 → 97 ≤ first w → after (s ∷ symbol) (w ++ rest) ≡ None
no_symbol s symbol [] rest low letter = absurd (omega arith)
no_symbol s symbol (b ∷ w) rest low letter = rw (ne_eqb b s (λ e. omega arith)) refl

name_no_register : (w rest : List ℕ) → IsPlainName w → is_cut rest ≡ true → register_at (32 ∷ (w ++ rest)) ≡ None
unfolding register_at
name_no_register w rest is cut = rw (skip_front w rest is.start, word_front w rest is.all cut, is.no_register) refl

name_no_number : (w rest : List ℕ) → IsPlainName w → is_cut rest ≡ true → signed_at (32 ∷ (w ++ rest)) ≡ None
unfolding signed_at
name_no_number w rest is cut = rw (skip_front w rest is.start, no_symbol 45 [] w rest (omega arith) is.letter, word_front w rest is.all cut, is.no_number) refl

name_no_base : (w rest : List ℕ) → IsPlainName w → base_at (32 ∷ (w ++ rest)) ≡ None
unfolding base_at
name_no_base w rest is = rw (skip_front w rest is.start, no_symbol 40 [] w rest (omega arith) is.letter) refl

name_no_forward : (w rest : List ℕ) → IsPlainName w → forward_at (32 ∷ (w ++ rest)) ≡ None
unfolding forward_at
name_no_forward w rest is = rw (skip_front w rest is.start, no_symbol 46 (43 ∷ []) w rest (omega arith) is.letter) refl

name_no_backward : (w rest : List ℕ) → IsPlainName w → backward_at (32 ∷ (w ++ rest)) ≡ None
unfolding backward_at
name_no_backward w rest is = rw (skip_front w rest is.start, no_symbol 46 (45 ∷ []) w rest (omega arith) is.letter) refl

name_there : (w rest : List ℕ) → IsPlainName w → is_cut rest ≡ true → name_at (32 ∷ (w ++ rest)) ≡ Some (w, rest)
unfolding name_at
name_there w rest is cut = rw (skip_front w rest is.start, word_front w rest is.all cut, past_front w rest is.all cut, is.name) refl

name_reads : (w rest : List ℕ) → IsPlainName w → is_cut rest ≡ true → operand_at (32 ∷ (w ++ rest)) ≡ Some (operand.Name w, rest)
unfolding operand_at register_operand_at number_operand_at address_at name_operand_at
name_reads w rest is cut = rw (name_no_register w rest is cut, name_no_number w rest is cut, name_no_base w rest is, name_no_forward w rest is, name_no_backward w rest is, name_there w rest is cut) refl

-- ---- sets

letters_read : ℕ → Bool
letters_read s =
    are_word (accesses s) && (starts (accesses s) && (nat_le 97 (first (accesses s)) && (is_nothing (register_of (accesses s)) && (is_nothing (number_of (accesses s)) && (is_name (accesses s) && is_number s (set_of (accesses s)))))))

reads : ℕ → Bool
reads s = if s == 0 then true else letters_read s

reads_all : all_below 16 reads ≡ true
unfolding register_of named number_of amount_of amount_on set_of letters_read reads
reads_all = refl

not_zero : (test : Bool) (rest : Bool) → test ≡ false → cond test true rest ≡ true → rest ≡ true
not_zero true rest e h = absurd cc
not_zero false rest e h = h

passes : (s : ℕ) → s < 16 → (s == 0) ≡ false → letters_read s ≡ true
unfolding reads
passes s lt e = not_zero (s == 0) (letters_read s) e (below_passes reads 16 s reads_all lt)

-- a set's letters read as an operand that is that set
abbrev pub SetRead : ℕ → Type 0
SetRead s = (x : Operand) × (Spells (accesses s) x × (set x ≡ Some s))

empty_read : SetRead 0
empty_read = (operand.Number (Word 0), (subst (λ (t : List ℕ). Spells t (operand.Number (Word 0))) (decimal_digit 0 (omega arith)) (decimal_spells 0 (omega arith)), refl))

some_read : (s : ℕ) → letters_read s ≡ true → SetRead s
unfolding letters_read
some_read s reading =
    let w : List ℕ = accesses s in
    let a = both_true (are_word w) (starts w && (nat_le 97 (first w) && (is_nothing (register_of w) && (is_nothing (number_of w) && (is_name w && is_number s (set_of w)))))) reading in
    let b = both_true (starts w) (nat_le 97 (first w) && (is_nothing (register_of w) && (is_nothing (number_of w) && (is_name w && is_number s (set_of w))))) a.1 in
    let c = both_true (nat_le 97 (first w)) (is_nothing (register_of w) && (is_nothing (number_of w) && (is_name w && is_number s (set_of w)))) b.1 in
    let d = both_true (is_nothing (register_of w)) (is_nothing (number_of w) && (is_name w && is_number s (set_of w))) c.1 in
    let e = both_true (is_nothing (number_of w)) (is_name w && is_number s (set_of w)) d.1 in
    let f = both_true (is_name w) (is_number s (set_of w)) e.1 in
    let is : IsPlainName w = record { all = a.0; start = b.0; letter = leb-true 97 (first w) c.0; no_register = nothing_is (register_of w) d.0; no_number = nothing_is (number_of w) e.0; name = f.0 } in
    (operand.Name w, (record { starts = b.0; reads = λ rest h. name_reads w rest is (stop_cut rest h) }, number_is s (set_of w) f.1))

set_by : (zero : Bool) (s : ℕ) → (s == 0) ≡ zero → s < 16 → SetRead s
set_by true s e lt = subst SetRead (sym (eqb-true s 0 e)) empty_read
set_by false s e lt = some_read s (passes s lt e)

pub set_spells : (s : ℕ) → s < 16 → SetRead s
set_spells s lt = set_by (s == 0) s refl lt

-- ---- upper immediates

digit : ℕ → Bool
digit m = is_word_byte (digit_glyph false m) && (worth (digit_glyph false m) == m)

digits_all : all_below 16 digit ≡ true
unfolding digit
digits_all = refl

glyph : (m : ℕ) → m < 16 → (is_word_byte (digit_glyph false m) ≡ true) × (worth (digit_glyph false m) ≡ m)
unfolding digit
glyph m lt =
    let both = both_true (is_word_byte (digit_glyph false m)) (worth (digit_glyph false m) == m) (below_passes digit 16 m digits_all lt) in
    (both.0, eqb-true (worth (digit_glyph false m)) m both.1)

-- one hexadecimal digit more
hexadecimal : (k n : ℕ) (rest : List ℕ) → amount_on 16 (hex_digit_of k ∷ rest) n ≡ amount_on 16 rest (n * 16 + k % 16)
hexadecimal k n rest =
    let is = glyph (k % 16) (omega arith) in
    amount_more 16 (hex_digit_of k) n rest (omega arith) ∙ ap (λ (w : ℕ). amount_on 16 rest (n * 16 + w)) is.1

upper_words : (n : ℕ) → are_word (upper n) ≡ true
upper_words n =
    rw ((glyph (n / 2 ^ 28 % 16) (omega arith)).0, (glyph (n / 2 ^ 24 % 16) (omega arith)).0, (glyph (n / 2 ^ 20 % 16) (omega arith)).0, (glyph (n / 2 ^ 16 % 16) (omega arith)).0, (glyph (n / 2 ^ 12 % 16) (omega arith)).0) refl

amount_empty : (n : ℕ) → amount_on 16 [] n ≡ Some n
unfolding amount_on
amount_empty n = refl

five_digits : (n : ℕ) → n < 2 ^ 32 → ((((0 * 16 + n / 2 ^ 28 % 16) * 16 + n / 2 ^ 24 % 16) * 16 + n / 2 ^ 20 % 16) * 16 + n / 2 ^ 16 % 16) * 16 + n / 2 ^ 12 % 16 ≡ n / 4096
five_digits n lt = omega arith

upper_amount : (n : ℕ) → n < 2 ^ 32 → amount_of (upper n) ≡ Some (n / 4096)
unfolding amount_of
upper_amount n lt =
    hexadecimal (n / 2 ^ 28) 0 _
    ∙ hexadecimal (n / 2 ^ 24) _ _
    ∙ hexadecimal (n / 2 ^ 20) _ _
    ∙ hexadecimal (n / 2 ^ 16) _ _
    ∙ hexadecimal (n / 2 ^ 12) _ []
    ∙ amount_empty _
    ∙ ap (λ (m : ℕ). Some m) (five_digits n lt)

upper_number : (n : ℕ) → n < 2 ^ 32 → number_of (upper n) ≡ Some (Word (n / 4096))
unfolding number_of
upper_number n lt = rw (upper_amount n lt) (ap (λ (x : Number). Some x) (small_unsigned (n / 4096) (omega arith)))

upper_no_register : (n : ℕ) (rest : List ℕ) → is_cut rest ≡ true → register_at (32 ∷ (upper n ++ rest)) ≡ None
unfolding register_at register_of named
upper_no_register n rest cut = ap (λ (w : List ℕ). register_of w >>= λ (r : ℕ). Some (r, past_word (upper n ++ rest))) (word_front (upper n) rest (upper_words n) cut)

upper_there : (n : ℕ) (rest : List ℕ) → n < 2 ^ 32 → is_cut rest ≡ true → signed_at (32 ∷ (upper n ++ rest)) ≡ Some (Word (n / 4096), rest)
unfolding signed_at
upper_there n rest lt cut =
    ap (λ (w : List ℕ). number_of w >>= λ (m : Number). Some (m, past_word (upper n ++ rest))) (word_front (upper n) rest (upper_words n) cut)
    ∙ ap (λ (l : List ℕ). number_of (upper n) >>= λ (m : Number). Some (m, l)) (past_front (upper n) rest (upper_words n) cut)
    ∙ ap (λ (found : Option Number). found >>= λ (m : Number). Some (m, rest)) (upper_number n lt)

upper_reads : (n : ℕ) (rest : List ℕ) → n < 2 ^ 32 → stops rest ≡ true → operand_at (32 ∷ (upper n ++ rest)) ≡ Some (operand.Number (Word (n / 4096)), rest)
unfolding operand_at register_operand_at number_operand_at
upper_reads n rest lt h = rw (upper_no_register n rest (stop_cut rest h), upper_there n rest lt (stop_cut rest h), stop_base rest h) refl

pub upper_spells : (n : ℕ) → n < 2 ^ 32 → Spells (upper n) (operand.Number (Word (n / 4096)))
upper_spells n lt = record { starts = refl; reads = λ rest h. upper_reads n rest lt h }
