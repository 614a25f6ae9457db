-- A number in decimal reads as that number, and as no register.
use Rattle.std.proofs.Common.{◌≡◌, ℕ, ◌+◌, ◌-◌, ◌*◌, ◌/◌, ◌%◌, ◌^◌, ◌<◌, ◌≤◌, Bool, true, false, cond, List, [], ◌∷◌, ◌++◌, length, refl, ap, ◌∙◌, arith}
use Rattle.std.proofs.lemmas.Fmt.{decimal_by_steps}
use Rattle.std.proofs.lemmas.List.{length-append}
use Rattle.std.proofs.lemmas.Bool.{ne_eqb}
use Rattle.std.proofs.lemmas.Bool.Decides.{nat_tests}
use Rattle.std.specs.List.{AllByRecursion}
use Rattle.std.specs.Prelude.{Some, None, decimal, nat_lt, ◌==◌, ◌&&◌, ◌||◌}
use Rattle.std.specs.Str.{bytes_eq}
use Rattle.text_words.proofs.Digits.{amount_more}
use Rattle.text_words.specs.Words.{is_blank, is_word_byte}
use Rattle.text_words.specs.Numbers.{worth, amount_on, amount_of}
use Rattle.assembly_reading.specs.Tables.{found}
use Rattle.assembly_reading.specs.Registers.{names, named, register_of}
use Rattle.assembly_reading.proofs.Splitting.{are_word, starts}

-- some digits
pub record AreDigits (ds : List ℕ) : Type 0 where
  pub some : 1 ≤ length ds
  pub all : AllByRecursion (λ b. (48 ≤ b) × (b ≤ 57)) ds

digits_pushed : (ds : List ℕ) (b : ℕ) → 48 ≤ b → b ≤ 57 → AllByRecursion (λ c. (48 ≤ c) × (c ≤ 57)) ds → AllByRecursion (λ c. (48 ≤ c) × (c ≤ 57)) (ds ++ b ∷ [])
digits_pushed [] b low high all = ((low, high), tt)
digits_pushed (d ∷ ds) b low high all = (all.0, digits_pushed ds b low high all.1)

pub decimal_digits : (n : ℕ) → n < 2 ^ 64 → AreDigits (decimal n)
decimal_digits =
    decimal_by_steps (λ n ds. AreDigits ds)
    (λ n small. record { some = omega arith; all = ((omega arith, omega arith), tt) })
    (λ n ds big ih. record { some = simp length-append (omega arith); all = digits_pushed ds (48 + n % 10) (omega arith) (omega arith) ih.all })

digit_worth : (b : ℕ) → 48 ≤ b → b ≤ 57 → worth b ≡ b - 48
digit_worth b low high = grind (arith, nat_tests)

more_digits : (test : Bool) (base d m n b : ℕ) (ds : List ℕ) → cond test (amount_on base ds m) None ≡ Some n → (amount_on base ds m ≡ Some n → amount_on base (ds ++ b ∷ []) m ≡ Some (n * base + worth b)) → cond test (amount_on base (ds ++ b ∷ []) m) None ≡ Some (n * base + worth b)
more_digits true base d m n b ds e later = later e
more_digits false base d m n b ds e later = absurd cc

amount_pushed : (base : ℕ) (ds : List ℕ) (b m n : ℕ) → worth b < base → amount_on base ds m ≡ Some n → amount_on base (ds ++ b ∷ []) m ≡ Some (n * base + worth b)
unfolding amount_on
amount_pushed base [] b m n lt e =
    let same : m ≡ n = cc in
    amount_more base b m [] lt ∙ ap (λ (x : ℕ). Some (x * base + worth b)) same
amount_pushed base (d ∷ ds) b m n lt e = more_digits (nat_lt (worth d) base) base d (m * base + worth d) n b ds e (λ h. amount_pushed base ds b (m * base + worth d) n lt h)

none_yet : amount_on 10 [] 0 ≡ Some 0
unfolding amount_on
none_yet = refl

pub decimal_amount : (n : ℕ) → n < 2 ^ 64 → amount_on 10 (decimal n) 0 ≡ Some n
decimal_amount =
    decimal_by_steps (λ n ds. amount_on 10 ds 0 ≡ Some n)
    (λ n small.
    let w : worth (48 + n) ≡ 48 + n - 48 = digit_worth (48 + n) (omega arith) (omega arith) in
    let is : 0 * 10 + worth (48 + n) ≡ n = omega arith in
    amount_pushed 10 [] (48 + n) 0 0 (omega arith) none_yet ∙ ap (λ (x : ℕ). Some x) is)
    (λ n ds big ih.
    let is : worth (48 + n % 10) ≡ 48 + n % 10 - 48 = digit_worth (48 + n % 10) (omega arith) (omega arith) in
    let whole : n / 10 * 10 + worth (48 + n % 10) ≡ n = omega arith in
    amount_pushed 10 ds (48 + n % 10) 0 (n / 10) (omega arith) ih ∙ ap (λ (x : ℕ). Some x) whole)

not_hexadecimal : (a b : ℕ) → 48 ≤ b → b ≤ 57 → (a == 48 && (b == 120 || b == 88)) ≡ false
not_hexadecimal a b low high = grind (arith, nat_tests)

pub digits_amount : (ds : List ℕ) → AreDigits ds → amount_of ds ≡ amount_on 10 ds 0
unfolding amount_of
digits_amount [] are = absurd (omega arith)
digits_amount (a ∷ []) are = refl
digits_amount (a ∷ b ∷ []) are = refl
digits_amount (a ∷ b ∷ c ∷ ds) are = rw (not_hexadecimal a b are.all.1.0.0 are.all.1.0.1) refl

digit_is_word : (b : ℕ) → 48 ≤ b → b ≤ 57 → is_word_byte b ≡ true
digit_is_word b low high = grind (arith, nat_tests)

digit_is_no_blank : (b : ℕ) → 48 ≤ b → b ≤ 57 → is_blank b ≡ false
digit_is_no_blank b low high = grind (arith, nat_tests)

digits_words : (ds : List ℕ) → AllByRecursion (λ b. (48 ≤ b) × (b ≤ 57)) ds → are_word ds ≡ true
digits_words [] all = refl
digits_words (d ∷ ds) all = rw (digit_is_word d all.0.0 all.0.1) (digits_words ds all.1)

pub digits_are_word : (ds : List ℕ) → AreDigits ds → are_word ds ≡ true
digits_are_word ds are = digits_words ds are.all

pub digits_start : (ds : List ℕ) → AreDigits ds → starts ds ≡ true
digits_start [] are = absurd (omega arith)
digits_start (d ∷ ds) are = rw (digit_is_no_blank d are.all.0.0 are.all.0.1) refl

-- the first byte, a letter where there is none
abbrev first : List ℕ → ℕ
first [] = 97
first (b ∷ bytes) = b

differ : (name : List ℕ) (b : ℕ) (bytes : List ℕ) → b ≤ 57 → 58 ≤ first name → bytes_eq name (b ∷ bytes) ≡ false
differ [] b bytes low high = refl
differ (a ∷ name) b bytes low high = rw (ne_eqb a b (λ e. omega arith)) refl

found_none : (table : List (List ℕ × ℕ)) (b : ℕ) (bytes : List ℕ) → b ≤ 57 → AllByRecursion (λ e. 58 ≤ first e.0) table → found table (b ∷ bytes) ≡ None
found_none [] b bytes low all = refl
found_none (e ∷ es) b bytes low all = rw (differ e.0 b bytes low all.0) (found_none es b bytes low all.1)

letters_first : AllByRecursion (λ e. 58 ≤ first e.0) names
letters_first = grind arith

pub digits_are_no_register : (ds : List ℕ) → AreDigits ds → register_of ds ≡ None
unfolding register_of named
digits_are_no_register [] are = absurd (omega arith)
digits_are_no_register (d ∷ ds) are = rw (ne_eqb d 120 (λ e. omega (arith, are.all.0.1))) (found_none names d ds are.all.0.1 letters_first)
