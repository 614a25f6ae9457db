-- Numbers in decimal digits, as the kit reads them.
use Rattle.std.proofs.Common.{◌≡◌, ℕ, ◌^◌, ◌<◌, ◌≤◌, Bool, true, false, Err, List, [], ◌∷◌, Ok, Result, ap, arith, cond, length, refl, subst, sym}
use Rattle.std.specs.Prelude.{◌&&◌, nat_le, nat_lt}
use Rattle.std.specs.Char.{digit_value}
use Rattle.std.specs.List.{list_all}
use Rattle.std.specs.Str.Parse.{AllDigits, IsNumeral, digits_value, without_leading_plus}
use Rattle.std.proofs.lemmas.Bool.{le-leb, leb-true, lt-ltb, ltb-true}
use Rattle.litmus_command.specs.Wishes.{are_digits, is_number_to, number_in}
use Rattle.litmus_command.specs.declared.wanted.Misuse.TheVariants.{Value}
use Rattle.litmus_command.specs.declared.wanted.Misuse.{Misuse}

each_digit : (ds : List ℕ) → AllDigits 10 ds → list_all (λ d. nat_lt (digit_value d) 10) ds ≡ true
each_digit [] h = refl
each_digit (d ∷ ds) h = rw (lt-ltb (digit_value d) 10 h.0) (each_digit ds h.1)

digits_each : (ds : List ℕ) → list_all (λ d. nat_lt (digit_value d) 10) ds ≡ true → AllDigits 10 ds
digits_each [] h = tt
digits_each (d ∷ ds) h = go (nat_lt (digit_value d) 10) refl h (λ e. digits_each ds e)
  where
    go : (test : Bool) → nat_lt (digit_value d) 10 ≡ test → (test && list_all (λ e. nat_lt (digit_value e) 10) ds) ≡ true
        → (list_all (λ e. nat_lt (digit_value e) 10) ds ≡ true → AllDigits 10 ds) → (digit_value d < 10) × AllDigits 10 ds
    go true is e others = (ltb-true (digit_value d) 10 is, others e)
    go false is e others = absurd cc

abbrev number_ok : ℕ → Result ℕ Misuse
number_ok n = Ok n

both : (a b : Bool) → (a && b) ≡ true → (a ≡ true) × (b ≡ true)
both true b e = (refl, e)
both false b e = absurd cc

is_number : (most : ℕ) (ds : List ℕ) → is_number_to most ds ≡ true → IsNumeral 10 ds × ((0 < digits_value 10 ds) × (digits_value 10 ds ≤ most))
is_number most ds e =
    let parts = both (are_digits ds) (nat_lt 0 (digits_value 10 ds) && nat_le (digits_value 10 ds) most) e in
    let digits = both (nat_lt 0 (length ds)) (list_all (λ d. nat_lt (digit_value d) 10) ds) parts.0 in
    let range = both (nat_lt 0 (digits_value 10 ds)) (nat_le (digits_value 10 ds) most) parts.1 in
    ((ltb-true 0 (length ds) digits.0, digits_each ds digits.1), (ltb-true 0 (digits_value 10 ds) range.0, leb-true (digits_value 10 ds) most range.1))

-- a number in range
pub read_number : (most n : ℕ) (bs : List ℕ) → IsNumeral 10 (without_leading_plus bs) → n ≡ digits_value 10 (without_leading_plus bs) → 0 < n → n ≤ most → number_in most bs ≡ Ok n
read_number most n bs numeral is some few =
    let value = digits_value 10 (without_leading_plus bs) in
    let at_least : 0 < value = subst (λ m. 0 < m) is some in
    let at_most : value ≤ most = subst (λ m. m ≤ most) is few in
    rw (lt-ltb 0 (length (without_leading_plus bs)) numeral.0, each_digit (without_leading_plus bs) numeral.1, lt-ltb 0 value at_least, le-leb value most at_most) (ap (λ m. Ok m) (sym is))

-- what isn't one
pub refused_number : (most : ℕ) (bs : List ℕ) → (IsNumeral 10 (without_leading_plus bs) → 0 < digits_value 10 (without_leading_plus bs) → digits_value 10 (without_leading_plus bs) ≤ most → ⊥) → number_in most bs ≡ Err Value
refused_number most bs none = go (is_number_to most (without_leading_plus bs)) refl
  where
    go : (test : Bool) → is_number_to most (without_leading_plus bs) ≡ test → cond test (number_ok (digits_value 10 (without_leading_plus bs))) (Err Value) ≡ Err Value
    go true is = let number = is_number most (without_leading_plus bs) is in absurd (none number.0 number.1.0 number.1.1)
    go false is = refl

-- no number of 32 bits
pub unread_number : (most : ℕ) (bs : List ℕ) → most < 2 ^ 32 → (IsNumeral 10 (without_leading_plus bs) × (digits_value 10 (without_leading_plus bs) < 2 ^ 32) → ⊥) → number_in most bs ≡ Err Value
unread_number most bs small none = refused_number most bs (λ numeral some few. none (numeral, omega arith))

pub zero_number : (most n : ℕ) (bs : List ℕ) → n ≡ digits_value 10 (without_leading_plus bs) → n ≡ 0 → number_in most bs ≡ Err Value
zero_number most n bs is zero = refused_number most bs (λ numeral some few. omega arith)

pub large_number : (most n : ℕ) (bs : List ℕ) → n ≡ digits_value 10 (without_leading_plus bs) → most < n → number_in most bs ≡ Err Value
large_number most n bs is large = refused_number most bs (λ numeral some few. omega arith)
