-- Numbers: decimal, or hexadecimal behind 0x; a sign may stand before them.
use Rattle.std.specs.Prelude.{ℕ, ◌+◌, ◌-◌, ◌*◌, ◌^◌, Bool, true, false, ◌==◌, ◌||◌, ◌&&◌, nat_le, nat_lt, List, [], ◌∷◌, Option, Some, None, if◌then◌else◌}
use Rattle.text_fields.specs.Reading.{◌>>=◌, is_digit, guarded}
use Rattle.text_words.specs.Words.{skip, word, past_word, symbol_at}
use Rattle.text_words.specs.declared.numbers.Number.{Number}
use Rattle.text_words.specs.declared.numbers.Number.TheVariants.{Word, Wide}

-- what a byte is worth as a digit, 16 where it is none
abbrev pub worth : ℕ → ℕ
worth b =
    if is_digit b then b - 48
    else if nat_le 97 b && nat_le b 102 then b - 87
    else if nat_le 65 b && nat_le b 70 then b - 55
    else 16

-- the number that goes on with these digits
unfoldable pub amount_on : ℕ → List ℕ → ℕ → Option ℕ
amount_on base [] n = Some n
amount_on base (b ∷ digits) n = if nat_lt (worth b) base then amount_on base digits (n * base + worth b) else None

-- a number without a sign
unfoldable pub amount_of : List ℕ → Option ℕ
amount_of [] = None
amount_of (a ∷ []) = amount_on 10 (a ∷ []) 0
amount_of (a ∷ b ∷ []) = amount_on 10 (a ∷ b ∷ []) 0
amount_of (a ∷ b ∷ c ∷ digits) =
    if a == 48 && (b == 120 || b == 88) then amount_on 16 (c ∷ digits) 0
    else amount_on 10 (a ∷ b ∷ c ∷ digits) 0

-- a number from -2^31 to 2^32 - 1 is a word of 32 bits
abbrev pub unsigned : ℕ → Number
unsigned n = if nat_lt n (2 ^ 32) then Word n else Wide

abbrev pub negated : ℕ → Number
negated n = if n == 0 then Word 0 else if nat_le n (2 ^ 31) then Word (2 ^ 32 - n) else Wide

-- the number that a word is
unfoldable pub number_of : List ℕ → Option Number
number_of text = amount_of text >>= λ n. Some (unsigned n)

-- the number that a word behind a minus is
unfoldable pub negated_of : List ℕ → Option Number
negated_of text = amount_of text >>= λ n. Some (negated n)

-- a number, and what stands behind it
abbrev pub with_rest : List ℕ → Option Number → Option (Number × List ℕ)
with_rest rest found = found >>= λ n. Some (n, rest)

abbrev pub behind_sign : Option (List ℕ) → List ℕ → Option (Number × List ℕ)
behind_sign (Some rest) bytes = with_rest (past_word (skip rest)) (negated_of (word (skip rest)))
behind_sign None bytes = with_rest (past_word bytes) (number_of (word bytes))

-- a number behind blanks, a minus before it or not
unfoldable pub signed_at : List ℕ → Option (Number × List ℕ)
signed_at bytes = behind_sign (symbol_at (45 ∷ []) bytes) (skip bytes)
