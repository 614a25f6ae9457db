-- Blanks, and words between them.
use Rattle.std.specs.Prelude.{ℕ, ◌+◌, Bool, true, false, ◌==◌, ◌||◌, ◌&&◌, nat_le, List, [], ◌∷◌, length, Option, Some, None, if◌then◌else◌}
use Rattle.text_fields.specs.Reading.{◌>>=◌, after, is_digit, guarded}

-- a space, a tab, a line feed or a carriage return
abbrev pub is_blank : ℕ → Bool
is_blank b = b == 32 || b == 9 || b == 10 || b == 13

-- what stands behind the blanks at the front
abbrev pub skip : List ℕ → List ℕ
skip [] = []
skip (b ∷ bytes) = if is_blank b then skip bytes else b ∷ bytes

-- a letter of ASCII
abbrev pub is_letter : ℕ → Bool
is_letter b = (nat_le 65 b && nat_le b 90) || (nat_le 97 b && nat_le b 122)

-- a letter, a digit, an underscore or a dot
abbrev pub is_word_byte : ℕ → Bool
is_word_byte b = is_letter b || is_digit b || b == 95 || b == 46

-- how many bytes at the front are of a word
abbrev pub word_length : List ℕ → ℕ
word_length [] = 0
word_length (b ∷ bytes) = if is_word_byte b then 1 + word_length bytes else 0

-- the bytes at the front that are of a word, and what stands behind them
abbrev pub word : List ℕ → List ℕ
word [] = []
word (b ∷ bytes) = if is_word_byte b then b ∷ word bytes else []

abbrev pub past_word : List ℕ → List ℕ
past_word [] = []
past_word (b ∷ bytes) = if is_word_byte b then past_word bytes else b ∷ bytes

-- a symbol behind blanks, and what stands behind it
abbrev pub symbol_at : List ℕ → List ℕ → Option (List ℕ)
symbol_at symbol bytes = after symbol (skip bytes)

-- a word that can be a name: a letter or an underscore first, and not too long
abbrev pub is_name : List ℕ → Bool
is_name [] = false
is_name (b ∷ bytes) = (is_letter b || b == 95) && nat_le (length bytes) 199

-- a name behind blanks, and what stands behind it
unfoldable pub name_at : List ℕ → Option (List ℕ × List ℕ)
name_at bytes = guarded (is_name (word (skip bytes))) (word (skip bytes), past_word (skip bytes))
