-- What stands before the first byte that passes.
use Rattle.std.proofs.Common.{◌≡◌, ◌≢◌, ℕ, ◌+◌, ◌-◌, ◌≤◌, ◌<◌, Bool, ◌||◌, true, false, cond, eqb, List, [], ◌∷◌, length, take, refl, sym, ap, ◌∙◌, arith}
use Rattle.std.proofs.lemmas.Bool.Decides.{nat_tests}
use Rattle.std.proofs.lemmas.List.{take_all}
use Rattle.std.specs.List.{before_first, position_or_len}
use Rattle.std.specs.Prelude.{not}
use Rattle.trace_text.specs.Causes.{ends_word, is_feed, line_text, word_text}

-- none before the rest passes
pub record Sought (p : ℕ → Bool) (bytes rest : List ℕ) : Type 0 where
  pub less : length rest ≤ length bytes
  pub at : position_or_len p bytes + length rest ≡ length bytes + position_or_len p rest

first : (p : ℕ → Bool) (bytes : List ℕ) → Sought p bytes bytes
first p bytes = record { less = omega arith; at = omega arith }

past : (p : ℕ → Bool) (b : ℕ) (tail : List ℕ) → p b ≡ false → position_or_len p (b ∷ tail) ≡ 1 + position_or_len p tail
past p b tail e = ap (λ v. cond (not v) (1 + position_or_len p tail) 0) e

here : (p : ℕ → Bool) (b : ℕ) (tail : List ℕ) → p b ≡ true → position_or_len p (b ∷ tail) ≡ 0
here p b tail e = ap (λ v. cond (not v) (1 + position_or_len p tail) 0) e

more : (p : ℕ → Bool) (bytes tail : List ℕ) (b : ℕ) → p b ≡ false → Sought p bytes (b ∷ tail) → Sought p bytes tail
more p bytes tail b e h = record { less = omega (arith, h.less); at = omega (arith, h.at, past p b tail e) }

stop : (p : ℕ → Bool) (bytes tail : List ℕ) (b : ℕ) → p b ≡ true → Sought p bytes (b ∷ tail) → take (length bytes - length (b ∷ tail)) bytes ≡ before_first p bytes
stop p bytes tail b e h =
    let n : length bytes - length (b ∷ tail) ≡ position_or_len p bytes = omega (arith, h.less, h.at, here p b tail e) in
    ap (λ k. take k bytes) n

end : (p : ℕ → Bool) (bytes : List ℕ) → Sought p bytes [] → bytes ≡ before_first p bytes
end p bytes h =
    let n : position_or_len p bytes ≡ length bytes = omega (arith, h.at) in
    sym (ap (λ k. take k bytes) n ∙ take_all (length bytes) bytes (omega arith))

-- ---- a line

is_none : (b : ℕ) → b ≢ 10 → is_feed b ≡ false
is_none b h = grind (arith, nat_tests)

is_one : (b : ℕ) → b ≡ 10 → is_feed b ≡ true
is_one b h = grind (arith, nat_tests)

pub line_first : (bytes : List ℕ) → Sought is_feed bytes bytes
line_first bytes = first is_feed bytes

pub line_more : (bytes tail : List ℕ) (b : ℕ) → b ≢ 10 → Sought is_feed bytes (b ∷ tail) → Sought is_feed bytes tail
line_more bytes tail b h s = more is_feed bytes tail b (is_none b h) s

pub line_stop : (bytes tail : List ℕ) (b : ℕ) → b ≡ 10 → Sought is_feed bytes (b ∷ tail) → take (length bytes - length (b ∷ tail)) bytes ≡ line_text bytes
line_stop bytes tail b h s = stop is_feed bytes tail b (is_one b h) s

pub line_end : (bytes : List ℕ) → Sought is_feed bytes [] → bytes ≡ line_text bytes
line_end bytes s = end is_feed bytes s

-- ---- a word

is_letter : (b : ℕ) → b ≢ 32 → b ≢ 10 → ends_word b ≡ false
is_letter b h k = grind (arith, nat_tests)

is_space : (b : ℕ) → b ≡ 32 → ends_word b ≡ true
is_space b h = grind (arith, nat_tests)

is_end : (b : ℕ) → b ≡ 10 → ends_word b ≡ true
is_end b h = grind (arith, nat_tests)

pub word_first : (bytes : List ℕ) → Sought ends_word bytes bytes
word_first bytes = first ends_word bytes

pub word_more : (bytes tail : List ℕ) (b : ℕ) → b ≢ 32 → b ≢ 10 → Sought ends_word bytes (b ∷ tail) → Sought ends_word bytes tail
word_more bytes tail b h k s = more ends_word bytes tail b (is_letter b h k) s

pub word_space : (bytes tail : List ℕ) (b : ℕ) → b ≡ 32 → Sought ends_word bytes (b ∷ tail) → take (length bytes - length (b ∷ tail)) bytes ≡ word_text bytes
word_space bytes tail b h s = stop ends_word bytes tail b (is_space b h) s

pub word_feed : (bytes tail : List ℕ) (b : ℕ) → b ≡ 10 → Sought ends_word bytes (b ∷ tail) → take (length bytes - length (b ∷ tail)) bytes ≡ word_text bytes
word_feed bytes tail b h s = stop ends_word bytes tail b (is_end b h) s

pub word_end : (bytes : List ℕ) → Sought ends_word bytes [] → bytes ≡ word_text bytes
word_end bytes s = end ends_word bytes s
