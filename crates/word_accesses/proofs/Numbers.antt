-- The numbers that accesses read and write.
use Rattle.std.proofs.Common.{arith, ◌∙◌, ap, sym, bit_and}
use Rattle.std.specs.Prelude.{ℕ, ◌≡◌, ◌<◌, ◌*◌, ◌/◌, ◌%◌, ◌^◌, zero, suc, List, [], ◌∷◌, length, refl}
use Rattle.std.proofs.lemmas.Nat.{and_mask}
use Rattle.std.proofs.Math.Nat.{mod-eq_of_lt}
use Rattle.std.specs.Int.{w32, from_le_bytes}
use Rattle.machine_model.specs.Words.{bytes_of_word, number_of_bytes, store_of, word_of}
use Rattle.store_buffer.specs.ByteMask.{marks_of_access}
use Rattle.std.specs.Prelude.{Bool}

number-again : (bs : List ℕ) → length bs ≡ 4 → from_le_bytes w32 bs ≡ number_of_bytes bs
number-again [] l = absurd (omega arith)
number-again (a ∷ []) l = absurd (omega arith)
number-again (a ∷ b ∷ []) l = absurd (omega arith)
number-again (a ∷ b ∷ c ∷ []) l = absurd (omega arith)
number-again (a ∷ b ∷ c ∷ d ∷ []) l = omega arith
number-again (a ∷ b ∷ c ∷ d ∷ e ∷ bs) l = absurd (omega arith)

shift-by-bytes : (k : ℕ) → k < 4 → 2 ^ (8 * k) ≡ 256 ^ k
shift-by-bytes zero l = refl
shift-by-bytes (suc zero) l = refl
shift-by-bytes (suc (suc zero)) l = refl
shift-by-bytes (suc (suc (suc zero))) l = refl
shift-by-bytes (suc (suc (suc (suc k)))) l = absurd (omega arith)

shifted : (bs : List ℕ) (k r : ℕ) → length bs ≡ 4 → k < 4 → r ≡ from_le_bytes w32 bs → r / 2 ^ (8 * k) ≡ number_of_bytes bs / 256 ^ k
shifted bs k r l below is = ap (λ p. r / p) (shift-by-bytes k below) ∙ ap (λ n. n / 256 ^ k) (is ∙ number-again bs l)

pub read-byte : (bs : List ℕ) (k r : ℕ) → length bs ≡ 4 → k < 4 → r ≡ from_le_bytes w32 bs → bit_and (r / 2 ^ (8 * k)) 255 ≡ number_of_bytes bs / 256 ^ k % 256 ^ 1
read-byte bs k r l below is = and_mask (r / 2 ^ (8 * k)) 8 ∙ ap (λ n. n % 256) (shifted bs k r l below is)

pub read-half : (bs : List ℕ) (k r : ℕ) → length bs ≡ 4 → k < 4 → r ≡ from_le_bytes w32 bs → bit_and (r / 2 ^ (8 * k)) 65535 ≡ number_of_bytes bs / 256 ^ k % 256 ^ 2
read-half bs k r l below is = and_mask (r / 2 ^ (8 * k)) 16 ∙ ap (λ n. n % 65536) (shifted bs k r l below is)

-- a quotient is no more than what is divided
pub read-word : (bs : List ℕ) (k r : ℕ) → length bs ≡ 4 → k < 4 → r < 2 ^ 32 → r / 2 ^ (8 * k) < 2 ^ 32 → r ≡ from_le_bytes w32 bs → r / 2 ^ (8 * k) ≡ number_of_bytes bs / 256 ^ k % 256 ^ 4
read-word bs k r l below small less is = sym (mod-eq_of_lt less) ∙ ap (λ n. n % 4294967296) (shifted bs k r l below is)

-- ---- stores

-- the lowest four bytes of a number, of whatever was cut off above them
abbrev pub lowest : ℕ → List ℕ
lowest x = x % 4294967296 % 256 ∷ x % 4294967296 / 256 % 256 ∷ x % 4294967296 / 65536 % 256 ∷ x % 4294967296 / 16777216 % 256 ∷ []

same_four : (a b c d p q r s : ℕ) → a ≡ p → b ≡ q → c ≡ r → d ≡ s → a ∷ b ∷ c ∷ d ∷ [] ≡ p ∷ q ∷ r ∷ s ∷ []
same_four a b c d p q r s e f g h = cc

bytes-again : (x : ℕ) → lowest x ≡ bytes_of_word x
bytes-again x = same_four _ _ _ _ _ _ _ _ (omega arith) (omega arith) (omega arith) (omega arith)

pub stored-again : (address size value op word : ℕ) (mask : List Bool) (bytes : List ℕ) → word ≡ word_of address → mask ≡ marks_of_access (address % 4) size → bytes ≡ lowest (value * 2 ^ (8 * (address % 4)))
    → record { word = word; mask = mask; value = bytes; op = op } ≡ store_of address size value op
stored-again address size value op word mask bytes e m b =
    let shifted : bytes ≡ bytes_of_word (value * 256 ^ (address % 4)) = b ∙ (bytes-again (value * 2 ^ (8 * (address % 4))) ∙ ap (λ (p : ℕ). bytes_of_word (value * p)) (shift-by-bytes (address % 4) (omega arith))) in
    rw (e, m, shifted) refl
