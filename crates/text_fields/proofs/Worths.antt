-- What the table of digits says of each byte.
use Rattle.std.proofs.Common.{◌≡◌, ℕ, zero, suc, ◌-◌, ◌<◌, ◌≤◌, Bool, true, ◌&&◌, T, eqb, get_or, Option, Some, None, refl, ap, inl, inr, arith, eq-zero-or-pos, eqb→eq}
use lib.Ieee.Fits.{and_l, and_r}
use Rattle.text_fields.specs.Reading.{nibble_of}
use Rattle.text_fields.specs.declared.digits.TheConstants.{VALUES}
use Rattle.text_fields.proofs.Laws.{nibble_takes}

-- a digit's worth, as the table has it
abbrev worth : Option ℕ → ℕ
worth None = 16
worth (Some n) = n

abbrev are_worths : ℕ → Bool
are_worths zero = true
are_worths (suc b) = eqb (get_or VALUES b 0) (worth (nibble_of b)) && are_worths b

below : (n b : ℕ) → T (are_worths n) → b < n → get_or VALUES b 0 ≡ worth (nibble_of b)
below zero b t h = absurd (omega arith)
below (suc n) b t h =
    elim (eq-zero-or-pos (n - b)) [
      | inl z ↦ let e : b ≡ n = omega arith in rw e (eqb→eq _ _ (and_l _ (are_worths n) t))
      | inr g ↦ below n b (and_r _ (are_worths n) t) (omega arith)
    ]

worth_at : (b : ℕ) → b < 256 → get_or VALUES b 0 ≡ worth (nibble_of b)
unfolding nibble_of
worth_at b h = below 256 b tt h

some_worth : (v : ℕ) (r : Option ℕ) → v ≡ worth r → v < 16 → Some v ≡ r
some_worth v None e lt = absurd (omega arith)
some_worth v (Some n) e lt = ap (λ (m : ℕ). Some m) e

no_worth : (v : ℕ) (r : Option ℕ) → ((n : ℕ) → r ≡ Some n → n < 16) → v ≡ worth r → 16 ≤ v → None ≡ r
no_worth v None small e le = refl
no_worth v (Some n) small e le = let lt = small n refl in absurd (omega arith)

pub some_value : (b : ℕ) → b < 256 → get_or VALUES b 0 < 16 → Some (get_or VALUES b 0) ≡ nibble_of b
some_value b h lt = some_worth (get_or VALUES b 0) (nibble_of b) (worth_at b h) lt

pub no_value : (b : ℕ) → b < 256 → 16 ≤ get_or VALUES b 0 → None ≡ nibble_of b
no_value b h le = no_worth (get_or VALUES b 0) (nibble_of b) (λ n e. (nibble_takes b n e).0) (worth_at b h) le
