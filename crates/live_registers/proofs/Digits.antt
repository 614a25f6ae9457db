-- Digits of numbers in binary that stand for sets of registers.
use Rattle.std.proofs.Common.{◌≡◌, ℕ, zero, suc, ◌-◌, ◌^◌, ◌<◌, true, false, refl, sym, ap, ◌∙◌, arith, max, min}
use Rattle.std.specs.Prelude.{◌==◌, bit_and, bit_or}
use Rattle.std.specs.Int.{bit_at, bit_not, w32}
use Rattle.std.proofs.lemmas.Bool.{eqb-true, false≢true}
use Rattle.std.proofs.lemmas.Nat.Bits.{bit_at-lt, bit_at_and, bit_at_not, bit_at_ones, bit_at_or}
use Rattle.live_registers.specs.Live.{everything, is_live}
use Rattle.live_registers.specs.Laws.{Within}

set : (m r : ℕ) → is_live m r ≡ true → bit_at m r ≡ 1
set m r e = eqb-true (bit_at m r) 1 e

is_set : (m r : ℕ) → bit_at m r ≡ 1 → is_live m r ≡ true
is_set m r e = ap (λ n. n == 1) e

unset : (m r : ℕ) → is_live m r ≡ false → bit_at m r ≡ 0
unset m r e = go (bit_at m r) (bit_at-lt m r) e
  where
    go : (n : ℕ) → n < 2 → (n == 1) ≡ false → n ≡ 0
    go zero l e = refl
    go (suc zero) l e = absurd (false≢true (sym e))
    go (suc (suc n)) l e = absurd (omega (arith, l))

greater : (m n : ℕ) → m ≡ 1 → n < 2 → max m n ≡ 1
greater m zero e l = ap (λ k. max k 0) e
greater m (suc zero) e l = ap (λ k. max k 1) e
greater m (suc (suc n)) e l = absurd (omega (arith, l))

greater_too : (m n : ℕ) → n ≡ 1 → m < 2 → max m n ≡ 1
greater_too zero n e l = ap (λ k. max 0 k) e
greater_too (suc zero) n e l = ap (λ k. max 1 k) e
greater_too (suc (suc m)) n e l = absurd (omega (arith, l))

pub in_first : (a b r : ℕ) → is_live a r ≡ true → is_live (bit_or a b) r ≡ true
in_first a b r e = is_set (bit_or a b) r (bit_at_or a b r ∙ greater (bit_at a r) (bit_at b r) (set a r e) (bit_at-lt b r))

pub in_second : (a b r : ℕ) → is_live b r ≡ true → is_live (bit_or a b) r ≡ true
in_second a b r e = is_set (bit_or a b) r (bit_at_or a b r ∙ greater_too (bit_at a r) (bit_at b r) (set b r e) (bit_at-lt a r))

pub not_set : (a m r : ℕ) → m < 2 ^ 32 → r < 32 → is_live a r ≡ true → is_live m r ≡ false → is_live (bit_and a (bit_not w32 m)) r ≡ true
not_set a m r fits l e f =
    let clear : bit_at (bit_not w32 m) r ≡ 1 = bit_at_not w32 m r fits l ∙ ap (λ k. 1 - k) (unset m r f) in
    is_set (bit_and a (bit_not w32 m)) r (bit_at_and a (bit_not w32 m) r ∙ (ap (λ k. min k (bit_at (bit_not w32 m) r)) (set a r e) ∙ ap (λ k. min 1 k) clear))

pub in_everything : (r : ℕ) → r < 32 → is_live everything r ≡ true
in_everything r l = is_set everything r (bit_at_ones 32 r l)

pub first_within : (a b m : ℕ) → Within (bit_or a b) m → Within a m
first_within a b m w r l e = w r l (in_first a b r e)

pub second_within : (a b m : ℕ) → Within (bit_or a b) m → Within b m
second_within a b m w r l e = w r l (in_second a b r e)
