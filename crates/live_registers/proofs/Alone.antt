-- Registers that aren't live may count as 0: the instruction does the same, and what is live behind it is the same.
use Rattle.std.proofs.Common.{◌≡◌, ◌≢◌, ℕ, zero, suc, ◌*◌, ◌^◌, ◌%◌, ◌<◌, ◌≤◌, ◌⊎◌, inl, inr, List, [], ◌∷◌, Bool, true, false, Option, Some, None, refl, sym, subst, ap, ◌∙◌, arith, length}
use Rattle.std.specs.Prelude.{◌==◌, nat_lt, slice_index, slice_set, if◌then◌else◌}
use Rattle.std.specs.Int.{w32}
use Rattle.std.proofs.lemmas.Bool.{eqb-true, false≢true, ltb-true, ltb-false}
use Rattle.std.proofs.lemmas.Bool.Decides.{Decides-eqb}
use Rattle.std.proofs.lemmas.List.{ext_get_or, get_or-set_other, length-set}
use Rattle.std.proofs.lemmas.Nat.Bits.{bit_at_set_same}
use Rattle.rv32_exec.specs.Registers.{after_write, with_register}
use Rattle.live_registers.specs.Live.{cleared, is_live, live_alone, one}
use Rattle.live_registers.specs.Laws.{Within}
use Rattle.live_registers.proofs.Apart.{IsNot}

apart : (a b : ℕ) → (a == b) ≡ false → a ≢ b
apart a b f e = false≢true (sym f ∙ (Decides-eqb a b).1 e)

-- ---- what clearing leaves

abbrev pub Stays : ℕ → ℕ → Type 0
Stays m r = (r ≡ 0) ⊎ ((32 ≤ r) ⊎ (is_live m r ≡ true))

pub length_register : (x : List ℕ) (n v : ℕ) → length (with_register x n v) ≡ length x
length_register x n v = go (n == 0)
  where
    go : (t : Bool) → length (if t then x else slice_set x n v) ≡ length x
    go true = refl
    go false = length-set x n v

length_cleared : (m n : ℕ) (x : List ℕ) → length (cleared m n x) ≡ length x
unfolding cleared
length_cleared m zero x = refl
length_cleared m (suc n) x = go (is_live m n) (length_cleared m n x)
  where
    go : (t : Bool) → length (cleared m n x) ≡ length x → length (if t then cleared m n x else with_register (cleared m n x) n 0) ≡ length x
    go true e = e
    go false e = length_register (cleared m n x) n 0 ∙ e

pub length_alone : (m : ℕ) (x : List ℕ) → length (live_alone m x) ≡ length x
length_alone m x = length_cleared m 32 x

-- a register that stays isn't the one that is cleared
stays_apart : (m n r : ℕ) → n < 32 → Stays m r → is_live m n ≡ false → (n == 0) ≡ false → r ≢ n
stays_apart m n r l (inl e) d z s = apart n 0 z (sym s ∙ e)
stays_apart m n r l (inr (inl e)) d z s = omega (arith, l, e, s)
stays_apart m n r l (inr (inr e)) d z s = false≢true (sym d ∙ subst (λ k. is_live m k ≡ true) s e)

kept_at : (m n : ℕ) (x : List ℕ) (r : ℕ) → n ≤ 32 → Stays m r → slice_index (cleared m n x) r ≡ slice_index x r
unfolding cleared
kept_at m zero x r l s = refl
kept_at m (suc n) x r l s = go (is_live m n) refl (n == 0) refl (kept_at m n x r (omega (arith, l)) s)
  where
    go : (t : Bool) → is_live m n ≡ t → (z : Bool) → (n == 0) ≡ z → slice_index (cleared m n x) r ≡ slice_index x r → slice_index (if t then cleared m n x else if n == 0 then cleared m n x else slice_set (cleared m n x) n 0) r ≡ slice_index x r
    go true d z e rest = rest
    go false d true e rest = ap (λ b. slice_index (if b then cleared m n x else slice_set (cleared m n x) n 0) r) e ∙ rest
    go false d false e rest = ap (λ b. slice_index (if b then cleared m n x else slice_set (cleared m n x) n 0) r) e ∙ (get_or-set_other (cleared m n x) n r 0 0 (stays_apart m n r (omega (arith, l)) s d e) ∙ rest)

pub stays : (m : ℕ) (x : List ℕ) (r : ℕ) → Stays m r → slice_index (live_alone m x) r ≡ slice_index x r
stays m x r s = kept_at m 32 x r (omega arith) s

pub named_stays : (m r : ℕ) → Within (one r) m → Stays m r
named_stays m r w = go (r == 0) refl (nat_lt r 32) refl
  where
    go : (z : Bool) → (r == 0) ≡ z → (t : Bool) → nat_lt r 32 ≡ t → Stays m r
    go true e t b = inl (eqb-true r 0 e)
    go false e false b = inr (inl (ltb-false r 32 b))
    go false e true b =
        let l = ltb-true r 32 b in
        inr (inr (w r l (ap (λ t. is_live (if t then 0 else 1 * 2 ^ r % 2 ^ 32) r) e ∙ ap (λ n. n == 1) (bit_at_set_same w32 0 r l))))

-- ---- lists that are the same but for what is cleared

twins : (a b : List ℕ) (k v : ℕ) → length a ≡ length b → slice_index (slice_set a k v) k ≡ slice_index (slice_set b k v) k
twins [] [] k v e = refl
twins [] (y ∷ b) k v e = absurd (omega (arith, e))
twins (x ∷ a) [] k v e = absurd (omega (arith, e))
twins (x ∷ a) (y ∷ b) zero v e = refl
twins (x ∷ a) (y ∷ b) (suc k) v e = twins a b k v (omega (arith, e))

-- from register n on, those that will be cleared may differ
abbrev Alike : ℕ → ℕ → List ℕ → List ℕ → Type 0
Alike m n a b = (r : ℕ) → (slice_index a r ≡ slice_index b r) ⊎ ((n ≤ r) × (r < 32) × (r ≢ 0) × (is_live m r ≡ false))

module _ (m : ℕ) (a b : List ℕ) (size : length a ≡ length b) where
  abbrev x : ℕ → List ℕ
  x n = cleared m n a

  abbrev y : ℕ → List ℕ
  y n = cleared m n b

  sizes : (n : ℕ) → length (x n) ≡ length (y n)
  sizes n = length_cleared m n a ∙ (size ∙ sym (length_cleared m n b))

  one_more : (n : ℕ) → Alike m n (x n) (y n) → (z : Bool) → (n == 0) ≡ z → (t : Bool) → is_live m n ≡ t → Alike m (suc n) (if t then x n else if z then x n else slice_set (x n) n 0) (if t then y n else if z then y n else slice_set (y n) n 0)
  one_more n same z e t d r = go (r == n) refl (same r) z e t d
    where
      go : (q : Bool) → (r == n) ≡ q → (slice_index (x n) r ≡ slice_index (y n) r) ⊎ ((n ≤ r) × (r < 32) × (r ≢ 0) × (is_live m r ≡ false)) → (z : Bool) → (n == 0) ≡ z → (t : Bool) → is_live m n ≡ t → (slice_index (if t then x n else if z then x n else slice_set (x n) n 0) r ≡ slice_index (if t then y n else if z then y n else slice_set (y n) n 0) r) ⊎ ((suc n ≤ r) × (r < 32) × (r ≢ 0) × (is_live m r ≡ false))
      go true q (inl s) z e true d = inl s
      go true q (inl s) true e false d = inl s
      go true q s false e false d = inl (subst (λ k. slice_index (slice_set (x n) n 0) k ≡ slice_index (slice_set (y n) n 0) k) (sym (eqb-true r n q)) (twins (x n) (y n) n 0 (sizes n)))
      go true q (inr s) z e true d = absurd (false≢true (sym s.3 ∙ subst (λ k. is_live m k ≡ true) (sym (eqb-true r n q)) d))
      go true q (inr s) true e false d = absurd (s.2 (eqb-true r n q ∙ eqb-true n 0 e))
      go false q (inl s) z e true d = inl s
      go false q (inl s) true e false d = inl s
      go false q (inl s) false e false d = inl (get_or-set_other (x n) n r 0 0 (apart r n q) ∙ (s ∙ sym (get_or-set_other (y n) n r 0 0 (apart r n q))))
      go false q (inr s) z e t d = inr (above (apart r n q) s.0, s.1, s.2, s.3)
        where
          above : r ≢ n → n ≤ r → suc n ≤ r
          above u v = omega (arith, u, v)

  alike_at : Alike m 0 a b → (n : ℕ) → Alike m n (x n) (y n)
  unfolding cleared
  alike_at same zero = same
  alike_at same (suc n) = one_more n (alike_at same n) (n == 0) refl (is_live m n) refl

  pub alone_same : Alike m 0 a b → live_alone m a ≡ live_alone m b
  alone_same same = ext_get_or 0 (x 32) (y 32) (sizes 32) (λ r l. go r (alike_at same 32 r))
    where
      go : (r : ℕ) → (slice_index (x 32) r ≡ slice_index (y 32) r) ⊎ ((32 ≤ r) × (r < 32) × (r ≢ 0) × (is_live m r ≡ false)) → slice_index (x 32) r ≡ slice_index (y 32) r
      go r (inl s) = s
      go r (inr s) = let u = s.0 in let v = s.1 in absurd (omega (arith, u, v))

-- ---- behind a write

agree_write : (a b : List ℕ) (w : Option (ℕ × ℕ)) (r : ℕ) → length a ≡ length b → slice_index a 0 ≡ slice_index b 0 → (IsNot w r → slice_index a r ≡ slice_index b r) → slice_index (after_write a w) r ≡ slice_index (after_write b w) r
agree_write a b None r size start same = same tt
agree_write a b (Some w) r size start same = go (w.0 == 0) refl (r == w.0) refl
  where
    go : (z : Bool) → (w.0 == 0) ≡ z → (q : Bool) → (r == w.0) ≡ q → slice_index (if w.0 == 0 then a else slice_set a w.0 w.1) r ≡ slice_index (if w.0 == 0 then b else slice_set b w.0 w.1) r
    go z e q f = ap (λ t. slice_index (if t then a else slice_set a w.0 w.1) r) e ∙ (by z e q f ∙ sym (ap (λ t. slice_index (if t then b else slice_set b w.0 w.1) r) e))
      where
        by : (z : Bool) → (w.0 == 0) ≡ z → (q : Bool) → (r == w.0) ≡ q → slice_index (if z then a else slice_set a w.0 w.1) r ≡ slice_index (if z then b else slice_set b w.0 w.1) r
        by true e true f = subst (λ k. slice_index a k ≡ slice_index b k) (sym (eqb-true r w.0 f ∙ eqb-true w.0 0 e)) start
        by true e false f = same (apart r w.0 f)
        by false e true f = subst (λ k. slice_index (slice_set a w.0 w.1) k ≡ slice_index (slice_set b w.0 w.1) k) (sym (eqb-true r w.0 f)) (twins a b w.0 w.1 size)
        by false e false f = get_or-set_other a w.0 r w.1 0 (apart r w.0 f) ∙ (same (apart r w.0 f) ∙ sym (get_or-set_other b w.0 r w.1 0 (apart r w.0 f)))

length_write : (a : List ℕ) (w : Option (ℕ × ℕ)) → length (after_write a w) ≡ length a
length_write a None = refl
length_write a (Some w) = length_register a w.0 w.1

-- what is live before a write, and isn't written, is enough for what is live behind it
pub alone_behind : (m n : ℕ) (x : List ℕ) (w : Option (ℕ × ℕ)) → ((r : ℕ) → r < 32 → r ≢ 0 → is_live n r ≡ true → IsNot w r → is_live m r ≡ true) → live_alone n (after_write (live_alone m x) w) ≡ live_alone n (after_write x w)
alone_behind m n x w closed =
    let a = live_alone m x in
    alone_same n (after_write a w) (after_write x w) (length_write a w ∙ (length_alone m x ∙ sym (length_write x w))) (λ r. go r (r == 0) refl (nat_lt r 32) refl (is_live n r) refl)
  where
    by : (r : ℕ) → (IsNot w r → Stays m r) → slice_index (after_write (live_alone m x) w) r ≡ slice_index (after_write x w) r
    by r s = agree_write (live_alone m x) x w r (length_alone m x) (stays m x 0 (inl refl)) (λ d. stays m x r (s d))

    go : (r : ℕ) → (z : Bool) → (r == 0) ≡ z → (t : Bool) → nat_lt r 32 ≡ t → (u : Bool) → is_live n r ≡ u → (slice_index (after_write (live_alone m x) w) r ≡ slice_index (after_write x w) r) ⊎ ((0 ≤ r) × (r < 32) × (r ≢ 0) × (is_live n r ≡ false))
    go r true e t b u d = inl (by r (λ k. inl (eqb-true r 0 e)))
    go r false e false b u d = inl (by r (λ k. inr (inl (ltb-false r 32 b))))
    go r false e true b false d = inr (omega arith, ltb-true r 32 b, apart r 0 e, d)
    go r false e true b true d = inl (by r (λ k. inr (inr (closed r (ltb-true r 32 b) (apart r 0 e) d k))))

pub alone_again : (m : ℕ) (x : List ℕ) → live_alone m (live_alone m x) ≡ live_alone m x
alone_again m x = alone_behind m m x None (λ r l z e d. e)
