-- Where a text is cut, and how long it is then.
use Rattle.std.proofs.Common.{◌≡◌, ℕ, zero, suc, ◌-◌, ◌<◌, ◌≤◌, Bool, true, false, List, ◌++◌, length, take, leb, leb-true, cond, arith, refl, ap, sym}
use Rattle.std.proofs.lemmas.List.{length-append, length-take}
use Rattle.std.specs.Prelude.{codes, slice_index}
use Rattle.elf_symbols.specs.Short.{goes_on, whole_characters}
use Rattle.run_chart.specs.Fitting.{fitted}

few_first : (b : Bool) (m n : ℕ) → m ≤ n → cond b m (suc n) ≤ suc n
few_first true m n few = omega arith
few_first false m n few = omega arith

few : (text : List ℕ) (n : ℕ) → whole_characters text n ≤ n
unfolding whole_characters
few text zero = omega arith
few text (suc n) = few_first (goes_on (slice_index text (suc n))) (whole_characters text n) n (few text n)

-- a byte that goes on with a character is passed
pub passed : (text : List ℕ) (n : ℕ) → 0 < n → goes_on (slice_index text n) ≡ true → whole_characters text (n - 1) ≡ whole_characters text n
unfolding whole_characters
passed text zero some is = absurd (omega (arith, some))
passed text (suc n) some is = let e : suc n - 1 ≡ n = omega arith in rw e (sym (ap (λ b. cond b (whole_characters text n) (suc n)) is))

-- another is not
pub stood : (text : List ℕ) (n : ℕ) → goes_on (slice_index text n) ≡ false → whole_characters text n ≡ n
unfolding whole_characters
stood text zero is = refl
stood text (suc n) is = ap (λ b. cond b (whole_characters text n) (suc n)) is

pub stood_first : (text : List ℕ) (n : ℕ) → n ≡ 0 → whole_characters text n ≡ n
unfolding whole_characters
stood_first text zero is = refl
stood_first text (suc n) is = absurd (omega (arith, is))

pub length-fitted : (room : ℕ) (text : List ℕ) → 3 ≤ room → length (fitted room text) ≤ room
length-fitted room text some = go (leb (length text) room) refl
  where
    go : (b : Bool) → leb (length text) room ≡ b → length (cond b text (take (whole_characters text (room - 3)) text ++ codes "...")) ≤ room
    go true is = leb-true (length text) room is
    go false is = omega (arith, some, few text (room - 3), length-append (take (whole_characters text (room - 3)) text) (codes "..."), length-take (whole_characters text (room - 3)) text)
