-- How long a name is that is told in part, and where it is cut.
use Rattle.std.proofs.Common.{◌≡◌, ℕ, zero, suc, ◌-◌, ◌<◌, ◌≤◌, Bool, true, false, List, ◌++◌, length, take, leb, leb-true, cond, arith, refl, ap, sym}
use Rattle.std.proofs.lemmas.List.{length-append, length-take}
use Rattle.std.specs.Prelude.{codes, slice_index}
use Rattle.elf_symbols.specs.Short.{goes_on, short_name, whole_characters}

few_first : (b : Bool) (m n : ℕ) → m ≤ n → cond b m (suc n) ≤ suc n
few_first true m n few = omega arith
few_first false m n few = omega arith

pub few : (name : List ℕ) (n : ℕ) → whole_characters name n ≤ n
unfolding whole_characters
few name zero = omega arith
few name (suc n) = few_first (goes_on (slice_index name (suc n))) (whole_characters name n) n (few name n)

-- a byte that goes on with a character is passed
pub passed : (name : List ℕ) (n : ℕ) → 0 < n → goes_on (slice_index name n) ≡ true → whole_characters name (n - 1) ≡ whole_characters name n
unfolding whole_characters
passed name zero some is = absurd (omega (arith, some))
passed name (suc n) some is = let e : suc n - 1 ≡ n = omega arith in rw e (sym (ap (λ b. cond b (whole_characters name n) (suc n)) is))

-- another is not
pub stood : (name : List ℕ) (n : ℕ) → goes_on (slice_index name n) ≡ false → whole_characters name n ≡ n
unfolding whole_characters
stood name zero is = refl
stood name (suc n) is = ap (λ b. cond b (whole_characters name n) (suc n)) is

pub stood_first : (name : List ℕ) (n : ℕ) → n ≡ 0 → whole_characters name n ≡ n
unfolding whole_characters
stood_first name zero is = refl
stood_first name (suc n) is = absurd (omega (arith, is))

pub length-short_name : (name : List ℕ) → length (short_name name) ≤ 56
length-short_name name = go (leb (length name) 56) refl
  where
    go : (b : Bool) → leb (length name) 56 ≡ b → length (cond b name (take (whole_characters name 53) name ++ codes "...")) ≤ 56
    go true is = leb-true (length name) 56 is
    go false is = omega (arith, few name 53, length-append (take (whole_characters name 53) name) (codes "..."), length-take (whole_characters name 53) name)
