-- The first name that lies in several bytes.
use Rattle.std.proofs.Common.{◌≡◌, ℕ, zero, suc, ◌+◌, ◌-◌, ◌%◌, ◌^◌, ◌<◌, List, Option, Some, None, arith, ap, refl, sym}
use Rattle.elf_symbols.specs.Lookups.{Near}
use Rattle.elf_symbols.specs.Named.{Named}
use Rattle.run_chart.specs.Names.{first_in, name_at, or_later}

-- no name lies at the first byte
pub passed : (names : List Named) (a n : ℕ) → 0 < n → name_at names a ≡ None → first_in names ((a + 1) % 2 ^ 32) (n - 1) ≡ first_in names a n
unfolding first_in
passed names a zero some none = absurd (omega (arith, some))
passed names a (suc n) some none =
    let e : suc n - 1 ≡ n = omega arith in rw e (sym (ap (λ (o : Option Near). or_later o (first_in names ((a + 1) % 2 ^ 32) n)) none))

-- one lies there
pub met : (names : List Named) (a n : ℕ) (near : Near) → 0 < n → name_at names a ≡ Some near → first_in names a n ≡ Some near
unfolding first_in
met names a zero near some is = absurd (omega (arith, some))
met names a (suc n) near some is = ap (λ (o : Option Near). or_later o (first_in names ((a + 1) % 2 ^ 32) n)) is

pub ended : (names : List Named) (a n : ℕ) → n ≡ 0 → first_in names a n ≡ None
unfolding first_in
ended names a zero none = refl
ended names a (suc n) none = absurd (omega (arith, none))
