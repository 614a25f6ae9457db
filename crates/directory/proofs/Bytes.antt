-- Facts on the ones of a byte that are computed for each of the 256 bytes.
use Rattle.std.proofs.Common.{◌≡◌, ◌≢◌, ℕ, zero, suc, ◌<◌, ◌^◌, Bool, true, false, ◌&&◌, nat_eq, [], refl, sym, ap, ◌∙◌, arith, inl, inr, ◌⊎◌}
use Rattle.std.proofs.lemmas.Bool.{eqb-true, cases_eq}
use Rattle.directory.specs.Harts.{harts_below, members, bits_of}

abbrev all_below : (ℕ → Bool) → ℕ → Bool
all_below p zero = true
all_below p (suc n) = p n && all_below p n

both : (a b : Bool) → (a && b) ≡ true → (a ≡ true) × (b ≡ true)
both true b e = (refl, e)
both false b e = cc

all_below-at : (p : ℕ → Bool) (n k : ℕ) → all_below p n ≡ true → k < n → p k ≡ true
all_below-at p zero k e l = absurd (omega arith)
all_below-at p (suc n) k e l = go (both (p n) (all_below p n) e) (cases_eq k n) (all_below-at p n k)
  where
    go : (p n ≡ true) × (all_below p n ≡ true) → (k ≡ n) ⊎ (k ≢ n) → (all_below p n ≡ true → k < n → p k ≡ true) → p k ≡ true
    go known (inl same) rest = rw same known.0
    go known (inr other) rest = rest known.1 (omega arith)

-- the list of a byte's ones gives the byte back
pub bits_of-members : (bits : ℕ) → bits < 2 ^ 8 → bits_of (members bits) ≡ bits
unfolding members bits_of harts_below
bits_of-members bits l = eqb-true _ _ (all_below-at (λ b. nat_eq (bits_of (members b)) b) 256 bits refl l)

pub members-none : members 0 ≡ []
unfolding members harts_below
members-none = refl

pub bits_of-none : bits_of [] ≡ 0
unfolding bits_of
bits_of-none = refl

pub none_of_members : (bits : ℕ) → bits < 2 ^ 8 → members bits ≡ [] → bits ≡ 0
none_of_members bits l none = sym (bits_of-members bits l) ∙ ap bits_of none ∙ bits_of-none
