-- Nothing asked for is nothing shown.
use Rattle.std.proofs.Common.{ℕ, ◌≡◌, ◌==◌, List, [], ◌∷◌, arith, length, map, refl, true}
use Rattle.std.proofs.lemmas.Bool.{eqb-true}

pub none_mapped : (f : ℕ → ℕ) (addresses : List ℕ) → (length addresses == 0) ≡ true → map f addresses ≡ []
none_mapped f [] is = refl
none_mapped f (address ∷ rest) is = let bad = eqb-true (length (address ∷ rest)) 0 is in absurd (omega (arith, bad))
