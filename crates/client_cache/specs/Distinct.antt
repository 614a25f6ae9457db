-- No line twice.
use Rattle.std.specs.Prelude.{◌≡◌, ℕ, false, List, [], ◌∷◌, nat_eq}
use Rattle.std.specs.List.{list_any}

abbrev pub IsDistinct : List ℕ → Type 0
IsDistinct [] = Unit {0}
IsDistinct (x ∷ xs) = (list_any (λ y. nat_eq y x) xs ≡ false) × IsDistinct xs
