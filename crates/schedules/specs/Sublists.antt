-- Lists that have some of another list's elements, in their order.
use Rattle.std.specs.Prelude.{◌≡◌, ◌⊎◌, List, [], ◌∷◌}

-- the list leaves out the other's first element and has some of the rest, or begins with it and has some of the rest behind it
abbrev pub IsSublist : {A : Type 0} → List A → List A → Type 0
IsSublist xs [] = xs ≡ []
IsSublist xs (y ∷ ys) = IsSublist xs ys ⊎ ((rest : _) × (xs ≡ y ∷ rest) × IsSublist rest ys)
