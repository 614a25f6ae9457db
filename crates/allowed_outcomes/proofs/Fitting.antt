-- A line that doesn't begin with what a pattern stands for.
use Rattle.std.proofs.Common.{◌≡◌, ℕ, List, [], ◌∷◌, None, refl}
use Rattle.allowed_outcomes.specs.Patterns.{left_behind}

pub nothing_left : (pattern : List ℕ) → left_behind pattern None ≡ None
nothing_left [] = refl
nothing_left (byte ∷ bytes) = nothing_left bytes
