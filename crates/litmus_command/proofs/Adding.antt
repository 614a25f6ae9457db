-- A state is added to others.
use Rattle.std.proofs.Common.{◌≡◌, ℕ, List, [], ◌∷◌, ◌++◌}
use Rattle.std.specs.Global.{Vec}
use Rattle.std.proofs.lemmas.List.{map-append}
use Rattle.litmus_command.specs.States.{plain}

pub pushed : (rows : List (Vec ℕ)) (row : Vec ℕ) → plain (rows ++ (row ∷ [])) ≡ plain rows ++ (row.items ∷ [])
pushed rows row = map-append (λ (row : Vec ℕ). row.items) rows (row ∷ [])
