-- What is still to come of an order that is gone through for a pair of an LR and an SC.
use Rattle.std.proofs.Common.{ℕ, List, Bool, ◌&&◌, ◌||◌, not, nat_eq}
use Rattle.std.specs.List.{list_all, list_any}
use Rattle.memory_model.specs.declared.operation.Operation.{Operation}
use Rattle.memory_model.specs.Operations.{same, stores_to}
use Rattle.memory_model.specs.Legal.{up_to}

-- w stands in the rest of an order, and no other hart's store to x stands before it
abbrev pub is_reached : Operation → ℕ → List Operation → Bool
is_reached w x rest = list_any (same w) rest && list_all (λ t. nat_eq t.hart w.hart || not (stores_to x t)) (up_to w rest)
