-- The operations that store to each byte.
use Rattle.std.specs.Prelude.{ℕ, ◌≡◌, List, [], Vec, filter, nat_eq}
use Rattle.std.specs.HashMap.{HashMap, get}
use Rattle.std.specs.Option.{option_map_or}
use Rattle.memory_model.specs.Operations.{stores_to}
use Rattle.memory_model.specs.declared.operation.Operation.{Operation}
use Rattle.written_lines.specs.declared.stores.Stores.{Stores}

abbrev pub stored_in : {A S : Type 0} → HashMap ℕ (Vec Operation A) S → ℕ → List Operation
stored_in m x = option_map_or (λ v. v.items) (get nat_eq m x) []

abbrev pub AreStoresOf : Stores → List Operation → Type 0
AreStoresOf stores performed = (x : ℕ) → stored_in stores.by_byte x ≡ filter (stores_to x) performed
