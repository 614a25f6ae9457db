-- Among the operations that store to a byte are all that wrote there.
use Rattle.std.proofs.Common.{ℕ, Bool, true, false, List, [], ◌∷◌, ◌≡◌, ◌∙◌, None, Option, Some, refl, ap, cond, sym}
use Rattle.std.specs.HashMap.{HashMap, get}
use Rattle.std.specs.Option.{option_map_or}
use Rattle.std.specs.Prelude.{◌&&◌, ◌||◌, ◌==◌, Vec, filter, nat_eq}
use Rattle.std.specs.List.{list_any}
use Rattle.memory_model.specs.Operations.{stores_to, written_at}
use Rattle.memory_model.specs.declared.operation.Operation.{Operation}
use Rattle.written_lines.specs.Stores.{stored_in}
use Rattle.written_lines.specs.Written.{wrote}

stores_nothing : (own stores same : Bool) → stores ≡ false → (own && stores && same) ≡ false
stores_nothing true true same is = cc is
stores_nothing true false same is = refl
stores_nothing false stores same is = refl

pub wrote_there : (h x byte : ℕ) (performed : List Operation) → list_any (wrote h x byte) (filter (stores_to x) performed) ≡ list_any (wrote h x byte) performed
wrote_there h x byte [] = refl
wrote_there h x byte (a ∷ rest) = go (stores_to x a) refl (wrote_there h x byte rest)
  where
    go : (stores : Bool) → stores_to x a ≡ stores → list_any (wrote h x byte) (filter (stores_to x) rest) ≡ list_any (wrote h x byte) rest
        → list_any (wrote h x byte) (cond stores (a ∷ filter (stores_to x) rest) (filter (stores_to x) rest)) ≡ (wrote h x byte a || list_any (wrote h x byte) rest)
    go true is so_far = ap (λ b. wrote h x byte a || b) so_far
    go false is so_far = so_far ∙ ap (λ (w : Bool). w || list_any (wrote h x byte) rest) (sym (stores_nothing (a.hart == h) (stores_to x a) (written_at a x == byte) is))

module _ {A S : Type 0} (m : HashMap ℕ (Vec Operation A) S) (h x byte : ℕ) (performed : List Operation) (are : (y : ℕ) → stored_in m y ≡ filter (stores_to y) performed) where
  abbrev Written : List Operation → Bool
  Written operations = list_any (wrote h x byte) operations

  -- some store to the byte
  pub some_wrote : (v : Vec Operation A) (stores : List Operation) (r : Bool) → Some v ≡ get nat_eq m x → stores ≡ v.items → r ≡ Written stores → r ≡ Written performed
  some_wrote v stores r there items found =
      found ∙ ap Written (items ∙ ap (λ (o : Option (Vec Operation A)). option_map_or (λ (w : Vec Operation A). w.items) o []) there ∙ are x) ∙ wrote_there h x byte performed

  -- none does
  pub none_wrote : None ≡ get nat_eq m x → false ≡ Written performed
  none_wrote there = ap (λ (o : Option (Vec Operation A)). Written (option_map_or (λ (w : Vec Operation A). w.items) o [])) there ∙ ap Written (are x) ∙ wrote_there h x byte performed
