-- What is still to come of the stores that a load may return, while an order is gone through; and one step of it. The loop's answers cite the steps, since to search for them at the loop takes seconds each.
use Rattle.std.proofs.Common.{◌≡◌, ◌-◌, ◌≤◌, ◌&&◌, ℕ, Bool, true, false, List, ◌∷◌, Option, Some, length, drop, take, get_or, cond, sym, ap, ◌∙◌, refl}
use Rattle.std.specs.List.{filter, last_or}
use Rattle.memory_model.specs.declared.operation.Operation.{Operation}
use Rattle.memory_model.specs.Operations.{precedes, same, stores_to}
use Rattle.memory_model.specs.Order.{candidates}
use Rattle.trace_operations.proofs.Steps.{rest_next}

-- before the load's own place, and behind it
abbrev pub to_see : Bool → Operation → ℕ → List Operation → List Operation
to_see false load x rest = candidates rest load x
to_see true load x rest = filter (λ t. stores_to x t && precedes t load) rest

-- ---- where an order goes on behind its first

pub source_own : (load : Operation) (x : ℕ) (behind alike : Bool) (last : Option Operation) (rest : List Operation) (d : Operation) → 1 ≤ length rest → behind ≡ false → alike ≡ same (get_or rest 0 d) load → alike ≡ true
    → last_or last (to_see behind load x rest) ≡ last_or last (to_see true load x (take (length rest - 1) (drop 1 rest)))
source_own load x behind alike last rest d h b e f =
    rest_next (λ r. last_or last (to_see behind load x r)) (λ r. last_or last (to_see true load x r)) rest d h
    (λ r. ap (λ (c : Bool). last_or last (to_see c load x (get_or rest 0 d ∷ r))) b ∙ ap (λ (c : Bool). last_or last (cond c (filter (λ t. stores_to x t && precedes t load) r) (cond (stores_to x (get_or rest 0 d)) (get_or rest 0 d ∷ candidates r load x) (candidates r load x)))) (sym e ∙ f))

-- the first is a store that the load may see
pub source_taken : (load : Operation) (x : ℕ) (behind : Bool) (last : Option Operation) (rest : List Operation) (d : Operation) → 1 ≤ length rest → (behind ≡ false → same (get_or rest 0 d) load ≡ false) → stores_to x (get_or rest 0 d) ≡ true → (behind ≡ true → precedes (get_or rest 0 d) load ≡ true)
    → last_or last (to_see behind load x rest) ≡ last_or (Some (get_or rest 0 d)) (to_see behind load x (take (length rest - 1) (drop 1 rest)))
source_taken load x behind last rest d h own stored seen = rest_next (λ r. last_or last (to_see behind load x r)) (λ r. last_or (Some (get_or rest 0 d)) (to_see behind load x r)) rest d h (go behind own seen)
  where
    go : (b : Bool) → (b ≡ false → same (get_or rest 0 d) load ≡ false) → (b ≡ true → precedes (get_or rest 0 d) load ≡ true) → (r : List Operation) → last_or last (to_see b load x (get_or rest 0 d ∷ r)) ≡ last_or (Some (get_or rest 0 d)) (to_see b load x r)
    go true own seen r = rw (stored, seen refl) refl
    go false own seen r = rw (own refl, stored) refl

-- the first is none
pub source_passed : (load : Operation) (x : ℕ) (behind : Bool) (last : Option Operation) (rest : List Operation) (d : Operation) → 1 ≤ length rest → (behind ≡ false → same (get_or rest 0 d) load ≡ false) → (behind ≡ false → stores_to x (get_or rest 0 d) ≡ false) → (stores_to x (get_or rest 0 d) && precedes (get_or rest 0 d) load) ≡ false
    → last_or last (to_see behind load x rest) ≡ last_or last (to_see behind load x (take (length rest - 1) (drop 1 rest)))
source_passed load x behind last rest d h own none unseen = rest_next (λ r. last_or last (to_see behind load x r)) (λ r. last_or last (to_see behind load x r)) rest d h (go behind own none)
  where
    go : (b : Bool) → (b ≡ false → same (get_or rest 0 d) load ≡ false) → (b ≡ false → stores_to x (get_or rest 0 d) ≡ false) → (r : List Operation) → last_or last (to_see b load x (get_or rest 0 d ∷ r)) ≡ last_or last (to_see b load x r)
    go true own none r = rw unseen refl
    go false own none r = rw (own refl, none refl) refl
