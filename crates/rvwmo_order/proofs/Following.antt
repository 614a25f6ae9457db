-- What stands behind an operation in an order.
use Rattle.std.proofs.Common.{◌≡◌, ℕ, suc, ◌+◌, ◌-◌, ◌≤◌, List, [], ◌∷◌, Bool, true, false, Some, refl, cond, sym, ap, ◌∙◌, arith, length, take, drop}
use Rattle.std.proofs.lemmas.List.{drop_all, length-drop, take_all}
use Rattle.memory_model.specs.declared.operation.Operation.{Operation}
use Rattle.memory_model.specs.Legal.{behind}
use Rattle.memory_model.specs.Operations.{same}
use Rattle.memory_model.specs.Order.{position_in}
use Rattle.memory_model.proofs.Forms.{place_head, place_tail}

behind_placed : (order : List Operation) (a : Operation) → behind (Some a) order ≡ drop (position_in order a + 1) order
behind_placed [] a = refl
behind_placed (t ∷ rest) a = go (same a t) refl (behind_placed rest a)
  where
    go : (c : Bool) → same a t ≡ c → behind (Some a) rest ≡ drop (position_in rest a + 1) rest → cond c rest (behind (Some a) rest) ≡ drop (position_in (t ∷ rest) a + 1) (t ∷ rest)
    go true e ih = rw (place_head a t rest e) refl
    go false e ih = let n : 1 + position_in rest a + 1 ≡ suc (position_in rest a + 1) = omega arith in rw (place_tail a t rest e) (ih ∙ ap (λ (n : ℕ). drop n (t ∷ rest)) (sym n))

pub behind_position : (order : List Operation) (a : Operation) (position : ℕ) → position ≡ position_in order a → drop (position + 1) order ≡ behind (Some a) order
behind_position order a position e = sym (behind_placed order a ∙ ap (λ (n : ℕ). drop (n + 1) order) (sym e))

pub behind_cut : (order xs : List Operation) (a : Operation) (position : ℕ) → xs ≡ order → position ≡ position_in order a → take (length xs - (position + 1)) (drop (position + 1) xs) ≡ behind (Some a) order
behind_cut order xs a position e f = take_all (length xs - (position + 1)) (drop (position + 1) xs) (let h = length-drop (position + 1) xs in omega (arith, h)) ∙ (ap (drop (position + 1)) e ∙ behind_position order a position f)

pub nothing_behind : (order : List Operation) (a : Operation) (position : ℕ) → position ≡ position_in order a → length order ≤ position → [] ≡ behind (Some a) order
nothing_behind order a position e h = sym (drop_all (position + 1) order (omega (arith, h))) ∙ behind_position order a position e
