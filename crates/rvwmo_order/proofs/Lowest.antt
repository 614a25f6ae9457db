-- The least places, found by one walk back along an order, and what they tell of the operations behind another.
use Rattle.std.proofs.Common.{◌≡◌, ℕ, ◌≤◌, List, Bool, true, false, Some, refl, sym, ap, ◌∙◌, ◌&&◌, arith}
use Rattle.std.specs.Prelude.{nat_eq, nat_lt, slice_get, slice_index_or}
use Rattle.std.proofs.lemmas.Bool.{and_right, eqb-true, le-ltb}
use Rattle.memory_model.specs.declared.operation.Operation.{Operation}
use Rattle.memory_model.specs.Operations.{precedes}
use Rattle.rvwmo_order.specs.Lows.{AreLows}

-- of the operations from a place on, by hart and for each of them
pub record AreLowsFrom (order : List Operation) (left : ℕ) (least lows : List ℕ) : Type 0 where
  pub by_hart : (k : ℕ) (a : Operation) → slice_get order k ≡ Some a → left ≤ k → slice_index_or least a.hart 0 ≤ a.place
  pub each : (p k : ℕ) (b a : Operation) → slice_get order p ≡ Some b → slice_get order k ≡ Some a → left ≤ p → p ≤ k → a.hart ≡ b.hart → slice_index_or lows p 0 ≤ a.place

-- ---- what a place tells

-- from an operation of b's hart on whose low isn't less than b's place, none precedes b
pub none_behind : (order : List Operation) (lows : List ℕ) (q : ℕ) (c b : Operation) → AreLows order lows → slice_get order q ≡ Some c → c.hart ≡ b.hart → b.place ≤ slice_index_or lows q 0
    → (k : ℕ) (a : Operation) → q ≤ k → slice_get order k ≡ Some a → precedes a b ≡ false
none_behind order lows q c b are there of_hart high k a l e = go (nat_eq a.hart b.hart) refl
  where
    go : (h : Bool) → nat_eq a.hart b.hart ≡ h → precedes a b ≡ false
    go true f =
        let below = are.each q k c a there e l (eqb-true a.hart b.hart f ∙ sym of_hart) in
        and_right (nat_eq a.hart b.hart) (nat_lt a.place b.place) (le-ltb a.place b.place (omega (arith, below, high)))
    go false f = ap (λ (h : Bool). h && nat_lt a.place b.place) f
