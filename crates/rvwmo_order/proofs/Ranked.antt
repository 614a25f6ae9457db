-- Where each weight is one more than a place, bounds on weights bound places.
use Rattle.std.proofs.Common.{◌≡◌, ℕ, suc, ◌+◌, ◌<◌, ◌≤◌, List, [], ◌∷◌, Bool, true, false, refl, sym, ap, ◌∙◌, ◌⊎◌, inl, inr, arith, length}
use Rattle.std.specs.Prelude.{slice_index_or}
use Rattle.std.proofs.lemmas.Bool.{true≢false}
use Rattle.machine_types.specs.declared.model.MemoryModel.{MemoryModel}
use Rattle.memory_model.specs.declared.operation.Operation.{Operation}
use Rattle.memory_model.specs.Items.{Item}
use Rattle.memory_model.specs.Operations.{same}
use Rattle.memory_model.specs.Order.{position_in}
use Rattle.memory_model.specs.Rules.{asked_by}
use Rattle.memory_model.proofs.Forms.{place_head, place_tail, same-self}
use Rattle.memory_model.proofs.Lists.{Member, Each-at, Each-from}
use Rattle.rvwmo_order.specs.Bounds.{BoundsEach, RanksEach, bound_of, unbounded, weight_of}
use Rattle.rvwmo_order.specs.Rules.{rule_of}
use Rattle.rvwmo_order.specs.declared.bounds.rows.Row.{Row}

position_within : (order : List Operation) (a : Operation) → Member a order → position_in order a < length order
position_within [] a m = absurd m
position_within (x ∷ rest) a m = go (same a x) refl m (position_within rest a)
  where
    go : (c : Bool) → same a x ≡ c → (a ≡ x) ⊎ Member a rest → (Member a rest → position_in rest a < length rest) → position_in (x ∷ rest) a < suc (length rest)
    go true e m ih = let place = place_head a x rest e in omega (arith, place)
    go false e (inl k) ih = absurd (true≢false (sym (same-self a) ∙ (ap (same a) k ∙ e)))
    go false e (inr k) ih = let place = place_tail a x rest e in let l = ih k in omega (arith, place, l)

pub ranked : (model : MemoryModel) (harts : List (List Item)) (order : List Operation) (weights : List ℕ) (rows : List Row) → ((k : ℕ) → k < length order → slice_index_or weights k 0 ≡ k + 1) → BoundsEach model harts order weights rows → RanksEach model harts order rows
ranked model harts order weights rows w bounds = record {
  each = λ p b e rule.
      Each-from (λ (a : Operation). asked_by model harts order (rule_of rule) a b ≡ true → position_in order a < bound_of rule (slice_index_or rows p unbounded)) order (λ a m t.
      let bound = Each-at (λ (y : Operation). asked_by model harts order (rule_of rule) y b ≡ true → weight_of weights order y ≤ bound_of rule (slice_index_or rows p unbounded)) a order (bounds.each p b e rule) m t in
      let rank = w (position_in order a) (position_within order a m) in
      omega (arith, bound, rank));
}
