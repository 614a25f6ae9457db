-- An operation of an order by its place and its rank.
use Rattle.std.proofs.Common.{◌≡◌, ℕ, zero, suc, ◌+◌, ◌-◌, ◌<◌, ◌≤◌, List, [], ◌∷◌, Bool, false, Option, Some, None, cond, sym, ap, ◌∙◌, inl, inr, ⊎_elim, arith, length}
use Rattle.std.specs.Prelude.{slice_get}
use Rattle.std.proofs.lemmas.Bool.{cases_eq, ne_eqb}
use Rattle.std.proofs.lemmas.Option.{none-some, same_Some}
use Rattle.memory_model.specs.declared.operation.Operation.{Operation}
use Rattle.memory_model.specs.Operations.{same}
use Rattle.memory_model.specs.Order.{position_in}
use Rattle.memory_model.proofs.Forms.{place_head, place_tail, same-self, same-swap}
use Rattle.memory_model.proofs.Lists.{Member, Each-at}
use Rattle.rvwmo_order.specs.Ranks.{AreDistinctOperations, HasRank, rank_of, ranked}

-- ---- places

pub member_at : (order : List Operation) (k : ℕ) (a : Operation) → slice_get order k ≡ Some a → Member a order
member_at [] k a e = absurd (none-some a e)
member_at (x ∷ xs) zero a e = inl (sym (same_Some x a e))
member_at (x ∷ xs) (suc k) a e = inr (member_at xs k a e)

pub position_at : (order : List Operation) (k : ℕ) (a : Operation) → AreDistinctOperations order → slice_get order k ≡ Some a → position_in order a ≡ k
position_at [] k a d e = absurd (member_at [] k a e)
position_at (x ∷ xs) zero a d e = place_head a x xs (ap (same a) (same_Some x a e) ∙ same-self a)
position_at (x ∷ xs) (suc k) a d e =
    let other : same a x ≡ false = same-swap x a (Each-at (λ (c : Operation). same x c ≡ false) a xs d.0 (member_at xs k a e)) in
    let place = place_tail a x xs other in
    let ih = position_at xs k a d.1 e in
    omega (arith, place, ih)

-- ---- ranks

pub ranked_at : (order : List Operation) (rank p : ℕ) → rank ≡ p + 1 → ranked order rank ≡ slice_get order p
ranked_at order rank p e =
    let place : rank - 1 ≡ p = omega (arith, e) in
    ap (λ (b : Bool). cond b None (slice_get order (rank - 1))) (ne_eqb rank 0 (λ f. omega (arith, e, f))) ∙ ap (slice_get order) place

pub place_ranked : (order : List Operation) (rank : ℕ) (s : Operation) → AreDistinctOperations order → ranked order rank ≡ Some s → rank ≡ position_in order s + 1
place_ranked order rank s d e = ⊎_elim none some (cases_eq rank 0)
  where
    none : rank ≡ 0 → rank ≡ position_in order s + 1
    none z = absurd (none-some s (ap (ranked order) (sym z) ∙ e))

    some : (rank ≡ 0 → ⊥) → rank ≡ position_in order s + 1
    some ne =
        let more : rank ≡ rank - 1 + 1 = omega arith in
        let place = position_at order (rank - 1) s d (sym (ranked_at order rank (rank - 1) more) ∙ e) in
        omega (arith, place, more)

past_end : (order : List Operation) (p : ℕ) → slice_get order p ≡ None → length order ≤ p
past_end [] p e = omega arith
past_end (a ∷ rest) zero e = absurd (none-some a (sym e))
past_end (a ∷ rest) (suc p) e = let l = past_end rest p e in omega (arith, l)

pub rank_known : (order : List Operation) (o : Option Operation) (rank : ℕ) → HasRank order o rank → AreDistinctOperations order → rank ≡ rank_of order o
rank_known order None rank h d = ⊎_elim (λ e. e) some (cases_eq rank 0)
  where
    some : (rank ≡ 0 → ⊥) → rank ≡ 0
    some ne =
        let more : rank ≡ rank - 1 + 1 = omega arith in
        let l = past_end order (rank - 1) (sym (ranked_at order rank (rank - 1) more) ∙ h.there) in
        let k = h.within in
        absurd (omega (arith, l, k, more))
rank_known order (Some s) rank h d = place_ranked order rank s d h.there
