-- An operation of an order by its rank: its weight and row.
use Rattle.std.proofs.Common.{◌≡◌, ℕ, ◌+◌, ◌-◌, ◌<◌, ◌≤◌, List, true, Some, ap, sym, ◌∙◌, ◌||◌, ⊎_elim, max, arith}
use Rattle.std.specs.Prelude.{slice_index_or}
use Rattle.std.proofs.lemmas.Bool.{cases_eq}
use Rattle.memory_model.specs.declared.operation.Operation.{Operation}
use Rattle.memory_model.specs.Operations.{is_amo, is_sc}
use Rattle.memory_model.specs.Order.{position_in, source}
use Rattle.rvwmo_order.specs.Ranks.{AreDistinctOperations, HasRank, rank_of, ranked}
use Rattle.rvwmo_order.proofs.Ranks.{place_ranked}
use Rattle.rvwmo_order.specs.Bounds.{IsSource, unbounded, weight_of}
use Rattle.rvwmo_order.specs.Touched.{but}
use Rattle.rvwmo_order.specs.declared.bounds.rows.Row.{Row}
use Rattle.rvwmo_order.specs.declared.bounds.touched.Touch.{Touch}

-- ---- weights and rows

pub weight_ranked : (order : List Operation) (weights : List ℕ) (rank : ℕ) (s : Operation) → AreDistinctOperations order → ranked order rank ≡ Some s → weight_of weights order s ≡ slice_index_or weights (rank - 1) 0
weight_ranked order weights rank s d e = let place = place_ranked order rank s d e in ap (λ (n : ℕ). slice_index_or weights n 0) (omega (arith, place))

pub row_ranked : (order : List Operation) (rows : List Row) (rank : ℕ) (s : Operation) → AreDistinctOperations order → ranked order rank ≡ Some s → slice_index_or rows (position_in order s) unbounded ≡ slice_index_or rows (rank - 1) unbounded
row_ranked order rows rank s d e = let place = place_ranked order rank s d e in ap (λ (n : ℕ). slice_index_or rows n unbounded) (omega (arith, place))

-- ---- a byte more of a load, with the rank of its source

pub loads_next : (order : List Operation) (b : Operation) (t : ℕ → Touch) (low x rank before now : ℕ) → rank ≡ rank_of order (source order b x) → before ≤ now → but rank (t x) ≤ now
    → ((q : ℕ) → low ≤ q → q < x → but (rank_of order (source order b q)) (t q) ≤ before) → (q : ℕ) → low ≤ q → q < x + 1 → but (rank_of order (source order b q)) (t q) ≤ now
loads_next order b t low x rank before now is more own inv q l m = ⊎_elim here other (cases_eq q x)
  where
    here : q ≡ x → but (rank_of order (source order b q)) (t q) ≤ now
    here e =
        let it = ap (λ (n : ℕ). but (rank_of order (source order b n)) (t n)) e in
        let of_rank = ap (λ (n : ℕ). but n (t x)) is in
        omega (arith, it, of_rank, own)

    other : (q ≡ x → ⊥) → but (rank_of order (source order b q)) (t q) ≤ now
    other apart = let before_it = inv q l (omega (arith, m, apart)) in omega (arith, before_it, more)

-- what is known of the own source of a byte
source_ranked : (order : List Operation) (b : Operation) (x q rank : ℕ) (s : Operation) → HasRank order (source order b x) rank → q ≡ x → IsSource order b q s → ranked order rank ≡ Some s
source_ranked order b x q rank s h e i = h.there ∙ (ap (source order b) (sym e) ∙ i.stored)

pub atomics_next : (order : List Operation) (weights : List ℕ) (b : Operation) (x rank before bound now : ℕ) → AreDistinctOperations order → HasRank order (source order b x) rank
    → ((s : Operation) → ranked order rank ≡ Some s → s.hart ≡ b.hart → (is_amo s.kind || is_sc s.kind) ≡ true → slice_index_or weights (rank - 1) 0 ≤ bound) → before ≤ now → bound ≤ now
    → ((q : ℕ) → q < x → (s : Operation) → IsSource order b q s → (is_amo s.kind || is_sc s.kind) ≡ true → weight_of weights order s ≤ before) → (q : ℕ) → q < x + 1 → (s : Operation) → IsSource order b q s → (is_amo s.kind || is_sc s.kind) ≡ true → weight_of weights order s ≤ now
atomics_next order weights b x rank before bound now d h own more less inv q m s i k = ⊎_elim here other (cases_eq q x)
  where
    here : q ≡ x → weight_of weights order s ≤ now
    here e =
        let it = source_ranked order b x q rank s h e i in
        let at_most = own s it i.own k in
        let weighs = weight_ranked order weights rank s d it in
        omega (arith, at_most, weighs, less)

    other : (q ≡ x → ⊥) → weight_of weights order s ≤ now
    other apart = let before_it = inv q (omega (arith, m, apart)) s i k in omega (arith, before_it, more)

-- what came into a store, by its row
abbrev pub into : List Row → ℕ → ℕ
into rows place = max (slice_index_or rows place unbounded).address (slice_index_or rows place unbounded).data_stored

pub passed_next : (order : List Operation) (rows : List Row) (b : Operation) (x rank before bound now : ℕ) → AreDistinctOperations order → HasRank order (source order b x) rank
    → ((s : Operation) → ranked order rank ≡ Some s → s.hart ≡ b.hart → into rows (rank - 1) ≤ bound) → before ≤ now → bound ≤ now
    → ((q : ℕ) → q < x → (s : Operation) → IsSource order b q s → into rows (position_in order s) ≤ before) → (q : ℕ) → q < x + 1 → (s : Operation) → IsSource order b q s → into rows (position_in order s) ≤ now
passed_next order rows b x rank before bound now d h own more less inv q m s i = ⊎_elim here other (cases_eq q x)
  where
    here : q ≡ x → into rows (position_in order s) ≤ now
    here e =
        let it = source_ranked order b x q rank s h e i in
        let at_most = own s it i.own in
        let row = ap (λ (y : Row). max y.address y.data_stored) (row_ranked order rows rank s d it) in
        omega (arith, at_most, row, less)

    other : (q ≡ x → ⊥) → into rows (position_in order s) ≤ now
    other apart = let before_it = inv q (omega (arith, m, apart)) s i in omega (arith, before_it, more)
