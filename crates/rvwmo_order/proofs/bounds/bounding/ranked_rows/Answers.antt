use Rattle.std.proofs.Common.{◌∙◌, ap, arith, get_or, length, List, ℕ}
use Rattle.std.proofs.lemmas.Result.{IfOk-weaker}
use Rattle.rvwmo_order.proofs.Ranked.{ranked}
use Rattle.rvwmo_order.proofs.bounds.bounding.ranked_rows.Goals as goal

pub returns : goal.returns
returns c =
    let counted = ap length c.order.ensures.order in
    IfOk-weaker c.rows_of.result _ _ (λ rows h. ranked c.args.model c.args.harts.now c.args.ranking.now _ rows.items (λ k l. ap (λ (xs : List ℕ). get_or xs k 0) c.deref.ensures.value ∙ c.in_ok-ranks.ensures k (omega (arith, l, counted))) h) c.rows_of.ensures
