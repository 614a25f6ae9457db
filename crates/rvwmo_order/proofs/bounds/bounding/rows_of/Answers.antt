use Rattle.std.proofs.Common.{◌∙◌, List, ap, length, subst, sym}
use Rattle.std.proofs.lemmas.List.{take_at}
use Rattle.rvwmo_order.specs.Bounds.{BoundsEach}
use Rattle.rvwmo_order.specs.declared.bounds.rows.Row.{Row}
use Rattle.rvwmo_order.proofs.bounds.bounding.rows_of.Goals as goal

pub loop-hart-preserved : goal.loop-hart-preserved
loop-hart-preserved c =
    subst (λ (rows : List Row). BoundsEach c.args.model c.args.harts.now c.args.ranking.now c.args.weights.now rows)
    (sym (take_at c.bound_hart.new.rows _ c.loop-hart.rows.len (c.bound_hart.auto.rows ∙ (ap length c.deref_mut.ensures.value ∙ sym c.loop-hart.rows.ok.0)))) c.in_ok-bound_hart.ensures
