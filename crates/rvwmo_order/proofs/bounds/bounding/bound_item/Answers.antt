use Rattle.std.proofs.Common.{◌∙◌, Option, ap, subst, sym}
use Rattle.std.specs.Prelude.{slice_get}
use Rattle.rv32_decode.specs.declared.instruction.Instr.{Instr}
use Rattle.memory_model.specs.Dependencies.{uses_in}
use Rattle.rvwmo_order.specs.Bounds.{IsBoundsRow}
use Rattle.rvwmo_order.proofs.Filled.{filled_put}
use Rattle.rvwmo_order.proofs.bounds.bounding.bound_item.Goals as goal

pub row-row-requires-clause-there : goal.row-row-requires-clause-there
row-row-requires-clause-there c = ap (slice_get c.args.ranking.now) c.position_of-position.ensures ∙ c.requires.whole c.args.hart c.args.item.now.place c.args.item.now c.in-Some.b c.requires.there (sym c.operation.ensures ∙ c.in-Some.is)

pub returns-clause-position : goal.returns-clause-position
returns-clause-position c = λ a e.
    let at = ap (slice_get c.args.ranking.now) c.position_of-position.ensures ∙ c.requires.whole c.args.hart c.args.item.now.place c.args.item.now c.in-Some.b c.requires.there (sym c.operation.ensures ∙ c.in-Some.is) in
    at ∙ (sym (sym c.operation.ensures ∙ c.in-Some.is) ∙ e)

pub returns-clause-bound : goal.returns-clause-bound
returns-clause-bound c =
    filled_put c.args.walk.now.model c.args.harts.now c.args.ranking.now c.args.weights.now c.args.rows.now c.put_row.new.rows c.args.hart c.in-Some.b c.args.walk.now c.row-row.result c.args.item.now c.position_of-position.result c.requires.gives c.requires.bound c.requires.placed c.requires.own c.requires.there
    (sym c.operation.ensures ∙ c.in-Some.is) c.requires.come
    (subst (λ (i : Option Instr). IsBoundsRow c.args.ranking.now c.args.weights.now c.args.rows.now c.in-Some.b (uses_in i) c.args.walk.now c.row-row.result) c.instr.ensures c.row-row.ensures)
    c.position_of-position.ensures c.put_row.ensures
