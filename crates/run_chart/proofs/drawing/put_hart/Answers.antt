use Rattle.std.proofs.Common.{◌≡◌, ◌∙◌, ℕ, List, ◌++◌, ap, subst}
use Rattle.std.specs.Prelude.{OnOk}
use Rattle.elf_symbols.specs.Named.{Named}
use Rattle.tl_types.specs.declared.line.LineSize.{LineSize}
use Rattle.run_chart.specs.declared.plan.Plan.{Plan}
use Rattle.run_chart.specs.Bars.{bottom}
use Rattle.run_chart.specs.Picture.{columns, hart}
use Rattle.run_chart.specs.declared.rows.Row.{Row}
use Rattle.run_chart.proofs.Written.{then_last}
use Rattle.run_chart.proofs.drawing.put_hart.Goals as goal

columns_are : (p : Plan) (named : List Named) (size : LineSize) (h end : ℕ) (rows all : List Row) (names lines : List ℕ) → end ≡ bottom 0 rows → rows ≡ all → names ≡ lines → columns p named size h end rows 0 names ≡ columns p named size h (bottom 0 all) all 0 lines
columns_are p named size h end rows all names lines e f g =
    ap (λ (n : ℕ). columns p named size h n rows 0 names) e
    ∙ ap (λ (r : List Row). columns p named size h (bottom 0 r) r 0 names) f
    ∙ ap (λ (l : List ℕ). columns p named size h (bottom 0 all) all 0 l) g

pub returns : goal.returns
unfolding hart
returns c =
    then_last _ _ _ _ _ _ c.in_ok-put_lanes.ensures
    (subst (λ (t : List ℕ). OnOk c.put_columns.result (c.put_columns.new.svg ≡ c.put_lanes.new.svg ++ t))
    (columns_are c.args.plan.now c.args.names.now.symbols.now c.args.names.now.size c.args.hart c.bottom.result c.as_slice-rows.result.now c.args.story.now.rows.items c.as_slice.result.now c.args.story.now.columns.items c.bottom.ensures c.as_slice-rows.ensures.value c.as_slice.ensures.value)
    c.put_columns.ensures)
