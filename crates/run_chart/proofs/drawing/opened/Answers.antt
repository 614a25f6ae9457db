use Rattle.std.proofs.Common.{◌≡◌, ℕ, List, subst}
use Rattle.std.specs.Prelude.{IfOk}
use Rattle.run_chart.specs.Sheet as sheet
use Rattle.run_chart.specs.Picture.{opened}
use Rattle.run_chart.specs.Texts as text
use Rattle.run_chart.proofs.Written.{spelled}
use Rattle.run_chart.proofs.drawing.opened.Goals as goal

pub returns : goal.returns
unfolding opened
returns c =
    subst (λ (t : List ℕ). IfOk c.open.result (λ svg. svg ≡ sheet.opening c.args.plan.now t (text.description c.args.story.now) c.args.style.now))
    (spelled _ _ _ (text.title c.args.story.now.harts) c.as_slice.ensures c.spell_title.ensures c.new-title.ensures)
    (subst (λ (t : List ℕ). IfOk c.open.result (λ svg. svg ≡ sheet.opening c.args.plan.now c.as_slice.result.now t c.args.style.now))
    (spelled _ _ _ (text.description c.args.story.now) c.as_slice-2.ensures c.spell_description.ensures c.new-description.ensures)
    c.open.ensures)
