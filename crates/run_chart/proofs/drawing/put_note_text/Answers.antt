use Rattle.std.proofs.Common.{ℕ, List}
use Rattle.run_chart.specs.Shapes as shape
use Rattle.run_chart.proofs.Appending.{both_told, spelt_alone}
use Rattle.run_chart.proofs.drawing.put_note_text.Goals as goal

pub returns : goal.returns
returns c = both_told c.put_note.result (λ (a b : List ℕ). shape.note c.args.plan.now c.args.noted.now.line c.args.hart a b) _ _ _ _ _ _
    (spelt_alone c.new-short.result c.spell_note.new.page c.as_slice.result.now _ c.new-short.ensures c.spell_note.ensures c.as_slice.ensures)
    (spelt_alone c.new-whole.result c.spell_note-2.new.page c.as_slice-2.result.now _ c.new-whole.ensures c.spell_note-2.ensures c.as_slice-2.ensures)
    c.put_note.ensures
