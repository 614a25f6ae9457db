use Rattle.std.proofs.Common.{◌≡◌, List, ◌++◌, subst}
use Rattle.std.specs.Prelude.{OnOk}
use Rattle.std.specs.List.{flat_map}
use Rattle.run_chart.specs.Picture.{noted, row}
use Rattle.run_chart.specs.declared.rows.Noted.{Noted}
use Rattle.run_chart.proofs.Written.{then_last}
use Rattle.run_chart.proofs.drawing.put_row.Goals as goal

pub returns : goal.returns
unfolding row
returns c =
    then_last _ _ c.put_event.new.svg _ _ _ c.in_ok-put_event.ensures
    (subst (λ (l : List Noted). OnOk c.put_notes.result (c.put_notes.new.svg ≡ c.put_event.new.svg ++ flat_map (noted c.args.plan.now c.args.names.now.symbols.now c.args.row.now.hart) l)) c.as_slice.ensures.value c.put_notes.ensures)
