use Rattle.run_chart.proofs.Appending.{two_append}
use Rattle.run_chart.proofs.shapes.put_core.Goals as goal

pub returns : goal.returns
returns c = two_append c.put_line.result _ _ _ _ _ c.in_ok-put_text.ensures c.put_line.ensures
