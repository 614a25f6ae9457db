use Rattle.run_chart.proofs.Appending.{two_append}
use Rattle.run_chart.proofs.sheet.put_key.Goals as goal

pub returns : goal.returns
returns c = two_append c.put_text.result _ _ _ _ _ c.in_ok-put_line.ensures c.put_text.ensures
