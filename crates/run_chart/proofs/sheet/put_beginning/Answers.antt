use Rattle.run_chart.proofs.Appending.{three_append}
use Rattle.run_chart.proofs.sheet.put_beginning.Goals as goal

pub returns : goal.returns
returns c = three_append c.put_ground.result _ _ _ _ _ _ _ c.in_ok-put_frame.ensures c.in_ok-put_about.ensures c.put_ground.ensures
