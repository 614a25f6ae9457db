use Rattle.run_chart.proofs.Appending.{two_append}
use Rattle.run_chart.proofs.shapes.put_left.Goals as goal

pub returns : goal.returns
returns c = two_append c.put_corners-2.result _ _ _ _ _ c.in_ok-put_corners.ensures c.put_corners-2.ensures
