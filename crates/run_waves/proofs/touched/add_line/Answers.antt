use Rattle.run_waves.proofs.Adding.{added_last}
use Rattle.run_waves.proofs.touched.add_line.Goals as goal

pub returns : goal.returns
returns c = added_last c.add.result _ _ _ _ _ c.in_ok-add_copies.ensures c.add.ensures
