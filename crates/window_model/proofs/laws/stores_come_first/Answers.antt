use Rattle.window_model.proofs.Beside.{stores_come_first}
use Rattle.window_model.proofs.laws.stores_come_first.Goals as goal

pub returns : goal.returns
returns c = stores_come_first
