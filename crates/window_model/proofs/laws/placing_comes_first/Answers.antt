use Rattle.window_model.proofs.Lazily.{placing_comes_first}
use Rattle.window_model.proofs.laws.placing_comes_first.Goals as goal

pub returns : goal.returns
returns c = placing_comes_first
