use Rattle.window_model.proofs.LazyPaths.{paths_are_lazy}
use Rattle.window_model.proofs.laws.paths_are_lazy.Goals as goal

pub returns : goal.returns
returns c = paths_are_lazy
