use Rattle.memory_model.proofs.Litmus.{shapes}
use Rattle.memory_model.proofs.laws.litmus_shapes.Goals as goal

pub returns : goal.returns
returns c = shapes
