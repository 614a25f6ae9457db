use Rattle.memory_model.proofs.Judged.{examples_judge_as_defined}
use Rattle.memory_model.proofs.laws.examples_judge_as_defined.Goals as goal

pub returns : goal.returns
returns c = examples_judge_as_defined
