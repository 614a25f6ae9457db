use Rattle.image_orderings.proofs.Coming.{none_comes}
use Rattle.image_orderings.proofs.flow.none_comes.Goals as goal

pub returns : goal.returns
returns c = none_comes
