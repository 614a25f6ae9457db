use Rattle.hart.proofs.Endings.{runs_end_as_their_lists}
use Rattle.hart.proofs.laws.runs_end_as_their_lists.Goals as goal

pub returns : goal.returns
returns c = runs_end_as_their_lists
