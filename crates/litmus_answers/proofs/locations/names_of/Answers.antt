use Rattle.litmus_answers.proofs.Sorting.{sorted_once}
use Rattle.litmus_answers.proofs.locations.names_of.Goals as goal

pub returns : goal.returns
returns c = sorted_once _ _ _ _ c.in_ok-names.ensures c.sort_unstable.ensures.permutation c.sort_unstable.ensures.sorted c.dedup.ensures.filtered
