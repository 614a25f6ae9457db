use Rattle.std.proofs.Common.{◌∙◌}
use Rattle.architecture_outcomes.proofs.Searched.{searched}
use Rattle.architecture_outcomes.proofs.beyond.is_found.Goals as goal

pub returns : goal.returns
returns c = let facts = c.binary_search.ensures in c.is_ok.ensures.value ∙ searched _ _ _ c.requires.once facts.bound facts.position
