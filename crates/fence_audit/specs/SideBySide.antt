-- Programs that are to be searched, each as the words that stand in it.
use Rattle.std.specs.Prelude.{All, List}
use Rattle.std.specs.Global.{Vec}
use Rattle.fence_audit.specs.Searches.{ArePatchesOf}
use Rattle.fence_audit.specs.declared.searches.Question.{Question}
use Rattle.image_orderings.specs.declared.replacing.Patch.{Patch}

abbrev pub ArePrograms : Question → List (Vec Patch) → Type 0
ArePrograms question programs = All (λ (p : Vec Patch). ArePatchesOf question p.items) programs
