use Rattle.std.proofs.Common.{length}
use Rattle.fence_audit.specs.Searches.{AreSearched, Grows}
use Rattle.fence_audit.specs.SideBySide.{ArePrograms}
use Rattle.fence_audit.proofs.searches.Asking.search_all.Given as goal

abbrev pub invariant-loop-rest : goal.invariant-loop-rest
invariant-loop-rest g l = record {
  of_image : ArePrograms l.self.question l.rest;
  grown : Grows l.initial.searches.items l.searches.items;
  searched : AreSearched l.self l.initial.searches.items → AreSearched l.self l.searches.items;
}

abbrev pub decreases-loop-rest : goal.decreases-loop-rest
decreases-loop-rest g l = length l.rest
