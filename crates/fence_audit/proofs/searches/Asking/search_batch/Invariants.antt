use Rattle.std.proofs.Common.{All, IfOk, length}
use Rattle.fence_audit.specs.Searches.{AreSearched, Grows, IsSearchedBy}
use Rattle.fence_audit.proofs.searches.Asking.search_batch.Given as goal

abbrev pub invariant-loop-one : goal.invariant-loop-one
invariant-loop-one g l = record {
  made : All (λ r. IfOk r (IsSearchedBy l.self)) l.made.items;
  grown : Grows l.initial.searches.items l.searches.items;
  searched : AreSearched l.self l.initial.searches.items → AreSearched l.self l.searches.items;
}

abbrev pub decreases-loop-one : goal.decreases-loop-one
decreases-loop-one g l = length l.made.items
