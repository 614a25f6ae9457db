use Rattle.std.proofs.Common.{All, take}
use Rattle.fence_audit.specs.Auditing.{IsLeftOut}
use Rattle.fence_audit.specs.Searches.{AreSearched, Grows}
use Rattle.fence_audit.proofs.searches.Asking.ask_each.Given as goal

abbrev pub invariant-loop-ordering : goal.invariant-loop-ordering
invariant-loop-ordering g l = record {
  asked : All (IsLeftOut l.searches.items l.patches) (take l.ordering-index l.orderings);
  grown : Grows l.initial.searches.items l.searches.items;
  searched : AreSearched l.self l.initial.searches.items → AreSearched l.self l.searches.items;
}
