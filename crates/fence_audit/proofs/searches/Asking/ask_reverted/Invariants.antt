use Rattle.std.proofs.Common.{All, take}
use Rattle.fence_audit.specs.Adding.{IsReverted}
use Rattle.fence_audit.specs.Searches.{AreSearched, Grows}
use Rattle.fence_audit.proofs.searches.Asking.ask_reverted.Given as goal

abbrev pub invariant-loop-patch : goal.invariant-loop-patch
invariant-loop-patch g l = record {
  asked : All (IsReverted l.searches.items l.patches) (take l.patch-index l.own);
  grown : Grows l.initial.searches.items l.searches.items;
  searched : AreSearched l.self l.initial.searches.items → AreSearched l.self l.searches.items;
}
