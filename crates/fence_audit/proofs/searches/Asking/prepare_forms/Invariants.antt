use Rattle.fence_audit.specs.Searches.{AreSearched, Grows}
use Rattle.fence_audit.proofs.searches.Asking.prepare_forms.Given as goal

abbrev pub invariant-loop-round : goal.invariant-loop-round
invariant-loop-round g l = record {
  grown : Grows l.initial.searches.items l.searches.items;
  searched : AreSearched l.self l.initial.searches.items → AreSearched l.self l.searches.items;
}
