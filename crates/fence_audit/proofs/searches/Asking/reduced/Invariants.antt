use Rattle.fence_audit.specs.Auditing.{IsEnough}
use Rattle.fence_audit.specs.Searches.{ArePatchesOf, AreSearched, Grows}
use Rattle.fence_audit.proofs.searches.Asking.reduced.Given as goal

abbrev pub invariant-loop-ordering : goal.invariant-loop-ordering
invariant-loop-ordering g l = record {
  enough : IsEnough l.own l.searches.items l.last.items;
  of_image : ArePatchesOf l.self.question l.last.items;
  grown : Grows l.initial.searches.items l.searches.items;
  searched : AreSearched l.self l.initial.searches.items → AreSearched l.self l.searches.items;
}
