use Rattle.std.proofs.Common.{All, take}
use Rattle.fence_audit.specs.Auditing.{IsSame, IsWeighed}
use Rattle.fence_audit.specs.Searches.{AreSearched, Grows}
use Rattle.fence_audit.proofs.searches.Asking.weigh_fence.Given as goal

abbrev pub invariant-loop-form : goal.invariant-loop-form
invariant-loop-form g l = record {
  weighed : All (IsWeighed l.searches.items l.own l.address) (take l.form-index l.form-items);
  same : All (IsSame l.searches.items l.own l.address) l.enough.items;
  grown : Grows l.initial.searches.items l.searches.items;
  searched : AreSearched l.self l.initial.searches.items → AreSearched l.self l.searches.items;
}
