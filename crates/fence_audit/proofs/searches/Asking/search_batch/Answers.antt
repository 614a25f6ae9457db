use Rattle.std.proofs.Common.{[], ◌∷◌, IfOk, IfSome, Option, Result, subst, sym}
use Rattle.std.proofs.lemmas.List.Elements.{All-pop, All-push}
use Rattle.std.specs.declared.alloc.AllocError.{AllocError}
use Rattle.fence_audit.proofs.Told.{grows_on, none_more}
use Rattle.fence_audit.specs.Searches.{AreSearched, IsSearchedBy}
use Rattle.fence_audit.specs.declared.searches.Search.{Search}
use Rattle.fence_audit.proofs.searches.Asking.search_batch.Goals as goal

pub loop-one-init : goal.loop-one-init
loop-one-init g c = record { made = c.in_ok-made.ensures; grown = none_more c.args.searches.now.items; searched = λ was. was }

pub loop-one-preserved : goal.loop-one-preserved
loop-one-preserved g c =
    let asking = c.args.self.now in
    let was = c.loop-one.invariant in
    let P = λ (r : Result Search AllocError). IfOk r (IsSearchedBy asking) in
    let parts = All-pop P c.loop-one.made.items c.pop.new.self.items c.pop.result c.pop.ensures.items was.made in
    let here : P c.in-Some.one = subst (λ (o : Option (Result Search AllocError)). IfSome o P) c.in-Some.is parts.1 in
    let search : IsSearchedBy asking c.in-Ok.search = subst P c.in-Ok.is here in
    record {
      made = parts.0;
      grown = grows_on c.args.searches.now.items c.loop-one.searches.items c.push.new.self.items was.grown (c.in-Ok.search ∷ [], c.in_ok-push.ensures.items);
      searched = λ first. subst (AreSearched asking) (sym c.in_ok-push.ensures.items) (All-push (IsSearchedBy asking) c.loop-one.searches.items c.in-Ok.search (was.searched first) search);
    }
