use Rattle.fence_audit.proofs.Told.{grows_on, ok_more}
use Rattle.fence_audit.proofs.searches.Asking.reduced.Goals as goal

pub loop-ordering-preserved : goal.loop-ordering-preserved
loop-ordering-preserved g c =
    let was = c.loop-ordering.invariant in
    let made = c.in_ok-last-2.ensures in
    record {
      enough = made.enough;
      of_image = made.of_image;
      grown = grows_on c.args.searches.now.items c.loop-ordering.searches.items c.reduced_by.new.searches.items was.grown made.grown;
      searched = λ first. made.searched (was.searched first);
    }

pub returns-clause-grown : goal.returns-clause-grown
returns-clause-grown g c =
    ok_more _ _ c.weakened.result (λ so. grows_on c.args.searches.now.items c.loop-ordering.searches.items c.weakened.new.searches.items c.loop-ordering.invariant.grown so) c.weakened.ensures.grown

pub returns-clause-searched : goal.returns-clause-searched
returns-clause-searched g c = ok_more _ _ c.weakened.result (λ so first. so (c.loop-ordering.invariant.searched first)) c.weakened.ensures.searched
