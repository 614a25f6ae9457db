use Rattle.fence_audit.proofs.Told.{grows_on, none_more}
use Rattle.fence_audit.proofs.searches.Asking.prepare_forms.Goals as goal

pub loop-round-init : goal.loop-round-init
loop-round-init g c = record { grown = none_more c.args.searches.now.items; searched = λ was. was }

pub loop-round-preserved : goal.loop-round-preserved
loop-round-preserved g c =
    let was = c.loop-round.invariant in
    record {
      grown = grows_on c.args.searches.now.items c.loop-round.searches.items c.search_all.new.searches.items was.grown c.in_ok-search_all.ensures.grown;
      searched = λ first. c.in_ok-search_all.ensures.searched (was.searched first);
    }
