use Rattle.fence_audit.proofs.Told.{grows_on}
use Rattle.fence_audit.proofs.searches.Asking.weakened.Goals as goal
use Rattle.fence_audit.proofs.searches.Asking.weakened.Goals.{then-eq+in_ok-last, else-eq}

pub loop-ordering-preserved : goal.loop-ordering-preserved
loop-ordering-preserved g c =
    let was = c.loop-ordering.invariant in
    elim c.if-eq.branch [
      | then-eq+in_ok-last w ↦ rw (w.searches-is, w.last-is) record {
        enough = w.in_ok-last.ensures.enough;
        of_image = w.in_ok-last.ensures.of_image;
        grown = grows_on c.args.searches.now.items c.loop-ordering.searches.items w.weakened_at.new.searches.items was.grown w.in_ok-last.ensures.grown;
        searched = λ first. w.in_ok-last.ensures.searched (was.searched first);
      }
      | else-eq w ↦ rw (w.searches-is, w.last-is) was
    ]
