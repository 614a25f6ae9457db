use Rattle.fence_audit.proofs.Told.{grows_on}
use Rattle.fence_audit.proofs.searches.Asking.reverted.Goals as goal

pub loop-patch-preserved : goal.loop-patch-preserved
loop-patch-preserved g c =
    let was = c.loop-patch.invariant in
    let made = c.in_ok-last.ensures in
    record {
      enough = made.enough;
      of_image = made.of_image;
      grown = grows_on c.args.searches.now.items c.loop-patch.searches.items c.replaced_at.new.searches.items was.grown made.grown;
      searched = λ first. made.searched (was.searched first);
    }
