use Rattle.run_waves.proofs.Keeping.{next_kept}
use Rattle.run_waves.proofs.watching.keep.Goals as goal

pub loop-group-preserved : goal.loop-group-preserved
loop-group-preserved c = next_kept c.args.machine.now _ _ _ c.args.groups.now c.loop-group.group-index _ _ c.loop-group-test.true c.in_ok-push.ensures.items c.see.ensures c.loop-group.invariant
